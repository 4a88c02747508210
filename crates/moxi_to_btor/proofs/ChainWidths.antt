-- The widths of chains, and when their lines may be put.
use Rattle.std.proofs.Common.{◌≡◌, ℕ, ◌<◌, ◌≤◌, List, [], ◌∷◌, ◌++◌, length, map, refl, subst, arith}
use Rattle.std.specs.List.{AllByRecursion}
use Rattle.word_core.specs.Table.{BinaryFits, binary_width}
use Rattle.word_core.specs.declared.kinds.Binary.{Binary}
use Rattle.word_core.specs.declared.kinds.Binary.TheVariants as two
use Rattle.btor_tree.specs.declared.lines.Line.{Line}
use Rattle.btor_tree.specs.Fits.{greatest_id}
use Rattle.btor_tree.specs.Sharing.{GrowsByShared}
use Rattle.moxi_lines.specs.TermLines.{Built, chain_lines, compared_lines, folded_lines, implied_lines, neighbours, paired_lines, pairs_of, with_binary, with_implication}
use Rattle.moxi_lines.proofs.Growing.{grown_long, grown_none, grown_then}
use Rattle.moxi_lines.proofs.Chains.{binary_grows, chain_grows, folded_grows, paired_grows}
use Rattle.moxi_to_btor.specs.TermPutting.{CanChain, CanCompare, CanFold, CanImply, CanImplyAll, CanPair, implied_onto}
use Rattle.moxi_to_btor.proofs.Widths.{IsWide, binary_can, binary_wide, later_wide}
use Rattle.moxi_layout.proofs.Chains.{paired_long}
use Rattle.moxi_scripts.specs.laws.WholeParts.{all_append}

abbrev pub AreWide : List Line → List ℕ → ℕ → Type 0
AreWide lines ps w = AllByRecursion (λ p. IsWide lines p w) ps

abbrev pub PairsAreWide : List Line → List (ℕ × ℕ) → ℕ → Type 0
PairsAreWide lines xs w = AllByRecursion (λ (x : ℕ × ℕ). IsWide lines x.0 w × IsWide lines x.1 w) xs

later_all : (a b : List Line) (ps : List ℕ) (w : ℕ) → GrowsByShared a b → AreWide a ps w → AreWide b ps w
later_all a b [] w g h = tt
later_all a b (p ∷ ps) w g h = (later_wide a b p w g h.0, later_all a b ps w g h.1)

later_pairs : (a b : List Line) (xs : List (ℕ × ℕ)) (w : ℕ) → GrowsByShared a b → PairsAreWide a xs w → PairsAreWide b xs w
later_pairs a b [] w g h = tt
later_pairs a b (x ∷ xs) w g h = ((later_wide a b x.0 w g h.0.0, later_wide a b x.1 w g h.0.1), later_pairs a b xs w g h.1)

all_front : {A : Type 0} (P : A → Type 0) (xs : List A) (y : A) → AllByRecursion P (xs ++ y ∷ []) → AllByRecursion P xs × P y
all_front P [] y a = (tt, a.0)
all_front P (x ∷ xs) y a = let r = all_front P xs y a.1 in ((a.0, r.0), r.1)

-- an operator that keeps the width of its two words
pub record Keeps (b : Binary) (w : ℕ) : Type 0 where
  pub fits : BinaryFits b w w
  pub width : binary_width b w w ≡ w

kept : (b : Binary) (lines : List Line) (p q w : ℕ) → Keeps b w → IsWide lines p w → IsWide lines q w → IsWide (with_binary b lines p q).0 (with_binary b lines p q).1 w
kept b lines p q w k i j =
    subst (IsWide (with_binary b lines p q).0 (with_binary b lines p q).1) k.width (binary_wide b lines p q w w i j (omega (arith, k.width, i.low)) (omega (arith, k.width, i.high)))

pub folded_wide : (b : Binary) (w : ℕ) → Keeps b w → (m : Built) (qs : List ℕ) → IsWide m.0 m.1 w → AreWide m.0 qs w → IsWide (folded_lines b m qs).0 (folded_lines b m qs).1 w
folded_wide b w k m [] h a = h
folded_wide b w k m (q ∷ qs) h a =
    let n = with_binary b m.0 m.1 q in
    folded_wide b w k n qs (kept b m.0 m.1 q w k h a.0) (later_all m.0 n.0 qs w (binary_grows b m.0 m.1 q) a.1)

pub folded_can : (b : Binary) (w : ℕ) → Keeps b w → (m : Built) (qs : List ℕ) → IsWide m.0 m.1 w → AreWide m.0 qs w → length (folded_lines b m qs).0 < greatest_id → CanFold b m qs
folded_can b w k m [] h a room = tt
folded_can b w k m (q ∷ qs) h a room =
    let n = with_binary b m.0 m.1 q in
    let few : length n.0 < greatest_id = omega (arith, room, grown_long n.0 (folded_lines b n qs).0 (folded_grows b n qs)) in (
      binary_can b m.0 m.1 q w w h a.0 k.fits (omega (arith, k.width, h.low)) (omega (arith, k.width, h.high)) few,
      folded_can b w k n qs (kept b m.0 m.1 q w k h a.0) (later_all m.0 n.0 qs w (binary_grows b m.0 m.1 q) a.1) room,
    )

pub chain_wide : (b : Binary) (w : ℕ) → Keeps b w → (lines : List Line) (ps : List ℕ) → 1 ≤ length ps → AreWide lines ps w → IsWide (chain_lines b lines ps).0 (chain_lines b lines ps).1 w
chain_wide b w k lines [] l a = absurd (omega (arith, l))
chain_wide b w k lines (p ∷ ps) l a = folded_wide b w k (lines, p) ps a.0 a.1

pub chain_can : (b : Binary) (w : ℕ) → Keeps b w → (lines : List Line) (ps : List ℕ) → AreWide lines ps w → length (chain_lines b lines ps).0 < greatest_id → CanChain b lines ps
chain_can b w k lines [] a room = tt
chain_can b w k lines (p ∷ ps) a room = folded_can b w k (lines, p) ps a.0 a.1 room

-- ---- implications

implication_wide : (p : ℕ) (m : Built) → IsWide m.0 p 1 → IsWide m.0 m.1 1 → IsWide (with_implication p m).0 (with_implication p m).1 1
implication_wide p m h i = binary_wide two.Implies m.0 p m.1 1 1 h i (omega arith) (omega arith)

onto_grows : (ps : List ℕ) (m : Built) → GrowsByShared m.0 (implied_onto ps m).0
onto_grows [] m = grown_none m.0
onto_grows (p ∷ ps) m =
    let n = implied_onto ps m in
    grown_then m.0 n.0 (with_implication p n).0 (onto_grows ps m) (binary_grows two.Implies n.0 p n.1)

pub onto_wide : (ps : List ℕ) (m : Built) → AreWide m.0 ps 1 → IsWide m.0 m.1 1 → IsWide (implied_onto ps m).0 (implied_onto ps m).1 1
onto_wide [] m a h = h
onto_wide (p ∷ ps) m a h =
    let n = implied_onto ps m in
    implication_wide p n (later_wide m.0 n.0 p 1 (onto_grows ps m) a.0) (onto_wide ps m a.1 h)

onto_can : (ps : List ℕ) (m : Built) → AreWide m.0 ps 1 → IsWide m.0 m.1 1 → length (implied_onto ps m).0 < greatest_id → CanImply ps m
onto_can [] m a h room = tt
onto_can (p ∷ ps) m a h room =
    let n = implied_onto ps m in
    let few : length n.0 < greatest_id = omega (arith, room, grown_long n.0 (with_implication p n).0 (binary_grows two.Implies n.0 p n.1)) in (
      onto_can ps m a.1 h few,
      binary_can two.Implies n.0 p n.1 1 1 (later_wide m.0 n.0 p 1 (onto_grows ps m) a.0) (onto_wide ps m a.1 h) (refl, refl) (omega arith) (omega arith) room,
    )

pub all_can : (lines : List Line) (ps : List ℕ) → AreWide lines ps 1 → ((before : List ℕ) (last : ℕ) → ps ≡ before ++ last ∷ [] → length (implied_onto before (lines, last)).0 < greatest_id) → CanImplyAll lines ps
all_can lines ps a room before last e =
    let r = all_front (λ p. IsWide lines p 1) before last (subst (λ qs. AreWide lines qs 1) e a) in
    onto_can before (lines, last) r.0 r.1 (room before last e)

implied_grows_wide : (lines : List Line) (p : ℕ) (ps : List ℕ) → IsWide lines p 1 → AreWide lines ps 1 → GrowsByShared lines (implied_lines lines p ps).0 × IsWide (implied_lines lines p ps).0 (implied_lines lines p ps).1 1
implied_grows_wide lines p [] h a = (grown_none lines, h)
implied_grows_wide lines p (q ∷ qs) h a =
    let n = implied_lines lines q qs in
    let r = implied_grows_wide lines q qs a.0 a.1 in
    (grown_then lines n.0 (with_implication p n).0 r.0 (binary_grows two.Implies n.0 p n.1), implication_wide p n (later_wide lines n.0 p 1 r.0 h) r.1)

pub implied_wide : (lines : List Line) (p : ℕ) (ps : List ℕ) → IsWide lines p 1 → AreWide lines ps 1 → IsWide (implied_lines lines p ps).0 (implied_lines lines p ps).1 1
implied_wide lines p ps h a = (implied_grows_wide lines p ps h a).1

-- ---- pairs

-- a comparison of words of one width
pub record Compares (b : Binary) (w : ℕ) : Type 0 where
  pub fits : BinaryFits b w w
  pub width : binary_width b w w ≡ 1

pub compared_wide : (b : Binary) (lines : List Line) (p q w : ℕ) → Compares b w → IsWide lines p w → IsWide lines q w → IsWide (with_binary b lines p q).0 (with_binary b lines p q).1 1
compared_wide b lines p q w k i j =
    subst (IsWide (with_binary b lines p q).0 (with_binary b lines p q).1) k.width (binary_wide b lines p q w w i j (omega (arith, k.width)) (omega (arith, k.width)))

pub compared_can : (b : Binary) (lines : List Line) (p q w : ℕ) → Compares b w → IsWide lines p w → IsWide lines q w → length (with_binary b lines p q).0 < greatest_id → CanChain b lines (p ∷ q ∷ [])
compared_can b lines p q w k i j room = (binary_can b lines p q w w i j k.fits (omega (arith, k.width)) (omega (arith, k.width)) room, tt)

paired_wide : (b : Binary) (w : ℕ) → Compares b w → (lines : List Line) (xs : List (ℕ × ℕ)) → PairsAreWide lines xs w → AreWide (paired_lines b lines xs).0 (paired_lines b lines xs).1 1
paired_wide b w k lines [] a = tt
paired_wide b w k lines (x ∷ xs) a =
    let n = with_binary b lines x.0 x.1 in (
      later_wide n.0 (paired_lines b n.0 xs).0 n.1 1 (paired_grows b n.0 xs) (compared_wide b lines x.0 x.1 w k a.0.0 a.0.1),
      paired_wide b w k n.0 xs (later_pairs lines n.0 xs w (binary_grows b lines x.0 x.1) a.1),
    )

paired_can : (b : Binary) (w : ℕ) → Compares b w → (lines : List Line) (xs : List (ℕ × ℕ)) → PairsAreWide lines xs w → length (paired_lines b lines xs).0 < greatest_id → CanPair b lines xs
paired_can b w k lines [] a room = tt
paired_can b w k lines (x ∷ xs) a room =
    let n = with_binary b lines x.0 x.1 in
    let few : length n.0 < greatest_id = omega (arith, room, grown_long n.0 (paired_lines b n.0 xs).0 (paired_grows b n.0 xs)) in (
      (compared_can b lines x.0 x.1 w k a.0.0 a.0.1 few).0,
      paired_can b w k n.0 xs (later_pairs lines n.0 xs w (binary_grows b lines x.0 x.1) a.1) room,
    )

pub and_keeps : Keeps two.And 1
and_keeps = record { fits = refl; width = refl }

pub comparison_wide : (b : Binary) (w : ℕ) → Compares b w → (lines : List Line) (xs : List (ℕ × ℕ)) → 1 ≤ length xs → PairsAreWide lines xs w → IsWide (compared_lines b lines xs).0 (compared_lines b lines xs).1 1
comparison_wide b w k lines xs l a =
    let m = paired_lines b lines xs in
    chain_wide two.And 1 and_keeps m.0 m.1 (omega (arith, l, paired_long b lines xs)) (paired_wide b w k lines xs a)

pub comparison_can : (b : Binary) (w : ℕ) → Compares b w → (lines : List Line) (xs : List (ℕ × ℕ)) → PairsAreWide lines xs w → length (compared_lines b lines xs).0 < greatest_id → CanCompare b lines xs
comparison_can b w k lines xs a room =
    let m = paired_lines b lines xs in
    let few : length m.0 < greatest_id = omega (arith, room, grown_long m.0 (chain_lines two.And m.0 m.1).0 (chain_grows two.And m.0 m.1)) in
    (paired_can b w k lines xs a few, chain_can two.And 1 and_keeps m.0 m.1 (paired_wide b w k lines xs a) room)

pub neighbours_wide : (lines : List Line) (w p : ℕ) (ps : List ℕ) → IsWide lines p w → AreWide lines ps w → PairsAreWide lines (neighbours p ps) w
neighbours_wide lines w p [] h a = tt
neighbours_wide lines w p (q ∷ qs) h a = ((h, a.0), neighbours_wide lines w q qs a.0 a.1)

with_each : (lines : List Line) (w p : ℕ) (ps : List ℕ) → IsWide lines p w → AreWide lines ps w → PairsAreWide lines (map (λ q. (p, q)) ps) w
with_each lines w p [] h a = tt
with_each lines w p (q ∷ qs) h a = ((h, a.0), with_each lines w p qs h a.1)

pub pairs_wide : (lines : List Line) (w : ℕ) (ps : List ℕ) → AreWide lines ps w → PairsAreWide lines (pairs_of ps) w
pairs_wide lines w [] a = tt
pairs_wide lines w (p ∷ ps) a = all_append (λ (x : ℕ × ℕ). IsWide lines x.0 w × IsWide lines x.1 w) (map (λ q. (p, q)) ps) (pairs_of ps) (with_each lines w p ps a.0 a.1) (pairs_wide lines w ps a.1)
