-- What lines of several give: chains from the left and from the right, and one line for each pair.
use Rattle.std.proofs.Common.{◌≡◌, ℕ, ◌<◌, ◌≤◌, Bool, List, [], ◌∷◌, ◌++◌, length, map, refl, ◌∙◌, subst, arith}
use Rattle.word_core.specs.Words.{BitVector}
use Rattle.word_core.specs.declared.word.TheConstants.{WIDEST}
use Rattle.word_core.specs.Table.{BinaryFits, binary_of, binary_width}
use Rattle.word_core.specs.declared.kinds.Binary.{Binary}
use Rattle.word_core.specs.declared.kinds.Binary.TheVariants as two
use Rattle.btor_tree.specs.declared.lines.Line.{Line}
use Rattle.btor_tree.specs.declared.lines.LineOp.TheVariants as line
use Rattle.btor_tree.specs.Fits.{greatest_id, plain_arg, width_at}
use Rattle.btor_tree.specs.Frame.{nothing}
use Rattle.btor_tree.specs.Sharing.{GrowsByShared}
use Rattle.btor_tree.proofs.Widths.{width_small}
use Rattle.moxi_lines.specs.TermLines.{AllBuilt, Built, chain_lines, compared_lines, folded_lines, implied_lines, neighbours, paired_lines, pairs_of, with_binary, with_implication}
use Rattle.moxi_lines.specs.TermLaws.{AreNumbered}
use Rattle.moxi_lines.proofs.Growing.{grown_long, grown_none, grown_then}
use Rattle.moxi_lines.proofs.Steps.{BuiltWord, WordAt, binary_step, later_word, word_grows}

-- the words of operators on several words
abbrev pub fold_words : Binary → BitVector → List BitVector → BitVector
fold_words b x [] = x
fold_words b x (y ∷ ys) = fold_words b (binary_of b x y) ys

abbrev pub fold_all : Binary → List BitVector → BitVector
fold_all b [] = nothing
fold_all b (x ∷ xs) = fold_words b x xs

abbrev pub implied_word : BitVector → List BitVector → BitVector
implied_word x [] = x
implied_word x (y ∷ ys) = binary_of two.Implies x (implied_word y ys)

abbrev pub pair_words : Binary → List (BitVector × BitVector) → List BitVector
pair_words b xs = map (λ (x : BitVector × BitVector). binary_of b x.0 x.1) xs

-- ---- growth

pub binary_grows : (b : Binary) (lines : List Line) (p q : ℕ) → GrowsByShared lines (with_binary b lines p q).0
binary_grows b lines p q = word_grows lines (line.Binary b) (binary_width b (width_at lines p) (width_at lines q)) (plain_arg p ∷ plain_arg q ∷ []) refl

pub folded_grows : (b : Binary) (m : Built) (qs : List ℕ) → GrowsByShared m.0 (folded_lines b m qs).0
folded_grows b m [] = grown_none m.0
folded_grows b m (q ∷ qs) =
    let n = with_binary b m.0 m.1 q in
    grown_then m.0 n.0 (folded_lines b n qs).0 (binary_grows b m.0 m.1 q) (folded_grows b n qs)

pub chain_grows : (b : Binary) (lines : List Line) (ps : List ℕ) → GrowsByShared lines (chain_lines b lines ps).0
chain_grows b lines [] = grown_none lines
chain_grows b lines (p ∷ ps) = folded_grows b (lines, p) ps

pub implied_grows : (lines : List Line) (p : ℕ) (ps : List ℕ) → GrowsByShared lines (implied_lines lines p ps).0
implied_grows lines p [] = grown_none lines
implied_grows lines p (q ∷ qs) =
    let m = implied_lines lines q qs in
    grown_then lines m.0 (with_implication p m).0 (implied_grows lines q qs) (binary_grows two.Implies m.0 p m.1)

pub paired_grows : (b : Binary) (lines : List Line) (xs : List (ℕ × ℕ)) → GrowsByShared lines (paired_lines b lines xs).0
paired_grows b lines [] = grown_none lines
paired_grows b lines (x ∷ xs) =
    let n = with_binary b lines x.0 x.1 in
    grown_then lines n.0 (paired_lines b n.0 xs).0 (binary_grows b lines x.0 x.1) (paired_grows b n.0 xs)

pub compared_grows : (b : Binary) (lines : List Line) (xs : List (ℕ × ℕ)) → GrowsByShared lines (compared_lines b lines xs).0
compared_grows b lines xs =
    let m = paired_lines b lines xs in
    grown_then lines m.0 (chain_lines two.And m.0 m.1).0 (paired_grows b lines xs) (chain_grows two.And m.0 m.1)

-- ---- words

module _ (row : List BitVector) (known : Bool) where
  abbrev pub WordsAt : List Line → List ℕ → ℕ → List BitVector → Type 0
  WordsAt lines [] w [] = Unit {0}
  WordsAt lines (p ∷ ps) w (x ∷ xs) = WordAt row known lines p w x × WordsAt lines ps w xs
  WordsAt lines ps w xs = ⊥

  abbrev pub PairsAt : List Line → List (ℕ × ℕ) → ℕ → List (BitVector × BitVector) → Type 0
  PairsAt lines [] w [] = Unit {0}
  PairsAt lines (p ∷ ps) w (x ∷ xs) = (WordAt row known lines p.0 w x.0 × WordAt row known lines p.1 w x.1) × PairsAt lines ps w xs
  PairsAt lines ps w xs = ⊥

  pub record BuiltWords (lines : List Line) (m : AllBuilt) (w : ℕ) (xs : List BitVector) : Type 0 where
    pub grows : GrowsByShared lines m.0
    pub numbered : AreNumbered m.0
    pub at : WordsAt m.0 m.1 w xs

  later_words : (a b : List Line) (ps : List ℕ) (w : ℕ) (xs : List BitVector) → 1 ≤ w → GrowsByShared a b → WordsAt a ps w xs → WordsAt b ps w xs
  later_words a b [] w [] h g at = tt
  later_words a b [] w (x ∷ xs) h g at = absurd at
  later_words a b (p ∷ ps) w [] h g at = absurd at
  later_words a b (p ∷ ps) w (x ∷ xs) h g at = (later_word row known a b p w x h g at.0, later_words a b ps w xs h g at.1)

  later_pairs : (a b : List Line) (ps : List (ℕ × ℕ)) (w : ℕ) (xs : List (BitVector × BitVector)) → 1 ≤ w → GrowsByShared a b → PairsAt a ps w xs → PairsAt b ps w xs
  later_pairs a b [] w [] h g at = tt
  later_pairs a b [] w (x ∷ xs) h g at = absurd at
  later_pairs a b (p ∷ ps) w [] h g at = absurd at
  later_pairs a b (p ∷ ps) w (x ∷ xs) h g at =
      ((later_word row known a b p.0 w x.0 h g at.0.0, later_word row known a b p.1 w x.1 h g at.0.1), later_pairs a b ps w xs h g at.1)

  pub folded_made : (b : Binary) (w : ℕ) → 1 ≤ w → BinaryFits b w w → binary_width b w w ≡ w → (m : Built) (x : BitVector) (qs : List ℕ) (ys : List BitVector) → AreNumbered m.0
      → WordAt row known m.0 m.1 w x → WordsAt m.0 qs w ys → length (folded_lines b m qs).0 < greatest_id → BuiltWord row known m.0 (folded_lines b m qs) w (fold_words b x ys)
  folded_made b w h fits e m x [] [] n a at room = record { grows = grown_none m.0; numbered = n; at = a }
  folded_made b w h fits e m x [] (y ∷ ys) n a at room = absurd at
  folded_made b w h fits e m x (q ∷ qs) [] n a at room = absurd at
  folded_made b w h fits e m x (q ∷ qs) (y ∷ ys) n a at room =
      let next = with_binary b m.0 m.1 q in
      let small : w ≤ WIDEST = subst (λ i. i ≤ WIDEST) a.width (width_small m.0 m.1 n.fit) in
      let g = binary_grows b m.0 m.1 q in
      let more = folded_grows b next qs in
      let few : length next.0 < greatest_id = omega (arith, room, grown_long next.0 (folded_lines b next qs).0 more) in
      let s = binary_step row known b m.0 m.1 q w w x y n h h a at.0 fits (omega (arith, e, h)) (omega (arith, e, small)) few in
      let here : WordAt row known next.0 next.1 w (binary_of b x y) = record { width = s.at.width ∙ e; word = s.at.word } in
      let rest = folded_made b w h fits e next (binary_of b x y) qs ys s.numbered here (later_words m.0 next.0 qs w ys h g at.1) room in
      record { grows = grown_then m.0 next.0 (folded_lines b next qs).0 g more; numbered = rest.numbered; at = rest.at }

  pub chain_made : (b : Binary) (w : ℕ) → 1 ≤ w → BinaryFits b w w → binary_width b w w ≡ w → (lines : List Line) (ps : List ℕ) (xs : List BitVector) → AreNumbered lines → 1 ≤ length xs
      → WordsAt lines ps w xs → length (chain_lines b lines ps).0 < greatest_id → BuiltWord row known lines (chain_lines b lines ps) w (fold_all b xs)
  chain_made b w h fits e lines ps [] n l at room = absurd (omega (arith, l))
  chain_made b w h fits e lines [] (x ∷ xs) n l at room = absurd at
  chain_made b w h fits e lines (p ∷ ps) (x ∷ xs) n l at room = folded_made b w h fits e (lines, p) x ps xs n at.0 at.1 room

  pub implied_made : (lines : List Line) (p : ℕ) (x : BitVector) (ps : List ℕ) (xs : List BitVector) → AreNumbered lines → WordAt row known lines p 1 x → WordsAt lines ps 1 xs
      → length (implied_lines lines p ps).0 < greatest_id → BuiltWord row known lines (implied_lines lines p ps) 1 (implied_word x xs)
  implied_made lines p x [] [] n a at room = record { grows = grown_none lines; numbered = n; at = a }
  implied_made lines p x [] (y ∷ ys) n a at room = absurd at
  implied_made lines p x (q ∷ qs) [] n a at room = absurd at
  implied_made lines p x (q ∷ qs) (y ∷ ys) n a at room =
      let m = implied_lines lines q qs in
      let g = binary_grows two.Implies m.0 p m.1 in
      let few : length m.0 < greatest_id = omega (arith, room, grown_long m.0 (with_implication p m).0 g) in
      let inner = implied_made lines q y qs ys n at.0 at.1 few in
      let one : 1 ≤ 1 = omega arith in
      let s = binary_step row known two.Implies m.0 p m.1 1 1 x (implied_word y ys) inner.numbered one one (later_word row known lines m.0 p 1 x one inner.grows a) inner.at (refl, refl) one (omega arith) room in
      record { grows = grown_then lines m.0 (with_implication p m).0 inner.grows g; numbered = s.numbered; at = s.at }

  pub paired_made : (b : Binary) (w : ℕ) → 1 ≤ w → BinaryFits b w w → binary_width b w w ≡ 1 → (lines : List Line) (ps : List (ℕ × ℕ)) (xs : List (BitVector × BitVector)) → AreNumbered lines
      → PairsAt lines ps w xs → length (paired_lines b lines ps).0 < greatest_id → BuiltWords lines (paired_lines b lines ps) 1 (pair_words b xs)
  paired_made b w h fits e lines [] [] n at room = record { grows = grown_none lines; numbered = n; at = tt }
  paired_made b w h fits e lines [] (x ∷ xs) n at room = absurd at
  paired_made b w h fits e lines (p ∷ ps) [] n at room = absurd at
  paired_made b w h fits e lines (p ∷ ps) (x ∷ xs) n at room =
      let next = with_binary b lines p.0 p.1 in
      let g = binary_grows b lines p.0 p.1 in
      let more = paired_grows b next.0 ps in
      let few : length next.0 < greatest_id = omega (arith, room, grown_long next.0 (paired_lines b next.0 ps).0 more) in
      let s = binary_step row known b lines p.0 p.1 w w x.0 x.1 n h h at.0.0 at.0.1 fits (omega (arith, e)) (omega (arith, e)) few in
      let here : WordAt row known next.0 next.1 1 (binary_of b x.0 x.1) = record { width = s.at.width ∙ e; word = s.at.word } in
      let rest = paired_made b w h fits e next.0 ps xs s.numbered (later_pairs lines next.0 ps w xs h g at.1) room in
      record {
        grows = grown_then lines next.0 (paired_lines b next.0 ps).0 g more;
        numbered = rest.numbered;
        at = (later_word row known next.0 (paired_lines b next.0 ps).0 next.1 1 (binary_of b x.0 x.1) (omega arith) more here, rest.at);
      }

  pub compared_made : (b : Binary) (w : ℕ) → 1 ≤ w → BinaryFits b w w → binary_width b w w ≡ 1 → (lines : List Line) (ps : List (ℕ × ℕ)) (xs : List (BitVector × BitVector)) → AreNumbered lines → 1 ≤ length (pair_words b xs)
      → PairsAt lines ps w xs → length (compared_lines b lines ps).0 < greatest_id → BuiltWord row known lines (compared_lines b lines ps) 1 (fold_all two.And (pair_words b xs))
  compared_made b w h fits e lines ps xs n l at room =
      let m = paired_lines b lines ps in
      let few : length m.0 < greatest_id = omega (arith, room, grown_long m.0 (chain_lines two.And m.0 m.1).0 (chain_grows two.And m.0 m.1)) in
      let made = paired_made b w h fits e lines ps xs n at few in
      let all = chain_made two.And 1 (omega arith) refl refl m.0 m.1 (pair_words b xs) made.numbered l made.at room in
      record { grows = grown_then lines m.0 (chain_lines two.And m.0 m.1).0 made.grows all.grows; numbered = all.numbered; at = all.at }

  -- ---- pairs

  pub neighbours_at : (lines : List Line) (p w : ℕ) (x : BitVector) (ps : List ℕ) (xs : List BitVector) → WordAt row known lines p w x → WordsAt lines ps w xs → PairsAt lines (neighbours p ps) w (neighbours x xs)
  neighbours_at lines p w x [] [] a at = tt
  neighbours_at lines p w x [] (y ∷ ys) a at = absurd at
  neighbours_at lines p w x (q ∷ qs) [] a at = absurd at
  neighbours_at lines p w x (q ∷ qs) (y ∷ ys) a at = ((a, at.0), neighbours_at lines q w y qs ys at.0 at.1)

  with_each : (lines : List Line) (p w : ℕ) (x : BitVector) (ps : List ℕ) (xs : List BitVector) → WordAt row known lines p w x → WordsAt lines ps w xs → PairsAt lines (map (λ q. (p, q)) ps) w (map (λ y. (x, y)) xs)
  with_each lines p w x [] [] a at = tt
  with_each lines p w x [] (y ∷ ys) a at = absurd at
  with_each lines p w x (q ∷ qs) [] a at = absurd at
  with_each lines p w x (q ∷ qs) (y ∷ ys) a at = ((a, at.0), with_each lines p w x qs ys a at.1)

  both_at : (lines : List Line) (w : ℕ) (ps qs : List (ℕ × ℕ)) (xs ys : List (BitVector × BitVector)) → PairsAt lines ps w xs → PairsAt lines qs w ys → PairsAt lines (ps ++ qs) w (xs ++ ys)
  both_at lines w [] qs [] ys a b = b
  both_at lines w [] qs (x ∷ xs) ys a b = absurd a
  both_at lines w (p ∷ ps) qs [] ys a b = absurd a
  both_at lines w (p ∷ ps) qs (x ∷ xs) ys a b = (a.0, both_at lines w ps qs xs ys a.1 b)

  pub pairs_at : (lines : List Line) (w : ℕ) (ps : List ℕ) (xs : List BitVector) → WordsAt lines ps w xs → PairsAt lines (pairs_of ps) w (pairs_of xs)
  pairs_at lines w [] [] at = tt
  pairs_at lines w [] (x ∷ xs) at = absurd at
  pairs_at lines w (p ∷ ps) [] at = absurd at
  pairs_at lines w (p ∷ ps) (x ∷ xs) at =
      both_at lines w (map (λ q. (p, q)) ps) (pairs_of ps) (map (λ y. (x, y)) xs) (pairs_of xs) (with_each lines p w x ps xs at.0 at.1) (pairs_at lines w ps xs at.1)
