-- The latches of several reachable formulas, and what a query's bad line takes.
use Rattle.std.proofs.Common.{◌≡◌, ℕ, ◌<◌, ◌≤◌, Bool, true, ◌&&◌, ◌||◌, List, [], ◌∷◌, ◌++◌, length, map, refl, sym, ap, ◌∙◌, subst, arith, append_assoc}
use Rattle.std.specs.Prelude.{codes}
use Rattle.std.specs.List.{AllByRecursion, AllZip}
use Rattle.std.proofs.Math.Bool.{and_assoc}
use Rattle.std.proofs.lemmas.List.{append-nil}
use Rattle.word_core.specs.Words.{BitVector}
use Rattle.word_core.specs.declared.kinds.Binary.TheVariants as two
use Rattle.btor_tree.specs.declared.lines.Line.{Line}
use Rattle.btor_tree.specs.declared.lines.LineOp.TheVariants as line
use Rattle.btor_tree.specs.Fits.{greatest_id}
use Rattle.btor_tree.specs.Sharing.{GrowsByShared}
use Rattle.moxi_terms.specs.Sorted.{AreFunctions}
use Rattle.moxi_terms.specs.Value.{Values}
use Rattle.moxi_scripts.specs.Script.{formula_at}
use Rattle.moxi_flat.specs.FlatSorts.{AreFlatTruths}
use Rattle.moxi_flat.specs.FlatSystem.{PlainFlatSystem}
use Rattle.moxi_lines.specs.TermLines.{Built, chain_lines, with_binary}
use Rattle.moxi_lines.specs.TermLaws.{AreNumbered, HaveCodes}
use Rattle.moxi_lines.proofs.Chains.{binary_grows, chain_grows}
use Rattle.moxi_lines.proofs.Growing.{grown_long, grown_then}
use Rattle.moxi_lines.specs.Lines.{Reaching, formula_name, head_lines, with_all_met, with_formula, with_given, with_latch, with_one_met, with_reachable, with_reachables, zero_place}
use Rattle.moxi_lines.proofs.Extending.{Extends, extends_long, extends_none, extends_then, extends_width, quietly}
use Rattle.moxi_layout.proofs.QueryLines.{IsLatch, Latch, are_reached, reached_until}
use Rattle.moxi_layout.specs.Layout.{is_reached, is_set}
use Rattle.moxi_layout.proofs.Bits.{BitAt, all_true, and_chain, bit_later, bits_later, gate, or_chain, some_bit, some_true, zip_both, zip_push}
use Rattle.moxi_layout.proofs.LatchLines.{head_long, latch_closed, latch_extends, latch_later, latch_opened, next_extends, open_later}
use Rattle.moxi_layout.proofs.Conditions.{Stands, formula_grows, formula_is, formula_made, stands_later}
use Rattle.moxi_lines.proofs.Words.{and_bit, or_bit}

abbrev pub seen_name : PlainFlatSystem → List ℕ → ℕ → List ℕ
seen_name f name r = name ++ (codes "." ++ (formula_name f.reachables r ++ codes ".seen"))

-- the latch of a reachable formula
abbrev pub seen_latch : PlainFlatSystem → List ℕ → List ℕ → Reaching → ℕ → Latch
seen_latch f inputs name m r =
    let s = with_latch m.lines (seen_name f name r) zero_place in
    let n = with_formula f.scope inputs s.0 (formula_at f.reachables r) in
    record { state = s.1; next = (with_binary two.Or n.0 s.1 n.1).1 }

abbrev pub seen_latches : PlainFlatSystem → List ℕ → List ℕ → Reaching → List ℕ → List Latch
seen_latches f inputs name m [] = []
seen_latches f inputs name m (r ∷ rs) = seen_latch f inputs name m r ∷ seen_latches f inputs name (with_reachable f inputs name m r) rs

module _ (f : PlainFlatSystem) (inputs : List ℕ) (name : List ℕ) where
  -- from the latch's init to the gate of the formula
  pub seen_grows : (lines : List Line) (s r : ℕ) → let n = with_formula f.scope inputs lines (formula_at f.reachables r) in GrowsByShared lines (with_binary two.Or n.0 s n.1).0
  seen_grows lines s r =
      let n = with_formula f.scope inputs lines (formula_at f.reachables r) in
      grown_then lines n.0 (with_binary two.Or n.0 s n.1).0 (formula_grows f inputs lines (formula_at f.reachables r)) (binary_grows two.Or n.0 s n.1)

  pub reachable_extends : (m : Reaching) (r : ℕ) → Extends head_lines m.lines → Extends m.lines (with_reachable f inputs name m r).lines
  reachable_extends m r g =
      let s = with_latch m.lines (seen_name f name r) zero_place in
      let n = with_formula f.scope inputs s.0 (formula_at f.reachables r) in
      let o = with_binary two.Or n.0 s.1 n.1 in
      let e1 = latch_extends m.lines (seen_name f name r) zero_place g in
      let e2 = extends_then m.lines s.0 o.0 e1 (quietly s.0 o.0 (seen_grows s.0 s.1 r)) in
      extends_then m.lines o.0 _ e2 (next_extends o.0 s.1 o.1 (extends_then head_lines m.lines o.0 g e2))

  pub reachables_extend : (m : Reaching) (rs : List ℕ) → Extends head_lines m.lines → Extends m.lines (with_reachables f inputs name m rs).lines
  reachables_extend m [] g = extends_none m.lines
  reachables_extend m (r ∷ rs) g =
      let n = with_reachable f inputs name m r in
      let e = reachable_extends m r g in
      extends_then m.lines n.lines (with_reachables f inputs name n rs).lines e (reachables_extend n rs (extends_then head_lines m.lines n.lines g e))

module _ (f : PlainFlatSystem) (codes_fit : HaveCodes f.scope.enumerations) (functions : AreFunctions f.scope.enumerations f.scope.functions) (inputs : List ℕ) (row : List BitVector) (known first : Bool) (now : Values) where
  abbrev pub Ready : List Line → Type 0
  Ready lines = Stands f codes_fit functions inputs row known first now lines

  -- the formulas' words, and those of whether each was reached until now
  pub record ReachingMade (m : Reaching) (fs ss : List Bool) : Type 0 where
    pub numbered : AreNumbered m.lines
    pub formulas : AllZip (BitAt row known m.lines) m.formulas fs
    pub seen : AllZip (BitAt row known m.lines) m.seen ss

  record OneReached (m new : Reaching) (r : ℕ) (l : Latch) (fs ss : List Bool) : Type 0 where
    extends : Extends m.lines new.lines
    made : ReachingMade new (fs ++ is_reached f now r ∷ []) (ss ++ reached_until f row now r l ∷ [])
    latch : IsLatch new.lines zero_place l
    at : BitAt row known new.lines l.next (reached_until f row now r l)

  reachable_made : (name : List ℕ) (m : Reaching) (r : ℕ) (fs ss : List Bool) → r < length f.reachables → AreFlatTruths f f.reachables → Ready m.lines → ReachingMade m fs ss → length (with_reachable f inputs name m r).lines < greatest_id
      → OneReached m (with_reachable f inputs name m r) r (seen_latch f inputs name m r) fs ss
  reachable_made name m r fs ss h sorts v d room =
      let l = seen_latch f inputs name m r in
      let t = formula_at f.reachables r in
      let s = with_latch m.lines (seen_name f name r) zero_place in
      let n = with_formula f.scope inputs s.0 t in
      let o = with_binary two.Or n.0 s.1 n.1 in
      let new = with_given o.0 line.Next 1 s.1 o.1 in
      let go = binary_grows two.Or n.0 s.1 n.1 in
      let gs = seen_grows f inputs name s.0 s.1 r in
      let head_s = extends_then head_lines m.lines s.0 v.head (latch_extends m.lines (seen_name f name r) zero_place v.head) in
      let head_o = extends_then head_lines s.0 o.0 head_s (quietly s.0 o.0 gs) in
      let few_o : length o.0 < greatest_id = omega (arith, room, extends_long o.0 new (next_extends o.0 s.1 o.1 head_o)) in
      let few_n : length n.0 < greatest_id = omega (arith, few_o, grown_long n.0 o.0 go) in
      let few_s : length s.0 < greatest_id = omega (arith, few_n, grown_long s.0 n.0 (formula_grows f inputs s.0 t)) in
      let op = latch_opened m.lines (seen_name f name r) zero_place d.numbered v.head (omega (arith, head_long m.lines v.head)) (extends_width head_lines m.lines zero_place 1 (omega arith) v.head refl) few_s in
      let vs = stands_later f codes_fit functions inputs row known first now m.lines s.0 op.extends v in
      let fm = formula_made f codes_fit functions inputs row known first now s.0 t op.numbered vs (formula_is f f.reachables r sorts h) few_n in
      let set_at = bit_later row known s.0 n.0 (quietly s.0 n.0 fm.grows) s.1 (is_set row l.state) (some_bit row known s.0 s.1 op.numbered op.opens.width) in
      let g = gate row known two.Or (λ x y. x || y) refl refl or_bit n.0 s.1 n.1 (is_set row l.state) (is_reached f now r) fm.numbered set_at fm.at few_o in
      let cl = latch_closed o.0 s.1 zero_place o.1 g.numbered head_o (open_later s.0 o.0 s.1 zero_place gs op.opens) g.at.width room in
      let after_n : Extends n.0 new = extends_then n.0 o.0 new (quietly n.0 o.0 go) cl.extends in
      let all : Extends m.lines new = extends_then m.lines s.0 new op.extends (extends_then s.0 n.0 new (quietly s.0 n.0 fm.grows) after_n) in
      let word = bit_later row known o.0 new cl.extends o.1 (reached_until f row now r l) g.at in
      record {
        extends = all;
        made = record {
          numbered = cl.numbered;
          formulas = zip_push (BitAt row known new) m.formulas n.1 fs (is_reached f now r) (bits_later row known m.lines new all m.formulas fs d.formulas) (bit_later row known n.0 new after_n n.1 (is_reached f now r) fm.at);
          seen = zip_push (BitAt row known new) m.seen o.1 ss (reached_until f row now r l) (bits_later row known m.lines new all m.seen ss d.seen) word;
        };
        latch = cl.latch;
        at = word;
      }

  abbrev pub reached_bits : List ℕ → List Latch → List Bool
  reached_bits (r ∷ rs) (l ∷ ls) = reached_until f row now r l ∷ reached_bits rs ls
  reached_bits rs ls = []

  pub record AllReached (m new : Reaching) (rs : List ℕ) (ls : List Latch) (fs ss : List Bool) : Type 0 where
    pub extends : Extends m.lines new.lines
    pub made : ReachingMade new (fs ++ map (is_reached f now) rs) (ss ++ reached_bits rs ls)
    pub latches : AllZip (λ (r : ℕ) (l : Latch). IsLatch new.lines zero_place l) rs ls
    pub words : AllZip (λ (r : ℕ) (l : Latch). BitAt row known new.lines l.next (reached_until f row now r l)) rs ls

  pub reachables_made : (name : List ℕ) (m : Reaching) (rs : List ℕ) (fs ss : List Bool) → AllByRecursion (λ (r : ℕ). r < length f.reachables) rs → AreFlatTruths f f.reachables → Ready m.lines → ReachingMade m fs ss
      → length (with_reachables f inputs name m rs).lines < greatest_id → AllReached m (with_reachables f inputs name m rs) rs (seen_latches f inputs name m rs) fs ss
  reachables_made name m [] fs ss h sorts v d room =
      record {
        extends = extends_none m.lines;
        made = record {
          numbered = d.numbered;
          formulas = subst (AllZip (BitAt row known m.lines) m.formulas) (sym (append-nil fs)) d.formulas;
          seen = subst (AllZip (BitAt row known m.lines) m.seen) (sym (append-nil ss)) d.seen;
        };
        latches = tt;
        words = tt;
      }
  reachables_made name m (r ∷ rs) fs ss h sorts v d room =
      let l = seen_latch f inputs name m r in
      let n = with_reachable f inputs name m r in
      let new = with_reachables f inputs name n rs in
      let ls = seen_latches f inputs name n rs in
      let e1 = reachable_extends f inputs name m r v.head in
      let e2 = reachables_extend f inputs name n rs (extends_then head_lines m.lines n.lines v.head e1) in
      let few : length n.lines < greatest_id = omega (arith, room, extends_long n.lines new.lines e2) in
      let one = reachable_made name m r fs ss h.0 sorts v d few in
      let b = reached_until f row now r l in
      let rest = reachables_made name n rs (fs ++ is_reached f now r ∷ []) (ss ++ b ∷ []) h.1 sorts (stands_later f codes_fit functions inputs row known first now m.lines n.lines e1 v) one.made room in
      record {
        extends = extends_then m.lines n.lines new.lines e1 e2;
        made = record {
          numbered = rest.made.numbered;
          formulas = subst (AllZip (BitAt row known new.lines) new.formulas) (append_assoc fs (is_reached f now r ∷ []) (map (is_reached f now) rs)) rest.made.formulas;
          seen = subst (AllZip (BitAt row known new.lines) new.seen) (append_assoc ss (b ∷ []) (reached_bits rs ls)) rest.made.seen;
        };
        latches = (latch_later n.lines new.lines zero_place l e2 one.latch, rest.latches);
        words = (bit_later row known n.lines new.lines e2 l.next b one.at, rest.words);
      }

  pub all_bits : (P : ℕ → Latch → Type 0) (rs : List ℕ) (ls : List Latch) → AllZip P rs ls → all_true (reached_bits rs ls) ≡ are_reached f row now rs ls
  all_bits P [] [] a = refl
  all_bits P [] (l ∷ ls) a = absurd a
  all_bits P (r ∷ rs) [] a = absurd a
  all_bits P (r ∷ rs) (l ∷ ls) a = ap (λ b. reached_until f row now r l && b) (all_bits P rs ls a.1)

  -- ---- goals

  -- the place of the conditions' chain, where there is one
  abbrev pub HeldAt : List Line → List ℕ → Bool → Type 0
  HeldAt lines [] held = held ≡ true
  HeldAt lines (p ∷ []) held = BitAt row known lines p held
  HeldAt lines ps held = ⊥

  pub one_met_made : (m : Built) (b : Bool) (before : List ℕ) (held : Bool) → AreNumbered m.0 → BitAt row known m.0 m.1 b → HeldAt m.0 before held → length (with_one_met m before).0 < greatest_id
      → AreNumbered (with_one_met m before).0 × BitAt row known (with_one_met m before).0 (with_one_met m before).1 (held && b)
  one_met_made m b [] held n at h room = (n, subst (λ c. BitAt row known m.0 m.1 (c && b)) (sym h) at)
  one_met_made m b (p ∷ []) held n at h room = let g = gate row known two.And (λ x y. x && y) refl refl and_bit m.0 p m.1 held b n h at room in (g.numbered, g.at)
  one_met_made m b (p ∷ q ∷ ps) held n at h room = absurd h

  abbrev held_bits : List ℕ → Bool → List Bool
  held_bits [] held = []
  held_bits (p ∷ ps) held = held ∷ []

  held_at : (lines : List Line) (before : List ℕ) (held : Bool) → HeldAt lines before held → AllZip (BitAt row known lines) before (held_bits before held)
  held_at lines [] held h = tt
  held_at lines (p ∷ []) held h = (h, tt)
  held_at lines (p ∷ q ∷ ps) held h = absurd h

  held_all : (lines : List Line) (before : List ℕ) (held : Bool) (bs : List Bool) → HeldAt lines before held → all_true (held_bits before held ++ bs) ≡ (held && all_true bs)
  held_all lines [] held bs h = ap (λ c. c && all_true bs) (sym h)
  held_all lines (p ∷ []) held bs h = refl
  held_all lines (p ∷ q ∷ ps) held bs h = absurd h

  some_more : (before : List ℕ) (p : ℕ) (ps : List ℕ) → 1 ≤ length (before ++ p ∷ ps)
  some_more [] p ps = omega arith
  some_more (q ∷ qs) p ps = omega arith

  long_seen : (before ps : List ℕ) (bs : List Bool) (lines : List Line) → 1 ≤ length bs → AllZip (BitAt row known lines) ps bs → (1 ≤ length (before ++ ps)) × (1 ≤ length ps)
  long_seen before [] [] lines h a = absurd (omega (arith, h))
  long_seen before [] (b ∷ bs) lines h a = absurd a
  long_seen before (p ∷ ps) bs lines h a = (some_more before p ps, omega arith)

  pub all_met_made : (m : Reaching) (fs ss : List Bool) (before : List ℕ) (held : Bool) → 1 ≤ length fs → 1 ≤ length ss → ReachingMade m fs ss → HeldAt m.lines before held → length (with_all_met m before).0 < greatest_id
      → AreNumbered (with_all_met m before).0 × BitAt row known (with_all_met m before).0 (with_all_met m before).1 (held && (all_true ss && some_true fs))
  all_met_made m fs ss before held lf ls d h room =
      let ps = before ++ m.seen in
      let all = chain_lines two.And m.lines ps in
      let some = chain_lines two.Or all.0 m.formulas in
      let both = with_binary two.And some.0 all.1 some.1 in
      let go = chain_grows two.Or all.0 m.formulas in
      let few_some : length some.0 < greatest_id = omega (arith, room, grown_long some.0 both.0 (binary_grows two.And some.0 all.1 some.1)) in
      let few_all : length all.0 < greatest_id = omega (arith, few_some, grown_long all.0 some.0 go) in
      let bits = held_bits before held ++ ss in
      let a = and_chain row known m.lines ps bits (long_seen before m.seen ss m.lines ls d.seen).0 d.numbered (zip_both (BitAt row known m.lines) before m.seen (held_bits before held) ss (held_at m.lines before held h) d.seen) few_all in
      let formulas = bits_later row known m.lines all.0 (quietly m.lines all.0 a.grows) m.formulas fs d.formulas in
      let o = or_chain row known all.0 m.formulas fs (long_seen [] m.formulas fs m.lines lf d.formulas).1 a.numbered formulas few_some in
      let g = gate row known two.And (λ x y. x && y) refl refl and_bit some.0 all.1 some.1 (all_true bits) (some_true fs) o.numbered (bit_later row known all.0 some.0 (quietly all.0 some.0 o.grows) all.1 (all_true bits) a.at) o.at room in
      let e : (all_true bits && some_true fs) ≡ (held && (all_true ss && some_true fs)) = ap (λ c. c && some_true fs) (held_all m.lines before held ss h) ∙ and_assoc held (all_true ss) (some_true fs) in
      (g.numbered, subst (BitAt row known both.0 both.1) e g.at)
