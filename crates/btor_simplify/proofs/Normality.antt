-- The smaller list is in normal form.
use Rattle.std.proofs.Common.{◌≡◌, ℕ, ◌+◌, ◌<◌, true, false, cond, List, [], length, take, Option, Some, None, option_map, refl, sym, ap, subst, ◌∙◌, arith, inl, inr}
use Rattle.std.specs.Prelude.{slice_get}
use Rattle.std.proofs.lemmas.Bool.{cases_Bool}
use Rattle.std.proofs.lemmas.Option.{same_Some, none-some, slice_get-map}
use Rattle.btor_tree.specs.declared.args.Arg.{Arg}
use Rattle.btor_tree.specs.declared.lines.Line.{Line}
use Rattle.btor_tree.specs.declared.lines.LineOp.{LineOp}
use Rattle.btor_tree.specs.declared.lines.LineOp.TheVariants as op
use Rattle.btor_tree.specs.Fits.{OpFits, has_word, sort_at, width_at}
use Rattle.btor_tree.specs.Sharing.{is_shared}
use Rattle.btor_tree.proofs.AtPlaces.{width_of_line}
use Rattle.btor_tree.proofs.Grows.{slice_get_inside}
use Rattle.btor_rules.specs.declared.operand.Outcome.{Outcome}
use Rattle.btor_rules.specs.declared.operand.Outcome.TheVariants.{Stays, Constant, Argument}
use Rattle.btor_simplify.specs.Fates.{fate_at, sort_for, is_sort, KeepsWidth}
use Rattle.btor_simplify.specs.Marks.{args_by, is_marked, IsReached, starts, reads, AreKnown}
use Rattle.btor_simplify.specs.Order.{has_sort, IsMoved}
use Rattle.btor_simplify.specs.Written.{op_by, place_or_first, place_in, moved_arg, new_symbol, new_line}
use Rattle.btor_simplify.specs.Simplified.{IsSimplified}
use Rattle.btor_simplify.specs.Normal.{is_root, IsUsed, root, argument, IsSortInPlace, IsNormal}
use Rattle.btor_simplify.proofs.Steps.{sort_inside}
use Rattle.btor_simplify.proofs.Ordering.{differ, map_at, sorted}
use Rattle.btor_simplify.proofs.Writing.{stays}
use Rattle.btor_simplify.proofs.Distinct.{Origin, origin, old_shared, no_two_same}
use Rattle.btor_simplify.proofs.Unfit.{no_rule}
use Rattle.btor_simplify.proofs.Single.{reached_marked}
use Rattle.btor_simplify.proofs.Placing.{AreSortsPlaced, sorts_placed, AreAll, IsMarkedOrSort, all_marked}

none_there : (args : List Arg) (j : ℕ) (b : Arg) → args ≡ [] → slice_get args j ≡ Some b → ⊥
none_there args j b e h = none-some b (ap (λ xs. slice_get xs j) (sym e) ∙ h)

-- inputs and states read nothing
pub reader_root : (before : List Line) (s : ℕ) (o : LineOp) (args : List Arg) (j : ℕ) (b : Arg) → is_shared o ≡ false → OpFits before s o args → slice_get args j ≡ Some b → is_root o ≡ true
reader_root before s op.Input args j b h f e = absurd (none_there args j b f.1 e)
reader_root before s op.State args j b h f e = absurd (none_there args j b f.1 e)
reader_root before s op.Init args j b h f e = refl
reader_root before s op.Next args j b h f e = refl
reader_root before s op.Bad args j b h f e = refl
reader_root before s op.Constraint args j b h f e = refl
reader_root before s op.Output args j b h f e = refl
reader_root before s o args j b h f e = absurd (cc)

pub sort_alone : (before : List Line) (s : ℕ) (o : LineOp) (args : List Arg) → is_sort o ≡ true → OpFits before s o args → (s ≡ 0) × (args ≡ [])
sort_alone before s (op.Sort w) args h f = (f.2, f.3)
sort_alone before s o args h f = absurd (cc)

pub sort_shared : (o : LineOp) → is_sort o ≡ true → is_shared o ≡ true
sort_shared (op.Sort w) h = refl
sort_shared o h = absurd (cc)

no_symbol : (o : LineOp) (symbol : Option (List ℕ)) → is_sort o ≡ true → new_symbol o symbol ≡ None
no_symbol (op.Sort w) symbol h = refl
no_symbol o symbol h = absurd (cc)

-- a sort line stays as it is
sort_before : (f : Outcome) (o : LineOp) → is_sort (op_by f o) ≡ true → is_sort o ≡ true
sort_before Stays o h = h
sort_before (Constant c) o h = absurd (cc)
sort_before (Argument b) o h = h

still_sorted : (f : Outcome) (o : LineOp) → has_sort o ≡ true → has_sort (op_by f o) ≡ true
still_sorted Stays o h = h
still_sorted (Constant c) o h = refl
still_sorted (Argument b) o h = h

wordless : (o : LineOp) → is_sort o ≡ true → has_word o ≡ false
wordless (op.Sort w) h = refl
wordless o h = absurd (cc)

-- a sort line is no constant
sort_keeps : (lines : List Line) (fates : List Outcome) → AreKnown lines fates → (i : ℕ) (l : Line) → slice_get lines i ≡ Some l → is_sort l.op ≡ true → (f : Outcome) → fate_at fates i ≡ f → is_sort (op_by f l.op) ≡ true
sort_keeps lines fates k i l at h Stays e = h
sort_keeps lines fates k i l at h (Argument b) e = h
sort_keeps lines fates k i l at h (Constant c) e =
    let keeps = subst (KeepsWidth lines fates i) e (k.known.widths i (omega (arith, k.sized, slice_get_inside lines i l at))) in
    let none : width_at lines i ≡ 0 = ap (λ (x : Option Line). width_of_line lines x) at ∙ ap (λ b. cond b (sort_at lines l.sort) 0) (wordless l.op h) in
    absurd (omega (arith, keeps.0.0, keeps.1, none))

module _ (old new : List Line) (s : IsSimplified old new) where
  line_at : (i q : ℕ) (l : Line) → IsMoved s.moved i q → slice_get old i ≡ Some l → slice_get new q ≡ Some (new_line s.fates s.moved q i l)
  line_at i q l h at =
      let back = s.order.back i q h in s.written.by_place q i l (slice_get_inside s.places q i back) back at

  -- a reader, and what it reads
  module _ (i j p q : ℕ) (l : Line) (b : Arg) (at : slice_get old i ≡ Some l) (e : slice_get (args_by s.fates (fate_at s.fates i) l.args) j ≡ Some b) (same : b.line ≡ p) (h : IsMoved s.moved i q) where
    reader_used : is_shared l.op ≡ false → IsUsed new q
    reader_used o =
        let f = stays old s.fates s.known i l at o in
        let a = map_at s.fates l.args j b (ap (λ g. slice_get (args_by s.fates g l.args) j) (sym f) ∙ e) in
        let r = reader_root (take i old) l.sort l.op l.args j a.0 o (s.known.well_formed.by_line i l at).body.sorts a.1 in
        root q (new_line s.fates s.moved q i l) (line_at i q l h at) (ap (λ g. is_root (op_by g l.op)) f ∙ r)

    read_used : IsUsed new q → (spot : ℕ) → IsMoved s.moved p spot → IsUsed new spot
    read_used u spot g =
        argument q j spot (new_line s.fates s.moved q i l) (moved_arg s.moved b) u (line_at i q l h at)
        (slice_get-map (moved_arg s.moved) (args_by s.fates (fate_at s.fates i) l.args) j ∙ ap (option_map (moved_arg s.moved)) e)
        (ap (place_in s.moved) same ∙ ap place_or_first g)

  reached_used : (i : ℕ) → IsReached old s.fates i → (l : Line) → slice_get old i ≡ Some l → is_shared l.op ≡ true → (q : ℕ) → IsMoved s.moved i q → IsUsed new q
  reached_used _ (starts i k at o) l al g q h = absurd (differ (sym g ∙ ap (λ (x : Line). is_shared x.op) (same_Some l k (sym al ∙ at)) ∙ o))
  reached_used _ (reads i j p k b r at e same) l al g q h =
      let place = s.kept i (slice_get_inside old i k at) (reached_marked old s.fates s.marks s.marked i r) in
      let used : IsUsed new place.0 = elim (cases_Bool (is_shared k.op)) [
        | inl t ↦ reached_used i r k at t place.0 place.1
        | inr o ↦ reader_used i j p place.0 k b at e same place.1 o
      ] in
      read_used i j p place.0 k b at e same place.1 used q h

  used_line : (q : ℕ) (m : Line) → slice_get new q ≡ Some m → is_shared m.op ≡ true → is_sort m.op ≡ false → IsUsed new q
  used_line q m am g n =
      let x = origin old new s q m am in
      let shared = old_shared old new s q m x g in
      let here = s.order.forward q x.from x.placed in
      let no_sort : is_sort x.line.op ≡ false = elim (cases_Bool (is_sort x.line.op)) [ inl t ↦ absurd (differ (sym (sort_stays q m x t) ∙ n)) | inr o ↦ o ] in
      reached_used x.from (s.marked.reached x.from (placed_marked q x no_sort)) x.line x.at shared q here
    where
      sort_stays : (q : ℕ) (m : Line) (x : Origin old new s q m) → is_sort x.line.op ≡ true → is_sort m.op ≡ true
      sort_stays q m x t = ap (λ (z : Line). is_sort z.op) x.is ∙ sort_keeps old s.fates s.known x.from x.line x.at t (fate_at s.fates x.from) refl

      placed_marked : (q : ℕ) (x : Origin old new s q m) → is_sort x.line.op ≡ false → is_marked s.marks x.from ≡ true
      placed_marked q x n =
          let all = subst (AreAll (IsMarkedOrSort old s.fates s.marks)) (sym s.placed) (all_marked old s.fates s.marks s.known (length old)) in
          elim (all q x.from x.placed) [
            | inl t ↦ t
            | inr sort ↦ absurd (differ (sym sort.sort ∙ ap (λ (z : Line). is_sort z.op) (same_Some sort.line x.line (sym sort.at ∙ x.at)) ∙ n))
          ]

  sort_in_place : (q : ℕ) (m : Line) → slice_get new q ≡ Some m → is_sort m.op ≡ true → IsSortInPlace new q m
  sort_in_place q m am g =
      let x = origin old new s q m am in
      let was : is_sort x.line.op ≡ true = sort_before (fate_at s.fates x.from) x.line.op (ap (λ (z : Line). is_sort z.op) (sym x.is) ∙ g) in
      let placed = subst (AreSortsPlaced old s.fates) (sym s.placed) (sorts_placed old s.fates s.marks s.known s.marked (length old)) in
      let after = placed q x.from x.line x.placed x.at was in
      let moved = s.order.forward (q + 1) after.from after.placed in
      let wf = s.well_formed in
      let own = sort_alone (take q new) m.sort m.op m.args g (wf.by_line q m am).body.sorts in
      record {
        plain = ap (λ (z : Line). z.symbol) x.is ∙ no_symbol x.line.op x.line.symbol was;
        once = λ p k ak e.
            let sort : is_sort k.op ≡ true = ap is_sort e ∙ g in
            let other = sort_alone (take p new) k.sort k.op k.args sort (wf.by_line p k ak).body.sorts in
            (no_two_same old new s).by_places p q k m ak am (sort_shared k.op sort) (sort_shared m.op g) (inl (e, other.0 ∙ sym own.0, other.1 ∙ sym own.1));
        next = (
          new_line s.fates s.moved (q + 1) after.from after.line,
          line_at after.from (q + 1) after.line moved after.at,
          still_sorted (fate_at s.fates after.from) after.line.op after.sorted,
          ap (λ b. cond b (place_in s.moved (sort_for s.fates after.line.sort)) 0) after.sorted ∙ ap (place_in s.moved) after.sort ∙ ap place_or_first (s.order.forward q x.from x.placed),
        );
        first = λ p k ak e h.
            let lt : k.sort < p = sort_inside new p k.sort (sorted (take p new) k.sort k.op k.args (wf.by_line p k ak).body.sorts e) in
            omega (arith, lt, h);
      }

  pub normal : IsNormal new
  normal =
      record {
        unfit = no_rule old new s;
        distinct = no_two_same old new s;
        used = used_line;
        numbered = λ q m am. ap (λ (z : Line). z.id) (origin old new s q m am).is;
        sorts = sort_in_place;
      }
