-- A list in normal form is its own smaller list.
use Rattle.std.proofs.Common.{◌≡◌, ℕ, zero, suc, ◌+◌, ◌<◌, ◌≤◌, Bool, true, false, cond, List, [], ◌∷◌, ◌++◌, length, take, map, Option, Some, None, refl, sym, ap, subst, ◌∙◌, arith, inl, inr, ◌⊎◌}
use Rattle.std.specs.Prelude.{slice_get}
use Rattle.std.proofs.lemmas.Bool.{cases_Bool}
use Rattle.std.proofs.lemmas.List.{length_push}
use Rattle.std.proofs.lemmas.Option.{same_Some, none-some}
use Rattle.btor_tree.specs.declared.args.Arg.{Arg}
use Rattle.btor_tree.specs.declared.lines.Line.{Line}
use Rattle.btor_tree.specs.declared.lines.LineOp.{LineOp}
use Rattle.btor_tree.specs.declared.lines.LineOp.TheVariants as op
use Rattle.btor_tree.specs.Fits.{OpFits}
use Rattle.btor_tree.specs.Sharing.{is_shared}
use Rattle.btor_tree.proofs.Grows.{slice_get_inside, inside_get, push_cases}
use Rattle.btor_rules.specs.declared.operand.Outcome.{Outcome}
use Rattle.btor_simplify.specs.Fates.{fate_at, sort_for, is_sort}
use Rattle.btor_simplify.specs.Marks.{args_by, is_marked, AreMarkedLines, AreMarks, AreKnown}
use Rattle.btor_simplify.specs.Order.{has_sort, is_in, with_place, with_sort_of, with_line, with_marked, order_upto}
use Rattle.btor_simplify.specs.Written.{op_by, place_or_first, place_in, moved_arg, new_args, new_sort, new_symbol, new_line}
use Rattle.btor_simplify.specs.Simplified.{IsSimplified}
use Rattle.btor_simplify.specs.Normal.{is_root, IsUsed, root, argument, IsNormal}
use Rattle.btor_simplify.proofs.Steps.{sort_inside}
use Rattle.btor_simplify.proofs.Marking.{source}
use Rattle.btor_simplify.proofs.Ordering.{differ, found_in, place_of, not_sort, sorted}
use Rattle.btor_simplify.proofs.Single.{marked_at, same_by_get}
use Rattle.btor_simplify.proofs.Standing.{AllStay, same_args, same_sort, all_stay}

root_kept : (o : LineOp) → is_root o ≡ true → is_shared o ≡ false
root_kept op.Init h = refl
root_kept op.Next h = refl
root_kept op.Bad h = refl
root_kept op.Constraint h = refl
root_kept op.Output h = refl
root_kept o h = absurd (cc)

sort_unsorted : (o : LineOp) → is_sort o ≡ true → has_sort o ≡ false
sort_unsorted (op.Sort w) h = refl
sort_unsorted o h = absurd (cc)

no_sort_zero : (before : List Line) (s : ℕ) (o : LineOp) (args : List Arg) → has_sort o ≡ false → OpFits before s o args → s ≡ 0
no_sort_zero before s (op.Sort w) args h f = f.2
no_sort_zero before s op.Bad args h f = f.0
no_sort_zero before s op.Constraint args h f = f.0
no_sort_zero before s op.Output args h f = f.0
no_sort_zero before s o args h f = absurd (cc)

-- each old place is its new place
abbrev pub IsCounting : List ℕ → Type 0
IsCounting places = (q i : ℕ) → slice_get places q ≡ Some i → i ≡ q

counting_push : (places : List ℕ) (n : ℕ) → IsCounting places → n ≡ length places → IsCounting (places ++ n ∷ [])
counting_push places n h e q i g = elim (push_cases places n q i g) [ inl a ↦ h q i a.1 | inr a ↦ omega (arith, a.0, a.1, e) ]

counting_in : (places : List ℕ) (t : ℕ) → IsCounting places → t < length places → is_in places t ≡ true
counting_in places t h lt =
    let x = inside_get places t lt in found_in places t t (x.1 ∙ ap Some (h t x.0 x.1))

counting_out : (places : List ℕ) (t : ℕ) → IsCounting places → length places ≤ t → is_in places t ≡ false
counting_out places t h le =
    elim (cases_Bool (is_in places t)) [
      | inl y ↦ let q = place_of places t y in absurd (omega (arith, le, h q.0 t q.1, slice_get_inside places q.0 t q.1))
      | inr n ↦ n
    ]

same_symbol : (o : LineOp) (symbol : Option (List ℕ)) → (is_sort o ≡ true → symbol ≡ None) → new_symbol o symbol ≡ symbol
same_symbol (op.Sort w) symbol h = sym (h refl)
same_symbol o symbol h = refl

module _ (lines : List Line) (normal : IsNormal lines) (fates : List Outcome) (marks : List Bool) (k : AreKnown lines fates) (m : AreMarks lines fates 0 marks) where
  all : AllStay fates
  all = all_stay lines fates k normal.unfit normal.distinct

  used_marked : (i : ℕ) → IsUsed lines i → is_marked marks i ≡ true
  used_marked _ (root i l at o) = m.kept i l (omega arith) at (root_kept l.op o)
  used_marked _ (argument q j p l b u at e same) =
      let reads = subst (AreMarkedLines marks) (ap (λ f. args_by fates f l.args) (all q) ∙ same_args fates all l.args) (m.closed q l (omega arith) at (used_marked q u)) in
      subst (λ n. is_marked marks n ≡ true) same (marked_at marks l.args j b reads e)

  line_marked : (i : ℕ) (l : Line) → slice_get lines i ≡ Some l → is_sort l.op ≡ false → is_marked marks i ≡ true
  line_marked i l at n =
      elim (cases_Bool (is_shared l.op)) [ inl t ↦ used_marked i (normal.used i l at t n) | inr o ↦ m.kept i l (omega arith) at o ]

  sort_unmarked : (i : ℕ) (l : Line) → slice_get lines i ≡ Some l → is_sort l.op ≡ true → is_marked marks i ≡ false
  sort_unmarked i l at h =
      elim (cases_Bool (is_marked marks i)) [ inl t ↦ absurd (differ (sym h ∙ not_sort lines fates marks k m i l at t)) | inr n ↦ n ]

  -- All lines so far have their places, or all but the last, which is a sort line.
  abbrev Stand : ℕ → List ℕ → Type 0
  Stand n places =
      IsCounting places × ((length places ≡ n) ⊎ ((length places + 1 ≡ n) × (l : Line) × (slice_get lines (length places) ≡ Some l) × (is_sort l.op ≡ true)))

  module _ (n : ℕ) (l : Line) (at : slice_get lines n ≡ Some l) (places : List ℕ) (counting : IsCounting places) where
    by_mark : (b : Bool) → is_marked marks n ≡ b → with_marked lines fates marks n places ≡ cond b (with_line fates n (slice_get lines n) places) places
    by_mark b e = ap (λ x. cond x (with_line fates n (slice_get lines n) places) places) e

    by_line : with_line fates n (slice_get lines n) places ≡ with_sort_of fates l places ++ n ∷ []
    by_line = ap (λ o. with_line fates n o places) at

    by_sort : (b : Bool) → has_sort l.op ≡ b → with_sort_of fates l places ≡ cond b (with_place places l.sort) places
    by_sort b e =
        ap (λ x. cond x (with_place places (sort_for fates l.sort)) places) e ∙ ap (λ s. cond b (with_place places s) places) (same_sort fates all l.sort)

    sort_earlier : has_sort l.op ≡ true → l.sort < n
    sort_earlier h = sort_inside lines n l.sort (sorted (take n lines) l.sort l.op l.args (k.well_formed.by_line n l at).body.sorts h)

    -- a sort line waits
    step_sort : is_sort l.op ≡ true → length places ≡ n → Stand (suc n) (with_marked lines fates marks n places)
    step_sort h e =
        let here : slice_get lines (length places) ≡ Some l = ap (slice_get lines) e ∙ at in
        let one : length places + 1 ≡ suc n = omega (arith, e) in
        subst (Stand (suc n)) (sym (by_mark false (sort_unmarked n l at h))) (counting, inr (one, l, here, h))

    put_line : is_sort l.op ≡ false → (mid : List ℕ) → with_sort_of fates l places ≡ mid → IsCounting mid → length mid ≡ n → Stand (suc n) (with_marked lines fates marks n places)
    put_line h mid same counts long =
        let done : with_marked lines fates marks n places ≡ mid ++ n ∷ [] = by_mark true (line_marked n l at h) ∙ by_line ∙ ap (λ xs. xs ++ n ∷ []) same in
        let more : length (mid ++ n ∷ []) ≡ suc n = omega (arith, length_push mid n, long) in
        subst (Stand (suc n)) (sym done) (counting_push mid n counts (sym long), inl more)

    -- a line whose sort line stands
    step_line : is_sort l.op ≡ false → length places ≡ n → Stand (suc n) (with_marked lines fates marks n places)
    step_line h e =
        elim (cases_Bool (has_sort l.op)) [
          | inl g ↦
              let lt : l.sort < length places = omega (arith, sort_earlier g, e) in
              put_line h places (by_sort true g ∙ ap (λ b. cond b places (places ++ l.sort ∷ [])) (counting_in places l.sort counting lt)) counting e
          | inr g ↦ put_line h places (by_sort false g) counting e
        ]

    -- the line behind the sort line that waits
    step_both : length places + 1 ≡ n → has_sort l.op ≡ true → l.sort ≡ length places → Stand (suc n) (with_marked lines fates marks n places)
    step_both e g s =
        let le : length places ≤ l.sort = omega (arith, s) in
        let h : is_sort l.op ≡ false = elim (cases_Bool (is_sort l.op)) [ inl t ↦ absurd (differ (sym g ∙ sort_unsorted l.op t)) | inr n ↦ n ] in
        put_line h (places ++ l.sort ∷ []) (by_sort true g ∙ ap (λ b. cond b places (places ++ l.sort ∷ [])) (counting_out places l.sort counting le)) (counting_push places l.sort counting s) (omega (arith, length_push places l.sort, e))

  step : (n : ℕ) (places : List ℕ) → n < length lines → Stand n places → Stand (suc n) (with_marked lines fates marks n places)
  step n places lt st =
      let l = inside_get lines n lt in
      elim st.1 [
        | inl e ↦ elim (cases_Bool (is_sort l.0.op)) [ inl h ↦ step_sort n l.0 l.1 places st.0 h e | inr h ↦ step_line n l.0 l.1 places st.0 h e ]
        | inr w ↦
            let after = (normal.sorts (length places) w.1 w.2 w.3).next in
            let one : after.0 ≡ l.0 = same_Some after.0 l.0 (sym after.1 ∙ ap (slice_get lines) w.0 ∙ l.1) in
            step_both n l.0 l.1 places st.0 w.0 (ap (λ (x : Line). has_sort x.op) (sym one) ∙ after.2) (ap (λ (x : Line). x.sort) (sym one) ∙ after.3)
      ]

  stands : (n : ℕ) → n ≤ length lines → Stand n (order_upto lines fates marks n)
  stands zero le = (λ q i e. absurd (none-some i e), inl refl)
  stands (suc n) le = let less : n ≤ length lines = omega (arith, le) in step n (order_upto lines fates marks n) (omega (arith, le)) (stands n less)

  pub whole_order : IsCounting (order_upto lines fates marks (length lines)) × (length (order_upto lines fates marks (length lines)) ≡ length lines)
  whole_order =
      let st = stands (length lines) (omega arith) in (
        st.0,
        elim st.1 [
          | inl e ↦ e
          | inr w ↦
              let after = (normal.sorts _ w.1 w.2 w.3).next in
              absurd (omega (arith, w.0, slice_get_inside lines _ after.0 after.1))
        ],
      )

module _ (old new : List Line) (s : IsSimplified old new) (normal : IsNormal old) where
  stay : AllStay s.fates
  stay = all_stay old s.fates s.known normal.unfit normal.distinct

  order : IsCounting (order_upto old s.fates s.marks (length old)) × (length (order_upto old s.fates s.marks (length old)) ≡ length old)
  order = whole_order old normal s.fates s.marks s.known s.marked

  long : length s.places ≡ length old
  long = ap length s.placed ∙ order.1

  placed : (i : ℕ) → i < length old → slice_get s.places i ≡ Some i
  placed i lt =
      let x = inside_get s.places i (omega (arith, lt, long)) in
      x.1 ∙ ap Some (order.0 i x.0 (ap (λ p. slice_get p i) (sym s.placed) ∙ x.1))

  same_place : (i : ℕ) → i < length old → place_in s.moved i ≡ i
  same_place i lt = ap place_or_first (s.order.forward i i (placed i lt))

  moved_args : (args : List Arg) → ((j : ℕ) (a : Arg) → slice_get args j ≡ Some a → a.line < length old) → map (moved_arg s.moved) args ≡ args
  moved_args [] h = refl
  moved_args (a ∷ more) h =
      ap (λ n. record { line = n; negated = a.negated } ∷ map (moved_arg s.moved) more) (same_place a.line (h zero a refl)) ∙ ap (λ xs. a ∷ xs) (moved_args more (λ j b e. h (suc j) b e))

  module _ (q : ℕ) (l : Line) (at : slice_get old q ≡ Some l) where
    fits : OpFits (take q old) l.sort l.op l.args
    fits = (s.known.well_formed.by_line q l at).body.sorts

    inside : q < length old
    inside = slice_get_inside old q l at

    same_op : op_by (fate_at s.fates q) l.op ≡ l.op
    same_op = ap (λ f. op_by f l.op) (stay q)

    sort_kept : new_sort s.fates s.moved l.op l.sort ≡ l.sort
    sort_kept =
        elim (cases_Bool (has_sort l.op)) [
          | inl g ↦
              let lt : l.sort < q = sort_inside old q l.sort (sorted (take q old) l.sort l.op l.args fits g) in
              ap (λ b. cond b (place_in s.moved (sort_for s.fates l.sort)) 0) g ∙ ap (place_in s.moved) (same_sort s.fates stay l.sort) ∙ same_place l.sort (omega (arith, lt, inside))
          | inr n ↦ ap (λ b. cond b (place_in s.moved (sort_for s.fates l.sort)) 0) n ∙ sym (no_sort_zero (take q old) l.sort l.op l.args n fits)
        ]

    args_kept : new_args s.fates s.moved (fate_at s.fates q) l.args ≡ l.args
    args_kept =
        ap (λ f. new_args s.fates s.moved f l.args) (stay q) ∙ ap (map (moved_arg s.moved)) (same_args s.fates stay l.args)
        ∙ moved_args l.args (λ j a e. omega (arith, (source old s.fates q l j a s.known at e).before, inside))

    line_kept : new_line s.fates s.moved q q l ≡ l
    line_kept =
        ap (λ n. record { id = n; op = op_by (fate_at s.fates q) l.op; sort = new_sort s.fates s.moved l.op l.sort; args = new_args s.fates s.moved (fate_at s.fates q) l.args; symbol = new_symbol l.op l.symbol }) (sym (normal.numbered q l at))
        ∙ ap (λ o. record { id = l.id; op = o; sort = new_sort s.fates s.moved l.op l.sort; args = new_args s.fates s.moved (fate_at s.fates q) l.args; symbol = new_symbol l.op l.symbol }) same_op
        ∙ ap (λ n. record { id = l.id; op = l.op; sort = n; args = new_args s.fates s.moved (fate_at s.fates q) l.args; symbol = new_symbol l.op l.symbol }) sort_kept
        ∙ ap (λ xs. record { id = l.id; op = l.op; sort = l.sort; args = xs; symbol = new_symbol l.op l.symbol }) args_kept
        ∙ ap (λ y. record { id = l.id; op = l.op; sort = l.sort; args = l.args; symbol = y }) (same_symbol l.op l.symbol (λ h. (normal.sorts q l at h).plain))

  pub unchanged : new ≡ old
  unchanged =
      sym (same_by_get old new (sym long ∙ sym s.written.sized)
      (λ q l at.
      let here = placed q (slice_get_inside old q l at) in
      s.written.by_place q q l (slice_get_inside s.places q q here) here at ∙ ap Some (line_kept q l at)))
