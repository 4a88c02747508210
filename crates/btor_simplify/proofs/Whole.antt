-- The whole smaller list.
use Rattle.std.proofs.Common.{◌≡◌, ℕ, ◌<◌, ◌≤◌, true, false, ◌||◌, List, [], ◌∷◌, length, take, map, Option, Some, refl, sym, ap, subst, ◌∙◌, arith, inl, inr, ◌⊎◌}
use Rattle.std.specs.Prelude.{slice_get}
use Rattle.std.proofs.lemmas.Bool.{cases_lt}
use Rattle.std.proofs.lemmas.Option.{same_Some}
use Rattle.btor_tree.specs.declared.args.Arg.{Arg}
use Rattle.btor_tree.specs.declared.lines.Line.{Line}
use Rattle.btor_tree.specs.declared.lines.LineOp.{LineOp}
use Rattle.btor_tree.specs.declared.lines.LineOp.TheVariants as op
use Rattle.btor_tree.specs.Fits.{IsWellFormed, OnTwo, is_init, is_next, last_id, plain_arg, width_at}
use Rattle.btor_tree.specs.Sharing.{is_shared}
use Rattle.btor_tree.proofs.Grows.{slice_get_inside, inside_get}
use Rattle.btor_rules.specs.declared.operand.Outcome.{Outcome}
use Rattle.btor_rules.specs.declared.operand.Outcome.TheVariants.{Stays, Constant, Argument}
use Rattle.btor_simplify.specs.Fates.{fate_at, replaced, Lives, AreFates}
use Rattle.btor_simplify.specs.Marks.{AreKnown}
use Rattle.btor_simplify.specs.Order.{IsMoved}
use Rattle.btor_simplify.specs.Written.{op_by, place_or_first, place_in, moved_arg, new_args, new_symbol, new_line}
use Rattle.btor_simplify.specs.Simplified.{IsSimplified}
use Rattle.btor_simplify.specs.Kept.{AreSameLines, KeepsLines}
use Rattle.btor_simplify.proofs.Ordering.{count_most}
use Rattle.btor_simplify.proofs.Writing.{stays, same_state, line_there, width_moves, no_sort_kind, init_two, next_two}

pub known : (lines : List Line) (fates : List Outcome) → IsWellFormed lines → AreFates lines fates → length fates ≡ length lines → AreKnown lines fates
known lines fates w k e = record { well_formed = w; known = k; sized = e }

pub fewer : (old new : List Line) → IsSimplified old new → length new ≤ length old
fewer old new s = omega (arith, s.written.sized, s.order.count, count_most s.moved, s.order.sized)

pub numbered : (old new : List Line) → IsSimplified old new → last_id new ≡ length new
numbered old new s = s.written.numbered ∙ sym s.written.sized

same_symbol : (o : LineOp) (symbol : Option (List ℕ)) → is_shared o ≡ false → new_symbol o symbol ≡ symbol
same_symbol (op.Sort w) symbol h = absurd (cc)
same_symbol o symbol h = refl

op_unshared : (f : Outcome) (o : LineOp) → Lives f → is_shared (op_by f o) ≡ false → is_shared o ≡ false
op_unshared Stays o v h = h
op_unshared (Constant c) o v h = absurd (cc)
op_unshared (Argument b) o v h = absurd v

valued : (y : LineOp) → (is_init y || is_next y) ≡ true → (is_shared y ≡ false) × ((is_init y ≡ true) ⊎ (is_next y ≡ true))
valued op.Init h = (refl, inl refl)
valued op.Next h = (refl, inr refl)
valued y h = absurd (cc)

two_same : (args : List Arg) (x v : Arg) (P : Arg → Arg → Type 0) → args ≡ x ∷ v ∷ [] → OnTwo args P → P x v
two_same args x v P e h = subst (λ zs. OnTwo zs P) e h

module _ (old new : List Line) (s : IsSimplified old new) where
  pub has_place : (i : ℕ) (l : Line) → slice_get old i ≡ Some l → is_shared l.op ≡ false → (q : ℕ) × IsMoved s.moved i q
  has_place i l at h =
      let lt = slice_get_inside old i l at in
      s.kept i lt (s.marked.kept i l (omega arith) at h)

  within : (i q : ℕ) → IsMoved s.moved i q → q < length s.places
  within i q h = slice_get_inside s.places q i (s.order.back i q h)

  pub line_new : (i q : ℕ) (l : Line) → IsMoved s.moved i q → slice_get old i ≡ Some l → slice_get new (place_in s.moved i) ≡ Some (new_line s.fates s.moved q i l)
  line_new i q l h at = ap (slice_get new) (ap place_or_first h) ∙ s.written.by_place q i l (within i q h) (s.order.back i q h) at

  pub from_new : (q : ℕ) (m : Line) → slice_get new q ≡ Some m → is_shared m.op ≡ false → (i : ℕ) × (l : Line) × (slice_get old i ≡ Some l) × (is_shared l.op ≡ false) × (place_in s.moved i ≡ q)
  from_new q m at h =
      let lt : q < length s.places = omega (arith, slice_get_inside new q m at, s.written.sized) in
      let i = inside_get s.places q lt in
      let mv = s.order.forward q i.0 i.1 in
      let l = line_there old s.fates s.places s.moved s.order i.0 q mv in
      let same : m ≡ new_line s.fates s.moved q i.0 l.0 = same_Some m _ (sym at ∙ s.written.by_place q i.0 l.0 lt i.1 l.1) in
      let lives = (s.order.ready q i.0 l.0 i.1 l.1).lives in
      (i.0, l.0, l.1, op_unshared (fate_at s.fates i.0) l.0.op lives (sym (ap (λ (x : Line). is_shared x.op) same) ∙ h), ap place_or_first mv)

  in_order : (i j : ℕ) (l m : Line) → slice_get old i ≡ Some l → slice_get old j ≡ Some m → is_shared l.op ≡ false → is_shared m.op ≡ false → i < j → place_in s.moved i < place_in s.moved j
  in_order i j l m at am h g lt =
      let p = has_place i l at h in
      let q = has_place j m am g in
      elim (cases_lt p.0 q.0) [
        | inl less ↦ omega (arith, less, ap place_or_first p.1, ap place_or_first q.1)
        | inr ge ↦ elim (cases_lt q.0 p.0) [
          | inl less ↦
              let back = s.order.rises q.0 p.0 j i m l (s.order.back j q.0 q.1) (s.order.back i p.0 p.1) am at (no_sort_kind m.op g) (no_sort_kind l.op h) less in
              absurd (omega (arith, back, lt))
          | inr le ↦
              let same : p.0 ≡ q.0 = omega (arith, ge, le) in
              let one : i ≡ j = same_Some i j (sym (s.order.back i p.0 p.1) ∙ ap (slice_get s.places) same ∙ s.order.back j q.0 q.1) in
              absurd (omega (arith, one, lt))
        ]
      ]

  pub there : (i : ℕ) (l : Line) → slice_get old i ≡ Some l → is_shared l.op ≡ false → (m : Line) × (slice_get new (place_in s.moved i) ≡ Some m) × (m.op ≡ l.op) × (m.symbol ≡ l.symbol) × (width_at new (place_in s.moved i) ≡ width_at old i)
  there i l at h =
      let p = has_place i l at h in
      let f = stays old s.fates s.known i l at h in (
        new_line s.fates s.moved p.0 i l,
        line_new i p.0 l p.1 at,
        ap (λ x. op_by x l.op) f,
        same_symbol l.op l.symbol h,
        ap (width_at new) (ap place_or_first p.1) ∙ width_moves old s.fates s.places s.moved s.known s.order (length s.places) new s.written p.0 i l (within i p.0 p.1) p.1 at,
      )

  of_state : (i : ℕ) (l m : Line) (x v : Arg) → slice_get old i ≡ Some l → (is_init l.op || is_next l.op) ≡ true → l.args ≡ x ∷ v ∷ [] → slice_get new (place_in s.moved i) ≡ Some m → (y : Arg) × (m.args ≡ plain_arg (place_in s.moved x.line) ∷ y ∷ [])
  of_state i l m x v at k e am =
      let g = valued l.op k in
      let p = has_place i l at g.0 in
      let f = stays old s.fates s.known i l at g.0 in
      let fits = (s.known.well_formed.by_line i l at).body.sorts in
      let same : m ≡ new_line s.fates s.moved p.0 i l = same_Some m _ (sym am ∙ line_new i p.0 l p.1 at) in
      let state : (replaced s.fates x ≡ x) × (x.negated ≡ false) = elim g.1 [
        | inl t ↦ let h = two_same l.args x v _ e (init_two (take i old) l.sort l.op l.args t fits) in (same_state old s.fates s.known i 0 x h.0, h.1)
        | inr t ↦ let h = two_same l.args x v _ e (next_two (take i old) l.sort l.op l.args t fits) in (same_state old s.fates s.known i 0 x h.0, h.1)
      ] in
      let sign : moved_arg s.moved x ≡ plain_arg (place_in s.moved x.line) = ap (λ b. record { line = place_in s.moved x.line; negated = b }) state.1 in (
        moved_arg s.moved (replaced s.fates v),
        ap (λ (z : Line). z.args) same ∙ ap (λ y. new_args s.fates s.moved y l.args) f ∙ ap (λ zs. map (moved_arg s.moved) (map (replaced s.fates) zs)) e
            ∙ ap (λ z. moved_arg s.moved z ∷ moved_arg s.moved (replaced s.fates v) ∷ []) state.0 ∙ ap (λ z. z ∷ moved_arg s.moved (replaced s.fates v) ∷ []) sign,
      )

  pub same_lines : AreSameLines old new (λ i. place_in s.moved i)
  same_lines = record { there = there; onto = from_new; rises = in_order; states = of_state }

  pub keeps_lines : KeepsLines old new
  keeps_lines = (λ i. place_in s.moved i, same_lines)
