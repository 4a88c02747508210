-- Each new line fits the ones before it.
use Rattle.std.proofs.Common.{◌≡◌, ℕ, zero, suc, ◌+◌, ◌<◌, ◌≤◌, Bool, true, false, cond, eqb, List, [], ◌∷◌, ◌++◌, length, take, drop, get_or, map, Option, Some, None, refl, sym, ap, subst, ◌∙◌, arith, inl, inr, ◌⊎◌}
use Rattle.std.specs.Prelude.{slice_get, slice_index_or, IfSome}
use Rattle.std.specs.Option.{option_or}
use Rattle.std.proofs.lemmas.Bool.{cases_lt, cases_Bool, eqb-true, eq-eqb}
use Rattle.std.proofs.lemmas.List.{length-take, length_push, take-append-drop}
use Rattle.std.proofs.lemmas.Option.{same_Some, none-some, slice_get-get_or}
use Rattle.word_core.specs.Words.{BitVector}
use Rattle.word_core.specs.Table.{BinaryFits, unary_width, binary_width}
use Rattle.btor_tree.specs.declared.args.Arg.{Arg}
use Rattle.btor_tree.specs.declared.lines.Line.{Line}
use Rattle.btor_tree.specs.declared.lines.LineOp.{LineOp}
use Rattle.btor_tree.specs.declared.lines.LineOp.TheVariants as op
use Rattle.btor_tree.specs.Fits.{AreEarlier, OpFits, OnTwo, Fits, GivesValue, InitRule, IsSymbol, has_word, is_constant, is_init, is_next, is_state, kind_at, sort_at, sort_width, state_value, value_for, value_in, width_at}
use Rattle.btor_tree.specs.Sharing.{is_shared}
use Rattle.btor_tree.proofs.AtPlaces.{is_kind, width_of_sort, width_of_line}
use Rattle.btor_tree.proofs.Grows.{slice_get_inside, inside_get, last_push, slice_get_front, slice_get_end}
use Rattle.btor_tree.proofs.Keyed.{fits_short}
use Rattle.btor_tree.proofs.Rows.{slice_get_take}
use Rattle.btor_tree.proofs.Widths.{line_at}
use Rattle.btor_rules.specs.declared.operand.Outcome.{Outcome}
use Rattle.btor_rules.specs.declared.operand.Outcome.TheVariants.{Stays, Constant, Argument}
use Rattle.btor_simplify.specs.Fates.{fate_at, replaced, replaced_by, sort_for, Lives, KeepsWidth, AreThere, is_sort}
use Rattle.btor_simplify.specs.Marks.{args_by, AreKnown}
use Rattle.btor_simplify.specs.Order.{has_sort, IsMoved, IsBefore, AreBefore, IsReadyAt, IsOrder}
use Rattle.btor_simplify.specs.Written.{op_by, place_or_first, place_in, moved_arg, new_args, new_sort, new_symbol, new_line, CanWrite, IsWritten}
use Rattle.btor_simplify.proofs.Steps.{no_sort_at, sort_before}
use Rattle.btor_simplify.proofs.Steps.{moved_arg as moved_arg_to}
use Rattle.btor_simplify.proofs.Marking.{source}
use Rattle.btor_simplify.proofs.Ordering.{sort_of_line, differ, places_few}
use Rattle.btor_simplify.proofs.Constants.{constant_moves}

pub word_sort : (o : LineOp) → has_word o ≡ true → has_sort o ≡ true
word_sort (op.Sort w) h = absurd (cc)
word_sort op.Init h = absurd (cc)
word_sort op.Next h = absurd (cc)
word_sort op.Bad h = absurd (cc)
word_sort op.Constraint h = absurd (cc)
word_sort op.Output h = absurd (cc)
word_sort o h = refl

init_sorted : (y : LineOp) → is_init y ≡ true → has_sort y ≡ true
init_sorted op.Init h = refl
init_sorted y h = absurd (cc)

next_sorted : (y : LineOp) → is_next y ≡ true → has_sort y ≡ true
next_sorted op.Next h = refl
next_sorted y h = absurd (cc)

moved_le : (lines : List Line) (fates : List Outcome) → AreKnown lines fates → (a : Arg) → a.line < length fates → (replaced fates a).line ≤ a.line
moved_le lines fates k a h = (moved_arg_to lines fates a k.known h).le

pub init_other : (f : Outcome) (x : LineOp) → is_init (op_by f x) ≡ true → (is_init x ≡ true) × (is_shared x ≡ false)
init_other (Constant c) x h = absurd (cc)
init_other Stays op.Init h = (refl, refl)
init_other (Argument b) op.Init h = (refl, refl)
init_other Stays x h = absurd (cc)
init_other (Argument b) x h = absurd (cc)

pub next_other : (f : Outcome) (x : LineOp) → is_next (op_by f x) ≡ true → (is_next x ≡ true) × (is_shared x ≡ false)
next_other (Constant c) x h = absurd (cc)
next_other Stays op.Next h = (refl, refl)
next_other (Argument b) op.Next h = (refl, refl)
next_other Stays x h = absurd (cc)
next_other (Argument b) x h = absurd (cc)

first_of_two : (args : List Arg) (P Q : Arg → Arg → Type 0) → ((x v : Arg) → P x v → Q x v) → OnTwo args P → OnTwo args Q
first_of_two [] P Q f h = absurd h
first_of_two (x ∷ []) P Q f h = absurd h
first_of_two (x ∷ v ∷ []) P Q f h = f x v h
first_of_two (x ∷ v ∷ y ∷ more) P Q f h = absurd h

pub init_two : (ls : List Line) (s : ℕ) (x : LineOp) (args : List Arg) → is_init x ≡ true → OpFits ls s x args → OnTwo args (λ x v. GivesValue is_init ls s x v)
init_two ls s op.Init args h f = first_of_two args _ _ (λ x v g. g.0) f
init_two ls s x args h f = absurd (cc)

pub next_two : (ls : List Line) (s : ℕ) (x : LineOp) (args : List Arg) → is_next x ≡ true → OpFits ls s x args → OnTwo args (λ x v. GivesValue is_next ls s x v)
next_two ls s op.Next args h f = f
next_two ls s x args h f = absurd (cc)

-- facts of lists of arguments at a place
pub before_at : (moved : List (Option ℕ)) (fates : List Outcome) (args : List Arg) (q j : ℕ) (a : Arg) → AreBefore moved (map (replaced fates) args) q → slice_get args j ≡ Some a → IsBefore moved (replaced fates a).line q
before_at moved fates [] q j a h e = absurd (none-some a e)
before_at moved fates (b ∷ more) q zero a h e = subst (λ (x : Arg). IsBefore moved (replaced fates x).line q) (same_Some b a e) h.0
before_at moved fates (b ∷ more) q (suc j) a h e = before_at moved fates more q j a h.1 e

earlier_moved : (moved : List (Option ℕ)) (args : List Arg) (n q : ℕ) → n ≡ q → AreBefore moved args q → AreEarlier n (map (moved_arg moved) args)
earlier_moved moved [] n q e h = tt
earlier_moved moved (a ∷ more) n q e h =
    (omega (arith, ap place_or_first h.0.1, h.0.2, e), earlier_moved moved more n q e h.1)

-- the fits of a line whose arguments and sort are moved
module _ (front before : List Line) (s t : ℕ) (move : Arg → Arg) where
  abbrev OpMoves : LineOp → List Arg → Type 0
  OpMoves o args =
      (has_sort o ≡ true → 1 ≤ sort_at front s → sort_at before t ≡ sort_at front s) → ((j : ℕ) (a : Arg) → slice_get args j ≡ Some a → 1 ≤ width_at front a.line → width_at before (move a).line ≡ width_at front a.line) → (has_sort o ≡ false → t ≡ 0) → (OnTwo args (λ x v. GivesValue is_init front s x v × InitRule front x v) → o ≡ op.Init → OnTwo (map move args) (λ x v. GivesValue is_init before t x v × InitRule before x v)) → (OnTwo args (λ x v. GivesValue is_next front s x v) → o ≡ op.Next → OnTwo (map move args) (λ x v. GivesValue is_next before t x v)) → OpFits front s o args → OpFits before t o (map move args)

  there : (1 ≤ sort_at front s → sort_at before t ≡ sort_at front s) → 1 ≤ sort_at front s → 1 ≤ sort_at before t
  there r h = subst (λ n. 1 ≤ n) (sym (r h)) h

  nothing : (args : List Arg) → args ≡ [] → map move args ≡ []
  nothing args e = ap (map move) e

  op_moves : (o : LineOp) (args : List Arg) → OpMoves o args
  op_moves (op.Sort w) args r m z i n f = (f.0, f.1, z refl, nothing args f.3)
  op_moves (op.Constant c) args r m z i n f = (f.0, f.1 ∙ sym (r refl (omega (arith, f.0.0, f.1))), nothing args f.2)
  op_moves op.Init args r m z i n f = i f refl
  op_moves op.Next args r m z i n f = n f refl
  op_moves op.Bad [] r m z i n f = absurd f.1
  op_moves op.Bad (a ∷ []) r m z i n f = (z refl, m zero a refl (omega (arith, f.1)) ∙ f.1)
  op_moves op.Bad (a ∷ b ∷ more) r m z i n f = absurd f.1
  op_moves op.Constraint [] r m z i n f = absurd f.1
  op_moves op.Constraint (a ∷ []) r m z i n f = (z refl, m zero a refl (omega (arith, f.1)) ∙ f.1)
  op_moves op.Constraint (a ∷ b ∷ more) r m z i n f = absurd f.1
  op_moves op.Output [] r m z i n f = absurd f.1
  op_moves op.Output (a ∷ []) r m z i n f = (z refl, subst (λ k. 1 ≤ k) (sym (m zero a refl f.1)) f.1)
  op_moves op.Output (a ∷ b ∷ more) r m z i n f = absurd f.1
  op_moves (op.Unary u) [] r m z i n f = absurd f.1
  op_moves (op.Unary u) (a ∷ []) r m z i n f =
      let e = m zero a refl f.1.0 in
      (there (r refl) f.0, (omega (arith, e, f.1.0), ap (unary_width u) e ∙ f.1.1 ∙ sym (r refl f.0)))
  op_moves (op.Unary u) (a ∷ b ∷ more) r m z i n f = absurd f.1
  op_moves (op.Binary o) [] r m z i n f = absurd f.1
  op_moves (op.Binary o) (a ∷ []) r m z i n f = absurd f.1
  op_moves (op.Binary o) (a ∷ b ∷ []) r m z i n f =
      let e = m zero a refl f.1.0 in
      let g = m 1 b refl f.1.1 in
      (there (r refl) f.0, (omega (arith, e, f.1.0), omega (arith, g, f.1.1), subst (λ k. BinaryFits o k (width_at before (move b).line)) (sym e) (subst (λ k. BinaryFits o (width_at front a.line) k) (sym g) f.1.2), ap (λ k. binary_width o k (width_at before (move b).line)) e ∙ ap (binary_width o (width_at front a.line)) g ∙ f.1.3 ∙ sym (r refl f.0)))
  op_moves (op.Binary o) (a ∷ b ∷ c ∷ more) r m z i n f = absurd f.1
  op_moves op.Ite [] r m z i n f = absurd f.1
  op_moves op.Ite (a ∷ []) r m z i n f = absurd f.1
  op_moves op.Ite (a ∷ b ∷ []) r m z i n f = absurd f.1
  op_moves op.Ite (a ∷ b ∷ c ∷ []) r m z i n f =
      (there (r refl) f.0, (m zero a refl (omega (arith, f.1.0)) ∙ f.1.0, m 1 b refl (omega (arith, f.0, f.1.1)) ∙ f.1.1 ∙ sym (r refl f.0), m 2 c refl (omega (arith, f.0, f.1.2)) ∙ f.1.2 ∙ sym (r refl f.0)))
  op_moves op.Ite (a ∷ b ∷ c ∷ d ∷ more) r m z i n f = absurd f.1
  op_moves (op.Slice high low) [] r m z i n f = absurd f.1
  op_moves (op.Slice high low) (a ∷ []) r m z i n f =
      (there (r refl) f.0, (f.1.0, omega (arith, m zero a refl (omega (arith, f.1.1)), f.1.1), f.1.2 ∙ sym (r refl f.0)))
  op_moves (op.Slice high low) (a ∷ b ∷ more) r m z i n f = absurd f.1
  op_moves (op.Uext k) [] r m z i n f = absurd f.1
  op_moves (op.Uext k) (a ∷ []) r m z i n f = let e = m zero a refl f.1.0 in (there (r refl) f.0, (omega (arith, e, f.1.0), omega (arith, e, f.1.1, r refl f.0)))
  op_moves (op.Uext k) (a ∷ b ∷ more) r m z i n f = absurd f.1
  op_moves (op.Sext k) [] r m z i n f = absurd f.1
  op_moves (op.Sext k) (a ∷ []) r m z i n f = let e = m zero a refl f.1.0 in (there (r refl) f.0, (omega (arith, e, f.1.0), omega (arith, e, f.1.1, r refl f.0)))
  op_moves (op.Sext k) (a ∷ b ∷ more) r m z i n f = absurd f.1
  op_moves op.Input args r m z i n f = (there (r refl) f.0, nothing args f.1)
  op_moves op.State args r m z i n f = (there (r refl) f.0, nothing args f.1)
  op_moves op.One args r m z i n f = (there (r refl) f.0, nothing args f.1)
  op_moves op.Zero args r m z i n f = (there (r refl) f.0, nothing args f.1)
  op_moves op.Ones args r m z i n f = (there (r refl) f.0, nothing args f.1)

pub map_twice : (f g : Arg → Arg) (xs : List Arg) → map g (map f xs) ≡ map (λ (a : Arg). g (f a)) xs
map_twice f g [] = refl
map_twice f g (x ∷ xs) = ap (λ zs. g (f x) ∷ zs) (map_twice f g xs)

symbol_fits : (o : LineOp) (symbol : Option (List ℕ)) → IfSome symbol IsSymbol → IfSome (new_symbol o symbol) IsSymbol
symbol_fits (op.Sort w) symbol h = tt
symbol_fits o symbol h = h

there_below : (fates : List Outcome) (n : ℕ) (args : List Arg) → n ≤ length fates → AreEarlier n args → AreThere fates args
there_below fates n [] h e = tt
there_below fates n (a ∷ more) h e = (omega (arith, e.0, h), there_below fates n more h e.1)

-- values of states
or_none : {X : Type 0} (a b : Option X) → option_or a b ≡ None → (a ≡ None) × (b ≡ None)
or_none None b h = (refl, h)
or_none (Some x) b h = absurd (none-some x (sym h))

or_nones : {X : Type 0} (a b : Option X) → a ≡ None → b ≡ None → option_or a b ≡ None
or_nones a b h g = ap (λ o. option_or o b) h ∙ g

value_of_kind : (kind : LineOp → Bool) (l : Line) (s : ℕ) (b : Bool) → kind l.op ≡ b → ((v : Arg) → b ≡ true → value_for l.args s ≡ Some v → ⊥) → cond b (value_for l.args s) None ≡ None
value_of_kind kind l s false e h = refl
value_of_kind kind l s true e h = from (value_for l.args s) refl
  where
    from : (o : Option Arg) → value_for l.args s ≡ o → value_for l.args s ≡ None
    from None g = g
    from (Some v) g = absurd (h v refl g)

pub none_value : (kind : LineOp → Bool) (ls : List Line) (s : ℕ) → ((p : ℕ) (m : Line) (v : Arg) → slice_get ls p ≡ Some m → kind m.op ≡ true → value_for m.args s ≡ Some v → ⊥) → state_value kind ls s ≡ None
none_value kind [] s h = refl
none_value kind (l ∷ ls) s h =
    or_nones (value_in kind l s) (state_value kind ls s) (value_of_kind kind l s (kind l.op) refl (λ v k e. h zero l v refl k e)) (none_value kind ls s (λ p m v g k e. h (suc p) m v g k e))

pub some_value : (kind : LineOp → Bool) (ls : List Line) (s p : ℕ) (m : Line) (v : Arg) → slice_get ls p ≡ Some m → kind m.op ≡ true → value_for m.args s ≡ Some v → state_value kind ls s ≡ None → ⊥
some_value kind [] s p m v g k e n = none-some m g
some_value kind (l ∷ ls) s zero m v g k e n =
    let one : l ≡ m = same_Some l m g in
    let none = (or_none (value_in kind l s) (state_value kind ls s) n).0 in
    none-some v (sym none ∙ ap (λ (x : Line). value_in kind x s) one ∙ ap (λ b. cond b (value_for m.args s) None) k ∙ e)
some_value kind (l ∷ ls) s (suc p) m v g k e n = some_value kind ls s p m v g k e (or_none (value_in kind l s) (state_value kind ls s) n).1

-- the line of a value
pub value_args : (args : List Arg) (s : ℕ) (v : Arg) → value_for args s ≡ Some v → (x : Arg) × (y : Arg) × (args ≡ x ∷ y ∷ []) × (x.line ≡ s) × (y ≡ v)
value_args [] s v h = absurd (none-some v h)
value_args (x ∷ []) s v h = absurd (none-some v h)
value_args (x ∷ y ∷ []) s v h = from (cases_Bool (eqb x.line s))
  where
    from : (eqb x.line s ≡ true) ⊎ (eqb x.line s ≡ false) → (a : Arg) × (b : Arg) × ((x ∷ y ∷ []) ≡ a ∷ b ∷ []) × (a.line ≡ s) × (b ≡ v)
    from (inl t) = (x, y, refl, eqb-true x.line s t, same_Some y v (sym (ap (λ b. cond b (Some y) None) t) ∙ h))
    from (inr f) = absurd (none-some v (sym (ap (λ b. cond b (Some y) None) f) ∙ h))
value_args (x ∷ y ∷ z ∷ more) s v h = absurd (none-some v h)

pub two_args : (args : List Arg) (P : Arg → Arg → Type 0) → OnTwo args P → (x : Arg) × (v : Arg) × (args ≡ x ∷ v ∷ []) × P x v
two_args [] P h = absurd h
two_args (x ∷ []) P h = absurd h
two_args (x ∷ v ∷ []) P h = (x, v, refl, h)
two_args (x ∷ v ∷ y ∷ more) P h = absurd h

pub kind_line : (kind : LineOp → Bool) (ls : List Line) (i : ℕ) → kind_at kind ls i ≡ true → (l : Line) × (slice_get ls i ≡ Some l) × (kind l.op ≡ true)
kind_line kind ls i h = from (slice_get ls i) refl h
  where
    from : (o : Option Line) → slice_get ls i ≡ o → is_kind kind o ≡ true → (l : Line) × (slice_get ls i ≡ Some l) × (kind l.op ≡ true)
    from None e t = absurd (differ (sym t))
    from (Some l) e t = (l, e, t)

pub take_line : (lines : List Line) (i k : ℕ) (l : Line) → slice_get (take i lines) k ≡ Some l → slice_get lines k ≡ Some l
take_line lines i k l h = subst (λ ls. slice_get ls k ≡ Some l) (take-append-drop i lines) (slice_get_front (take i lines) (drop i lines) k l h)

pub unshared_of : (o : LineOp) → is_state o ≡ true → is_shared o ≡ false
unshared_of op.State h = refl
unshared_of o h = absurd (cc)

module _ (lines : List Line) (fates : List Outcome) (k : AreKnown lines fates) where
  pub stays : (i : ℕ) (l : Line) → slice_get lines i ≡ Some l → is_shared l.op ≡ false → fate_at fates i ≡ Stays
  stays i l at h =
      let lt : i < length fates = omega (arith, k.sized, slice_get_inside lines i l at) in
      let f = inside_get fates i lt in
      same_Some _ _ (sym (slice_get-get_or fates i Stays lt) ∙ f.1) ∙ (k.known.by_line i l f.0 at f.1).0 h

  pub same_state : (i s : ℕ) (x : Arg) → kind_at is_state (take i lines) x.line ≡ true → replaced fates x ≡ x
  same_state i s x h =
      let g = kind_line is_state (take i lines) x.line h in
      let f = stays x.line g.0 (take_line lines i x.line g.0 g.1) (unshared_of g.0.op g.2) in
      replaced_stays (fate_at fates x.line) x f
    where
      replaced_stays : (f : Outcome) (x : Arg) → f ≡ Stays → replaced_by f x ≡ x
      replaced_stays f x e = ap (λ o. replaced_by o x) e

pub no_sort_kind : (o : LineOp) → is_shared o ≡ false → is_sort o ≡ false
no_sort_kind (op.Sort w) h = absurd (cc)
no_sort_kind o h = refl

pub head_same : (a b : Arg) (xs ys : List Arg) → a ∷ xs ≡ b ∷ ys → a ≡ b
head_same a b xs ys e = ap (λ (zs : List Arg). slice_index_or zs 0 a) e

beyond : {X : Type 0} (xs : List X) (i : ℕ) (d : X) → length xs ≤ i → get_or xs i d ≡ d
beyond [] i d h = refl
beyond (x ∷ xs) zero d h = absurd (omega (arith, h))
beyond (x ∷ xs) (suc i) d h = beyond xs i d (omega (arith, h))

-- what has a new place is a line
pub line_there : (lines : List Line) (fates : List Outcome) (places : List ℕ) (moved : List (Option ℕ)) → IsOrder lines fates (length lines) places moved → (j p : ℕ) → IsMoved moved j p → (m : Line) × (slice_get lines j ≡ Some m)
line_there lines fates places moved o j p h =
    elim (cases_lt j (length lines)) [
      | inl lt ↦ inside_get lines j lt
      | inr ge ↦ absurd (none-some p (sym (beyond moved j None (omega (arith, ge, o.sized))) ∙ h))
    ]

module _ (lines : List Line) (fates : List Outcome) (places : List ℕ) (moved : List (Option ℕ)) (k : AreKnown lines fates) (o : IsOrder lines fates (length lines) places moved) (q : ℕ) (new : List Line) (w : IsWritten lines fates places moved q new) where
  place_is : (i p : ℕ) → IsMoved moved i p → place_in moved i ≡ p
  place_is i p h = ap place_or_first h

  at_new : (p j : ℕ) (m : Line) → p < q → IsMoved moved j p → slice_get lines j ≡ Some m → slice_get new p ≡ Some (new_line fates moved p j m)
  at_new p j m lt h at = w.by_place p j m lt (o.back j p h) at

  lives_at : (p j : ℕ) (m : Line) → IsMoved moved j p → slice_get lines j ≡ Some m → Lives (fate_at fates j)
  lives_at p j m h at = (o.ready p j m (o.back j p h) at).lives

  known_width : (j : ℕ) (m : Line) → slice_get lines j ≡ Some m → KeepsWidth lines fates j (fate_at fates j)
  known_width j m at = k.known.widths j (omega (arith, k.sized, slice_get_inside lines j m at))

  -- what a line that stays gives in the new list
  op_sort : (f : Outcome) (j : ℕ) (m : Line) → slice_get lines j ≡ Some m → Lives f → KeepsWidth lines fates j f → sort_width (op_by f m.op) ≡ sort_width m.op
  op_sort Stays j m at l h = refl
  op_sort (Argument b) j m at l h = absurd l
  op_sort (Constant c) j m at l h =
      let wide : 1 ≤ width_at lines j = omega (arith, h.0.0, h.1) in
      sym (sym (ap (λ (x : Option Line). width_of_sort x) at) ∙ no_sort_at lines j wide)

  op_word : (f : Outcome) (j : ℕ) (m : Line) → slice_get lines j ≡ Some m → Lives f → KeepsWidth lines fates j f → has_word (op_by f m.op) ≡ has_word m.op
  op_word Stays j m at l h = refl
  op_word (Argument b) j m at l h = absurd l
  op_word (Constant c) j m at l h =
      let wide : 1 ≤ width_at lines j = omega (arith, h.0.0, h.1) in
      let g = line_at lines j wide in
      sym (ap (λ (x : Line). has_word x.op) (same_Some m g.0 (sym at ∙ g.1)) ∙ g.2)

  pub sort_moves : (p j : ℕ) (m : Line) → p < q → IsMoved moved j p → slice_get lines j ≡ Some m → sort_at new p ≡ sort_at lines j
  sort_moves p j m lt h at =
      ap (λ (x : Option Line). width_of_sort x) (at_new p j m lt h at) ∙ op_sort (fate_at fates j) j m at (lives_at p j m h at) (known_width j m at) ∙ sym (ap (λ (x : Option Line). width_of_sort x) at)

  -- the sort of a line that has one
  pub new_sort_is : (p j : ℕ) (m : Line) → p ≤ q → slice_get places p ≡ Some j → slice_get lines j ≡ Some m → has_sort m.op ≡ true → sort_at new (new_sort fates moved m.op m.sort) ≡ sort_at lines m.sort
  new_sort_is p j m le h at s =
      let r = (o.ready p j m h at).sort s in
      let g = sort_of_line lines fates j m k at s in
      let here : new_sort fates moved m.op m.sort ≡ r.0 = ap (λ b. cond b (place_in moved (sort_for fates m.sort)) 0) s ∙ place_is (sort_for fates m.sort) r.0 r.1 in
      ap (sort_at new) here ∙ sort_moves r.0 (sort_for fates m.sort) g.live.line (omega (arith, r.2, le)) r.1 g.live.at ∙ g.same

  pub width_moves : (p j : ℕ) (m : Line) → p < q → IsMoved moved j p → slice_get lines j ≡ Some m → width_at new p ≡ width_at lines j
  width_moves p j m lt h at =
      let le : p ≤ q = omega (arith, lt) in
      ap (λ (x : Option Line). width_of_line new x) (at_new p j m lt h at)
      ∙ ap (λ b. cond b (sort_at new (new_sort fates moved m.op m.sort)) 0) (op_word (fate_at fates j) j m at (lives_at p j m h at) (known_width j m at))
      ∙ pick (has_word m.op) refl le
      ∙ sym (ap (λ (x : Option Line). width_of_line lines x) at)
    where
      pick : (b : Bool) → has_word m.op ≡ b → p ≤ q → cond b (sort_at new (new_sort fates moved m.op m.sort)) 0 ≡ cond b (sort_at lines m.sort) 0
      pick true e le = new_sort_is p j m le (o.back j p h) at (word_sort m.op e)
      pick false e le = refl

  -- the line that comes next
  module _ (i : ℕ) (l : Line) (placed : slice_get places q ≡ Some i) (at : slice_get lines i ≡ Some l) where
    ready : IsReadyAt fates moved q i l
    ready = o.ready q i l placed at

    front_sort : 1 ≤ sort_at (take i lines) l.sort → sort_at lines l.sort ≡ sort_at (take i lines) l.sort
    front_sort h = sort_before lines i l.sort h

    arg_width : fate_at fates i ≡ Stays → (j : ℕ) (a : Arg) → slice_get l.args j ≡ Some a → width_at new (moved_arg moved (replaced fates a)).line ≡ width_at (take i lines) a.line
    arg_width st j a e =
        let all : AreBefore moved (map (replaced fates) l.args) q = subst (λ f. AreBefore moved (args_by fates f l.args) q) st ready.args in
        let b = before_at moved fates l.args q j a all e in
        let s = source lines fates i l j a k at e in
        let g = line_at lines (replaced fates a).line s.wide in
        ap (width_at new) (place_is (replaced fates a).line b.0 b.1) ∙ width_moves b.0 (replaced fates a).line g.0 b.2 b.1 g.1 ∙ s.width

    -- a state's place, and that it has no value yet
    module _ (kind : LineOp → Bool) (kl : kind l.op ≡ true) (sorted_kind : (y : LineOp) → kind y ≡ true → has_sort y ≡ true) (other : (f : Outcome) (x : LineOp) → kind (op_by f x) ≡ true → (kind x ≡ true) × (is_shared x ≡ false)) (two : (ls : List Line) (s : ℕ) (x : LineOp) (args : List Arg) → kind x ≡ true → OpFits ls s x args → OnTwo args (λ x v. GivesValue kind ls s x v)) (st : fate_at fates i ≡ Stays) where
      state_free : (x v : Arg) → l.args ≡ x ∷ v ∷ [] → GivesValue kind (take i lines) l.sort x v → state_value kind new (moved_arg moved (replaced fates x)).line ≡ None
      state_free x v e g = none_value kind new (moved_arg moved (replaced fates x)).line refuted
        where
          refuted : (p : ℕ) (m : Line) (u : Arg) → slice_get new p ≡ Some m → kind m.op ≡ true → value_for m.args (moved_arg moved (replaced fates x)).line ≡ Some u → ⊥
          refuted p m u atp km val =
              let less : p < q = omega (arith, slice_get_inside new p m atp, w.sized) in
              let within : p < length places = omega (arith, less, slice_get_inside places q i placed) in
              let j = inside_get places p within in
              let moved_j = o.forward p j.0 j.1 in
              let lj = line_there lines fates places moved o j.0 p moved_j in
              let same : m ≡ new_line fates moved p j.0 lj.0 = same_Some m _ (sym atp ∙ at_new p j.0 lj.0 less moved_j lj.1) in
              let kind_j = other (fate_at fates j.0) lj.0.op (sym (ap (λ (z : Line). kind z.op) same) ∙ km) in
              let sj = stays lines fates k j.0 lj.0 lj.1 kind_j.1 in
              let fj = two (take j.0 lines) lj.0.sort lj.0.op lj.0.args kind_j.0 (k.well_formed.by_line j.0 lj.0 lj.1).body.sorts in
              let aj = two_args lj.0.args _ fj in
              let y = aj.0 in
              let sy = same_state lines fates k j.0 0 y aj.3.0 in
              let sx = same_state lines fates k i 0 x g.0 in
              let margs : m.args ≡ moved_arg moved (replaced fates y) ∷ moved_arg moved (replaced fates aj.1) ∷ [] =
              ap (λ (z : Line). z.args) same ∙ ap (λ f. new_args fates moved f lj.0.args) sj ∙ ap (λ zs. map (moved_arg moved) (map (replaced fates) zs)) aj.2 in
              let va = value_args m.args _ u val in
              let first : moved_arg moved (replaced fates y) ≡ va.0 = head_same _ _ _ _ (sym margs ∙ va.2) in
              let here : place_in moved y.line ≡ place_in moved x.line =
              sym (ap (λ (z : Arg). place_in moved z.line) sy) ∙ ap (λ (z : Arg). z.line) first ∙ va.3 ∙ ap (λ (z : Arg). place_in moved z.line) sx in
              let bx = before_at moved fates l.args q zero x (subst (λ f. AreBefore moved (args_by fates f l.args) q) st ready.args) (ap (λ zs. slice_get zs 0) e) in
              let by = before_at moved fates lj.0.args p zero y (subst (λ f. AreBefore moved (args_by fates f lj.0.args) p) sj (o.ready p j.0 lj.0 j.1 lj.1).args) (ap (λ zs. slice_get zs 0) aj.2) in
              let mx : IsMoved moved x.line bx.0 = ap (λ (z : Arg). get_or moved z.line None) (sym sx) ∙ bx.1 in
              let my : IsMoved moved y.line by.0 = ap (λ (z : Arg). get_or moved z.line None) (sym sy) ∙ by.1 in
              let one : bx.0 ≡ by.0 = sym (place_is x.line bx.0 mx) ∙ sym here ∙ place_is y.line by.0 my in
              let lines_same : x.line ≡ y.line = same_Some x.line y.line (sym (o.back x.line bx.0 mx) ∙ ap (slice_get places) one ∙ o.back y.line by.0 my) in
              let earlier : j.0 < i = o.rises p q j.0 i lj.0 l j.1 placed lj.1 at (no_sort_kind lj.0.op kind_j.1) (no_sort_kind l.op (other Stays l.op kl).1) less in
              let front : slice_get (take i lines) j.0 ≡ Some lj.0 = slice_get_take lines i j.0 lj.0 earlier lj.1 in
              let value : value_for lj.0.args x.line ≡ Some aj.1 = ap (λ zs. value_for zs x.line) aj.2 ∙ ap (λ b. cond b (Some aj.1) None) (eq-eqb y.line x.line (sym lines_same)) in
              some_value kind (take i lines) x.line j.0 lj.0 aj.1 front kind_j.0 value g.5

      state_there : (x : Arg) → kind_at is_state (take i lines) x.line ≡ true → (p : ℕ) → IsMoved moved x.line p → p < q → kind_at is_state new p ≡ true
      state_there x h p mp lt =
          let g = kind_line is_state (take i lines) x.line h in
          let atx = take_line lines i x.line g.0 g.1 in
          let f = stays lines fates k x.line g.0 atx (unshared_of g.0.op g.2) in
          ap (is_kind is_state) (at_new p x.line g.0 lt mp atx) ∙ ap (λ z. is_state (op_by z g.0.op)) f ∙ g.2

      gives_value : (x v : Arg) → l.args ≡ x ∷ v ∷ [] → GivesValue kind (take i lines) l.sort x v → GivesValue kind new (new_sort fates moved l.op l.sort) (moved_arg moved (replaced fates x)) (moved_arg moved (replaced fates v))
      gives_value x v e g =
          let sx = same_state lines fates k i 0 x g.0 in
          let bx = before_at moved fates l.args q zero x (subst (λ f. AreBefore moved (args_by fates f l.args) q) st ready.args) (ap (λ zs. slice_get zs 0) e) in
          let mx : IsMoved moved x.line bx.0 = ap (λ (z : Arg). get_or moved z.line None) (sym sx) ∙ bx.1 in
          let le : q ≤ q = omega arith in
          let sorts : sort_at new (new_sort fates moved l.op l.sort) ≡ sort_at (take i lines) l.sort = new_sort_is q i l le placed at (kind_sort e g) ∙ front_sort g.2 in (
            ap (kind_at is_state new) (place_is (replaced fates x).line bx.0 bx.1) ∙ state_there x g.0 bx.0 mx bx.2,
            ap (λ (z : Arg). z.negated) sx ∙ g.1,
            omega (arith, sorts, g.2),
            arg_width st 0 x (ap (λ zs. slice_get zs 0) e) ∙ g.3 ∙ sym sorts,
            arg_width st 1 v (ap (λ zs. slice_get zs 1) e) ∙ g.4 ∙ sym sorts,
            state_free x v e g,
          )
        where
          kind_sort : l.args ≡ x ∷ v ∷ [] → GivesValue kind (take i lines) l.sort x v → has_sort l.op ≡ true
          kind_sort e g = from l.op refl
            where
              from : (y : LineOp) → l.op ≡ y → has_sort y ≡ true
              from y h = sorted_kind y (subst (λ z. kind z ≡ true) h kl)

    -- an init's value is before its state, or is a constant
    init_rule : fate_at fates i ≡ Stays → (x v : Arg) → l.args ≡ x ∷ v ∷ [] → kind_at is_state (take i lines) x.line ≡ true → 1 ≤ width_at (take i lines) v.line → InitRule (take i lines) x v → InitRule new (moved_arg moved (replaced fates x)) (moved_arg moved (replaced fates v))
    init_rule st x v e s wide r =
        let all : AreBefore moved (map (replaced fates) l.args) q = subst (λ f. AreBefore moved (args_by fates f l.args) q) st ready.args in
        let bx = before_at moved fates l.args q 0 x all (ap (λ zs. slice_get zs 0) e) in
        let bv = before_at moved fates l.args q 1 v all (ap (λ zs. slice_get zs 1) e) in
        let sx = same_state lines fates k i 0 x s in
        let sv = source lines fates i l 1 v k at (ap (λ zs. slice_get zs 1) e) in
        let gx = kind_line is_state (take i lines) x.line s in
        let atx = take_line lines i x.line gx.0 gx.1 in
        let mx : IsMoved moved x.line bx.0 = ap (λ (z : Arg). get_or moved z.line None) (sym sx) ∙ bx.1 in
        let gv = line_at lines (replaced fates v).line sv.wide in
        elim r [
          | inl lt ↦
              let less : (replaced fates v).line < x.line = omega (arith, moved_le lines fates k v sv.inside, lt) in
              elim (cases_lt bv.0 bx.0) [
                | inl b ↦ inl (omega (arith, b, place_is (replaced fates v).line bv.0 bv.1, place_is (replaced fates x).line bx.0 bx.1))
                | inr ge ↦ absurd (not_behind bx.0 bv.0 x.line (replaced fates v).line gx.0 gv.0 mx bv.1 atx gv.1 (no_sort_kind gx.0.op (unshared_of gx.0.op gx.2)) (word_no gv.0.op gv.2) ge less)
              ]
          | inr c ↦
              let g = kind_line is_constant (take i lines) v.line c in
              let constant = constant_moves lines fates k v g.0 (take_line lines i v.line g.0 g.1) g.2 gv.0 gv.1 in
              inr (ap (kind_at is_constant new) (place_is (replaced fates v).line bv.0 bv.1) ∙ ap (is_kind is_constant) (at_new bv.0 (replaced fates v).line gv.0 bv.2 bv.1 gv.1) ∙ constant)
        ]
      where
        word_no : (y : LineOp) → has_word y ≡ true → is_sort y ≡ false
        word_no (op.Sort w) h = absurd (cc)
        word_no y h = refl

        not_behind : (a b x y : ℕ) (lx ly : Line) → IsMoved moved x a → IsMoved moved y b → slice_get lines x ≡ Some lx → slice_get lines y ≡ Some ly → is_sort lx.op ≡ false → is_sort ly.op ≡ false → a ≤ b → y < x → ⊥
        not_behind a b x y lx ly ma mb ax ay nx ny le lt =
            elim (cases_lt a b) [
              | inl less ↦ let h = o.rises a b x y lx ly (o.back x a ma) (o.back y b mb) ax ay nx ny less in omega (arith, h, lt)
              | inr ge ↦
                  let same : a ≡ b = omega (arith, le, ge) in
                  let one : x ≡ y = same_Some x y (sym (o.back x a ma) ∙ ap (slice_get places) same ∙ o.back y b mb) in
                  omega (arith, one, lt)
            ]

    inits : fate_at fates i ≡ Stays → OnTwo l.args (λ x v. GivesValue is_init (take i lines) l.sort x v × InitRule (take i lines) x v) → l.op ≡ op.Init → OnTwo (map (moved_arg moved) (map (replaced fates) l.args)) (λ x v. GivesValue is_init new (new_sort fates moved l.op l.sort) x v × InitRule new x v)
    inits st h e =
        let a = two_args l.args _ h in
        subst (λ zs. OnTwo (map (moved_arg moved) (map (replaced fates) zs)) (λ x v. GivesValue is_init new (new_sort fates moved l.op l.sort) x v × InitRule new x v)) (sym a.2) (
          gives_value is_init (ap is_init e) init_sorted init_other init_two st a.0 a.1 a.2 a.3.0,
          init_rule st a.0 a.1 a.2 a.3.0.0 (omega (arith, a.3.0.2, a.3.0.4)) a.3.1,
        )

    nexts : fate_at fates i ≡ Stays → OnTwo l.args (λ x v. GivesValue is_next (take i lines) l.sort x v) → l.op ≡ op.Next → OnTwo (map (moved_arg moved) (map (replaced fates) l.args)) (λ x v. GivesValue is_next new (new_sort fates moved l.op l.sort) x v)
    nexts st h e =
        let a = two_args l.args _ h in
        subst (λ zs. OnTwo (map (moved_arg moved) (map (replaced fates) zs)) (λ x v. GivesValue is_next new (new_sort fates moved l.op l.sort) x v)) (sym a.2)
        (gives_value is_next (ap is_next e) next_sorted next_other next_two st a.0 a.1 a.2 a.3)

    sorts_here : 1 ≤ sort_at (take i lines) l.sort → has_sort l.op ≡ true → sort_at new (new_sort fates moved l.op l.sort) ≡ sort_at (take i lines) l.sort
    sorts_here h s = let le : q ≤ q = omega arith in new_sort_is q i l le placed at s ∙ front_sort h

    no_sort_here : has_sort l.op ≡ false → new_sort fates moved l.op l.sort ≡ 0
    no_sort_here s = ap (λ b. cond b (place_in moved (sort_for fates l.sort)) 0) s

    here_width : has_word l.op ≡ true → width_at lines i ≡ sort_at lines l.sort
    here_width h = ap (λ (x : Option Line). width_of_line lines x) at ∙ ap (λ b. cond b (sort_at lines l.sort) 0) h

    constant_fits : (c : BitVector) → fate_at fates i ≡ Constant c → OpFits new (new_sort fates moved l.op l.sort) (op.Constant c) []
    constant_fits c e =
        let h = subst (KeepsWidth lines fates i) e (known_width i l at) in
        let wide : 1 ≤ width_at lines i = omega (arith, h.0.0, h.1) in
        let g = line_at lines i wide in
        let word : has_word l.op ≡ true = ap (λ (x : Line). has_word x.op) (same_Some l g.0 (sym at ∙ g.1)) ∙ g.2 in
        let le : q ≤ q = omega arith in
        (h.0, h.1 ∙ here_width word ∙ sym (new_sort_is q i l le placed at (word_sort l.op word)), refl)

    stays_fit : fate_at fates i ≡ Stays → OpFits new (new_sort fates moved l.op l.sort) l.op (map (moved_arg moved) (map (replaced fates) l.args))
    stays_fit st =
        let twice : map (moved_arg moved) (map (replaced fates) l.args) ≡ map (λ (a : Arg). moved_arg moved (replaced fates a)) l.args = map_twice (replaced fates) (moved_arg moved) l.args in
        let new_s = new_sort fates moved l.op l.sort in
        subst (OpFits new new_s l.op) (sym twice)
        (op_moves (take i lines) new l.sort new_s (λ (a : Arg). moved_arg moved (replaced fates a)) l.op l.args
        (λ s h. sorts_here h s)
        (λ j a e h. arg_width st j a e)
        no_sort_here
        (λ h e. subst (λ zs. OnTwo zs (λ x v. GivesValue is_init new new_s x v × InitRule new x v)) twice (inits st h e))
        (λ h e. subst (λ zs. OnTwo zs (λ x v. GivesValue is_next new new_s x v)) twice (nexts st h e))
        (k.well_formed.by_line i l at).body.sorts)

    op_fits : (f : Outcome) → fate_at fates i ≡ f → Lives f → OpFits new (new_sort fates moved l.op l.sort) (op_by f l.op) (new_args fates moved f l.args)
    op_fits (Constant c) e v = constant_fits c e
    op_fits Stays e v = stays_fit e
    op_fits (Argument b) e v = absurd v

    pub fits_line : Fits new (new_line fates moved q i l)
    fits_line =
        let few = places_few lines fates (length lines) places moved k o in
        let less = slice_get_inside places q i placed in
        record {
          rises = omega (arith, w.numbered);
          small = omega (arith, few, less);
          body = record {
            earlier = earlier_moved moved (args_by fates (fate_at fates i) l.args) (length new) q w.sized ready.args;
            sorts = op_fits (fate_at fates i) refl ready.lives;
            symbol = symbol_fits l.op l.symbol (k.well_formed.by_line i l at).body.symbol;
          };
        }

    pub written_push : IsWritten lines fates places moved (q + 1) (new ++ new_line fates moved q i l ∷ [])
    written_push =
        record {
          sized = omega (arith, length_push new (new_line fates moved q i l), w.sized);
          numbered = last_push new (new_line fates moved q i l);
          by_place = λ p j m lt h e. elim (cases_lt p q) [
            | inl less ↦ slice_get_front new (new_line fates moved q i l ∷ []) p (new_line fates moved p j m) (w.by_place p j m less h e)
            | inr ge ↦
                let same : q ≡ p = omega (arith, lt, ge) in
                let j_is : i ≡ j = same_Some i j (sym placed ∙ ap (slice_get places) same ∙ h) in
                let one : l ≡ m = same_Some l m (sym at ∙ ap (slice_get lines) j_is ∙ e) in
                ap (slice_get (new ++ new_line fates moved q i l ∷ [])) (sym same ∙ sym w.sized) ∙ slice_get_end new (new_line fates moved q i l)
                ∙ ap (λ n. Some (new_line fates moved n i l)) same ∙ ap (λ n. Some (new_line fates moved p n l)) j_is ∙ ap (λ (x : Line). Some (new_line fates moved p j x)) one
          ];
        }

pub none_written : (lines : List Line) (fates : List Outcome) (places : List ℕ) (moved : List (Option ℕ)) → IsWritten lines fates places moved 0 []
none_written lines fates places moved = record { sized = refl; numbered = refl; by_place = λ q i l lt h e. absurd (omega (arith, lt)) }

-- a line that has a new place can be written
pub can_write : (lines : List Line) (fates : List Outcome) (i : ℕ) (l : Line) → AreKnown lines fates → slice_get lines i ≡ Some l → CanWrite fates l
can_write lines fates i l k at =
    let body = (k.well_formed.by_line i l at).body in
    record {
      short = fits_short (take i lines) l.sort l.op l.args body.sorts;
      there = there_below fates (length (take i lines)) l.args (omega (arith, length-take i lines, slice_get_inside lines i l at, k.sized)) body.earlier;
      sort = λ h. (sort_of_line lines fates i l k at h).inside;
    }
