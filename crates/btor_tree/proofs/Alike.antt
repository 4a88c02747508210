-- What says the same is the same, and what a push does to a list of lines.
use Rattle.std.proofs.Common.{◌≡◌, ℕ, zero, suc, ◌≤◌, Bool, true, false, ◌&&◌, cond, List, [], ◌∷◌, ◌++◌, Option, Some, None, option_map, refl, sym, ap, ◌∙◌, subst, arith, inl, inr, ◌⊎◌, eqb}
use Rattle.std.specs.Prelude.{slice_get, slice_index_or}
use Rattle.std.proofs.lemmas.Bool.{eqb-true, eq-eqb, and_parts, and_from, both_ways}
use Rattle.std.proofs.lemmas.Option.{same_Some, none-some}
use Rattle.word_core.specs.declared.kinds.Unary.{Unary}
use Rattle.word_core.specs.declared.kinds.Unary.TheVariants.{Not}
use Rattle.word_core.specs.declared.kinds.Binary.{Binary}
use Rattle.word_core.specs.declared.kinds.Binary.TheVariants.{And}
use Rattle.btor_tree.specs.declared.args.Arg.{Arg}
use Rattle.btor_tree.specs.declared.lines.Line.{Line}
use Rattle.btor_tree.specs.declared.lines.LineOp.{LineOp}
use Rattle.btor_tree.specs.declared.lines.LineOp.TheVariants as op
use Rattle.btor_tree.specs.Fits.{sort_at, sort_width}
use Rattle.btor_tree.specs.Shapes.{unaries, unary_number, binaries, binary_number}
use Rattle.btor_tree.specs.Sharing.{is_shared, op_kind, op_number, op_second, same_op, same_sign, same_arg, same_args, is_equal_line, place_of_equal, standing, next_line, placed, pushed, Says, SaysAt, GrowsByShared, HasNoDuplicates, Push, built}
use Rattle.btor_tree.proofs.AtPlaces.{width_of_sort}
use Rattle.btor_tree.proofs.Grows.{push_cases, slice_get_end}

-- A clause for one operator has the next checked for each other one by itself.
unary_again : (u : Unary) → slice_index_or unaries (unary_number u) Not ≡ u
unary_again Not = refl
unary_again u = refl

binary_again : (b : Binary) → slice_index_or binaries (binary_number b) And ≡ b
binary_again And = refl
binary_again b = refl

-- the word of a line, from its kind and its numbers
abbrev op_from : ℕ → ℕ → ℕ → LineOp
op_from kind n s =
    slice_index_or (op.Ite ∷ op.Sort n ∷ op.Constant (record { width = s; bits = n }) ∷ op.One ∷ op.Zero ∷ op.Ones ∷ op.Unary (slice_index_or unaries n Not) ∷ op.Binary (slice_index_or binaries n And) ∷ op.Ite ∷ op.Slice n s ∷ op.Uext n ∷ op.Sext n ∷ []) kind op.Ite

op_again : (o : LineOp) → is_shared o ≡ true → op_from (op_kind o) (op_number o) (op_second o) ≡ o
op_again (op.Sort w) h = refl
op_again (op.Constant c) h = refl
op_again op.One h = refl
op_again op.Zero h = refl
op_again op.Ones h = refl
op_again (op.Unary u) h = ap op.Unary (unary_again u)
op_again (op.Binary b) h = ap op.Binary (binary_again b)
op_again op.Ite h = refl
op_again (op.Slice high low) h = refl
op_again (op.Uext n) h = refl
op_again (op.Sext n) h = refl
op_again o h = absurd (cc)

shared_kind : (o : LineOp) → is_shared o ≡ true → 1 ≤ op_kind o
shared_kind (op.Sort w) h = omega arith
shared_kind (op.Constant c) h = omega arith
shared_kind op.One h = omega arith
shared_kind op.Zero h = omega arith
shared_kind op.Ones h = omega arith
shared_kind (op.Unary u) h = omega arith
shared_kind (op.Binary b) h = omega arith
shared_kind op.Ite h = omega arith
shared_kind (op.Slice high low) h = omega arith
shared_kind (op.Uext n) h = omega arith
shared_kind (op.Sext n) h = omega arith
shared_kind o h = absurd (cc)

kind_shared : (o : LineOp) → 1 ≤ op_kind o → is_shared o ≡ true
kind_shared op.Input h = absurd (omega (arith, h))
kind_shared op.State h = absurd (omega (arith, h))
kind_shared op.Init h = absurd (omega (arith, h))
kind_shared op.Next h = absurd (omega (arith, h))
kind_shared op.Bad h = absurd (omega (arith, h))
kind_shared op.Constraint h = absurd (omega (arith, h))
kind_shared op.Output h = absurd (omega (arith, h))
kind_shared o h = refl

-- the kind and the numbers tell shared words apart
pub op_told : (a b : LineOp) → is_shared a ≡ true → op_kind a ≡ op_kind b → op_number a ≡ op_number b → op_second a ≡ op_second b → a ≡ b
op_told a b h k n s =
    let g : is_shared b ≡ true = kind_shared b (subst (λ m. 1 ≤ m) k (shared_kind a h)) in
    sym (op_again a h) ∙ ap (λ m. op_from m (op_number a) (op_second a)) k ∙ ap (λ m. op_from (op_kind b) m (op_second a)) n ∙ ap (op_from (op_kind b) (op_number b)) s ∙ op_again b g

op_same : (a b : LineOp) → is_shared a ≡ true → same_op a b ≡ true → a ≡ b
op_same a b h e =
    let p = and_parts _ _ e in
    let q = and_parts _ _ p.1 in
    op_told a b h (eqb-true (op_kind a) (op_kind b) p.0) (eqb-true (op_number a) (op_number b) q.0) (eqb-true (op_second a) (op_second b) q.1)

pub sign_same : (a b : Bool) → same_sign a b ≡ true → a ≡ b
sign_same true true h = refl
sign_same true false h = absurd (cc)
sign_same false true h = absurd (cc)
sign_same false false h = refl

sign_self : (a : Bool) → same_sign a a ≡ true
sign_self true = refl
sign_self false = refl

pub arg_same : (a b : Arg) → same_arg a b ≡ true → a ≡ b
arg_same a b h =
    let p = and_parts _ _ h in
    ap (λ n. record { line = n; negated = a.negated }) (eqb-true a.line b.line p.0) ∙ ap (λ s. record { line = b.line; negated = s }) (sign_same a.negated b.negated p.1)

arg_self : (a : Arg) → same_arg a a ≡ true
arg_self a = and_from _ _ (eq-eqb a.line a.line refl) (sign_self a.negated)

args_same : (xs ys : List Arg) → same_args xs ys ≡ true → xs ≡ ys
args_same [] [] h = refl
args_same [] (y ∷ ys) h = absurd (cc)
args_same (x ∷ xs) [] h = absurd (cc)
args_same (x ∷ xs) (y ∷ ys) h =
    let p = and_parts _ _ h in
    ap (λ z. z ∷ xs) (arg_same x y p.0) ∙ ap (λ zs. y ∷ zs) (args_same xs ys p.1)

args_self : (xs : List Arg) → same_args xs xs ≡ true
args_self [] = refl
args_self (x ∷ xs) = and_from _ _ (arg_self x) (args_self xs)

pub alike_says : (o : LineOp) (sort : ℕ) (args : List Arg) (l : Line) → is_shared o ≡ true → is_equal_line o sort args l ≡ true → Says o sort args l
alike_says o sort args l h e =
    let p = and_parts _ _ e in
    let q = and_parts _ _ p.1 in
    (sym (op_same o l.op h p.0), sym (eqb-true sort l.sort q.0), sym (args_same args l.args q.1))

alike_self : (o : LineOp) (sort : ℕ) (args : List Arg) → (same_op o o && (eqb sort sort && same_args args args)) ≡ true
alike_self o sort args =
    and_from _ _ (and_from _ _ (eq-eqb (op_kind o) (op_kind o) refl) (and_from _ _ (eq-eqb (op_number o) (op_number o) refl) (eq-eqb (op_second o) (op_second o) refl))) (and_from _ _ (eq-eqb sort sort refl) (args_self args))

pub says_alike : (o : LineOp) (sort : ℕ) (args : List Arg) (l : Line) → Says o sort args l → is_equal_line o sort args l ≡ true
says_alike o sort args l s =
    ap (λ m. same_op o m && (eqb sort l.sort && same_args args l.args)) s.0
    ∙ ap (λ m. same_op o o && (eqb sort m && same_args args l.args)) s.1
    ∙ ap (λ m. same_op o o && (eqb sort sort && same_args args m)) s.2
    ∙ alike_self o sort args

place_step : (b : Bool) (r : Option ℕ) (p : ℕ) → cond b (Some 0) (option_map suc r) ≡ Some p → ((b ≡ true) × (p ≡ 0)) ⊎ ((q : ℕ) × (r ≡ Some q) × (p ≡ suc q))
place_step true r p h = inl (refl, sym (same_Some 0 p h))
place_step false None p h = absurd (none-some p h)
place_step false (Some q) p h = inr (q, refl, sym (same_Some (suc q) p h))

pub none_step : (b : Bool) (r : Option ℕ) → cond b (Some 0) (option_map suc r) ≡ None → (b ≡ false) × (r ≡ None)
none_step true r h = absurd (none-some 0 (sym h))
none_step false None h = (refl, refl)
none_step false (Some q) h = absurd (none-some (suc q) (sym h))

pub place_says : (lines : List Line) (o : LineOp) (sort : ℕ) (args : List Arg) (p : ℕ) → is_shared o ≡ true → place_of_equal lines o sort args ≡ Some p → (l : Line) × (slice_get lines p ≡ Some l) × Says o sort args l
place_says [] o sort args p h e = absurd (none-some p e)
place_says (l ∷ ls) o sort args p h e =
    elim (place_step (is_equal_line o sort args l) (place_of_equal ls o sort args) p e) [
      | inl z ↦ (l, ap (slice_get (l ∷ ls)) z.1, alike_says o sort args l h z.0)
      | inr s ↦
          let r = place_says ls o sort args s.0 h s.1 in
          (r.0, ap (slice_get (l ∷ ls)) s.2 ∙ r.1, r.2)
    ]

pub none_says : (lines : List Line) (o : LineOp) (sort : ℕ) (args : List Arg) → place_of_equal lines o sort args ≡ None → (i : ℕ) (m : Line) → slice_get lines i ≡ Some m → Says o sort args m → ⊥
none_says [] o sort args e i m g s = none-some m g
none_says (l ∷ ls) o sort args e zero m g s =
    let n = none_step (is_equal_line o sort args l) (place_of_equal ls o sort args) e in
    both_ways (is_equal_line o sort args l) n.0 (says_alike o sort args l (subst (Says o sort args) (sym (same_Some l m g)) s))
none_says (l ∷ ls) o sort args e (suc i) m g s =
    none_says ls o sort args (none_step (is_equal_line o sort args l) (place_of_equal ls o sort args) e).1 i m g s

-- what a push found, and what it made
choice_says : (lines : List Line) (o : LineOp) (sort : ℕ) (args : List Arg) (b : Bool) → is_shared o ≡ b → (p : ℕ) → cond b (place_of_equal lines o sort args) None ≡ Some p → SaysAt lines p o sort args
choice_says lines o sort args true h p e = place_says lines o sort args p h e
choice_says lines o sort args false h p e = absurd (none-some p e)

pub standing_says : (lines : List Line) (o : LineOp) (sort : ℕ) (args : List Arg) (p : ℕ) → standing lines o sort args ≡ Some p → SaysAt lines p o sort args
standing_says lines o sort args p e = choice_says lines o sort args (is_shared o) refl p e

placed_says : (lines : List Line) (l : Line) (found : Option ℕ) → ((p : ℕ) → found ≡ Some p → SaysAt lines p l.op l.sort l.args) → SaysAt (placed found lines l).0 (placed found lines l).1 l.op l.sort l.args
placed_says lines l (Some p) h = h p refl
placed_says lines l None h = (l, slice_get_end lines l, (refl, refl, refl))

pub pushed_says : (lines : List Line) (o : LineOp) (sort : ℕ) (args : List Arg) (symbol : Option (List ℕ)) → SaysAt (pushed lines o sort args symbol).0 (pushed lines o sort args symbol).1 o sort args
pushed_says lines o sort args symbol =
    placed_says lines (next_line lines o sort args symbol) (standing lines o sort args) (standing_says lines o sort args)

append_none : {X : Type 0} (xs : List X) → xs ≡ xs ++ []
append_none [] = refl
append_none (x ∷ xs) = ap (λ ys. x ∷ ys) (append_none xs)

placed_quiet : (lines : List Line) (l : Line) (found : Option ℕ) → is_shared l.op ≡ true → GrowsByShared lines (placed found lines l).0
placed_quiet lines l (Some p) h = ([], append_none lines, tt)
placed_quiet lines l None h = (l ∷ [], refl, (h, tt))

pub pushed_quiet : (lines : List Line) (o : LineOp) (sort : ℕ) (args : List Arg) (symbol : Option (List ℕ)) → is_shared o ≡ true → GrowsByShared lines (pushed lines o sort args symbol).0
pushed_quiet lines o sort args symbol h = placed_quiet lines (next_line lines o sort args symbol) (standing lines o sort args) h

-- no two lines say the same
pub none_alike : HasNoDuplicates []
none_alike = record { by_places = λ i j l m g k h s. absurd (none-some l g) }

says_back : (l m : Line) → Says m.op m.sort m.args l → Says l.op l.sort l.args m
says_back l m s = (sym s.0, sym s.1, sym s.2)

pub distinct_push : (lines : List Line) (l : Line) → HasNoDuplicates lines → (is_shared l.op ≡ true → (i : ℕ) (m : Line) → slice_get lines i ≡ Some m → Says l.op l.sort l.args m → ⊥) → HasNoDuplicates (lines ++ l ∷ [])
distinct_push lines l d new =
    record {
      by_places = λ i j x y g k h s.
          elim (push_cases lines l i x g) [
            | inl u ↦
                elim (push_cases lines l j y k) [
                  | inl v ↦ d.by_places i j x y u.1 v.1 h s
                  | inr v ↦
                      let t : Says l.op l.sort l.args x = subst (λ (z : Line). Says z.op z.sort z.args x) (sym v.1) s in
                      absurd (new (sym (ap is_shared t.0) ∙ h) i x u.1 t)
                ]
            | inr u ↦
                elim (push_cases lines l j y k) [
                  | inl v ↦ absurd (new (ap (λ (z : Line). is_shared z.op) u.1 ∙ h) j y v.1 (says_back l y (subst (Says y.op y.sort y.args) (sym u.1) s)))
                  | inr v ↦ u.0 ∙ sym v.0
                ]
          ];
    }

placed_distinct : (lines : List Line) (l : Line) (found : Option ℕ) → HasNoDuplicates lines → (found ≡ None → is_shared l.op ≡ true → (i : ℕ) (m : Line) → slice_get lines i ≡ Some m → Says l.op l.sort l.args m → ⊥) → HasNoDuplicates (placed found lines l).0
placed_distinct lines l (Some p) d h = d
placed_distinct lines l None d h = distinct_push lines l d (h refl)

pub standing_none : (lines : List Line) (o : LineOp) (sort : ℕ) (args : List Arg) → standing lines o sort args ≡ None → is_shared o ≡ true → place_of_equal lines o sort args ≡ None
standing_none lines o sort args e h = sym (ap (λ b. cond b (place_of_equal lines o sort args) None) h) ∙ e

pub pushed_distinct : (lines : List Line) (o : LineOp) (sort : ℕ) (args : List Arg) (symbol : Option (List ℕ)) → HasNoDuplicates lines → HasNoDuplicates (pushed lines o sort args symbol).0
pushed_distinct lines o sort args symbol d =
    placed_distinct lines (next_line lines o sort args symbol) (standing lines o sort args) d (λ e h. none_says lines o sort args (standing_none lines o sort args e h))

pub built_distinct : (lines : List Line) (pushes : List Push) → HasNoDuplicates lines → HasNoDuplicates (built lines pushes)
built_distinct lines [] d = d
built_distinct lines (p ∷ ps) d = built_distinct (pushed lines p.op p.sort p.args p.symbol).0 ps (pushed_distinct lines p.op p.sort p.args p.symbol d)

pub pushed_sort : (lines : List Line) (w : ℕ) (args : List Arg) (symbol : Option (List ℕ)) → sort_at (pushed lines (op.Sort w) 0 args symbol).0 (pushed lines (op.Sort w) 0 args symbol).1 ≡ w
pushed_sort lines w args symbol =
    let s = pushed_says lines (op.Sort w) 0 args symbol in
    ap width_of_sort s.1 ∙ ap sort_width s.2.0
