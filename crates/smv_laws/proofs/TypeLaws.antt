-- Each value that a typed expression permits lies in its type.
use Rattle.std.proofs.Common.{◌≡◌, ℕ, zero, suc, ◌+◌, ◌-◌, ◌^◌, ◌<◌, Bool, true, false, not, ◌&&◌, ◌||◌, ◌==◌, nat_lt, if◌then◌else◌, ℤ, pos, neg_ℤ, nat_abs, ◌≤ℤ◌, int_le, List, [], ◌∷◌, Option, Some, None, option_map, refl, sym, ap, ◌∙◌, subst, arith}
use Rattle.std.proofs.lemmas.Int.{ints}
use Rattle.std.proofs.lemmas.Bool.{eqb-true, eq-eqb, ltb-true}
use mathlib.Core.Logic.{◌⊎◌, inl, inr, ⊎_elim}
use Rattle.std.specs.List.{list_all}
use Rattle.text_core.specs.declared.place.Place.{Place}
use Rattle.word_core.specs.Words.{BitVector}
use Rattle.smv_text.specs.declared.tree.Path.{Path}
use Rattle.smv_text.specs.declared.operators.Prefix.{Prefix}
use Rattle.smv_text.specs.declared.operators.Prefix.TheVariants as OfPrefix
use Rattle.smv_text.specs.declared.operators.Function.{Function}
use Rattle.smv_text.specs.declared.operators.Infix.{Infix}
use Rattle.smv_text.specs.declared.operators.Infix.TheVariants.{Member, Union}
use Rattle.smv_text.specs.Tree.{Tree, truth, number, literal, name, prefix, chain, choice, cases, select, call, next, set, range, Links, no_links, link, Branches, no_branches, branch, Trees, no_trees, tree, PlainDomain}
use Rattle.smv_meaning.specs.declared.value.Value.{Value}
use Rattle.smv_meaning.specs.declared.value.Value.TheVariants.{Truth, Integer, Symbol, Bits}
use Rattle.smv_meaning.specs.Values.{Valuation, is_true, value_same, is_between}
use Rattle.smv_meaning.specs.Operators.{applied, signed, selected, called, is_width}
use Rattle.smv_meaning.specs.Expressions.{Denotation, alone, set_of, joined, is_from_right, is_last, denote, implications, linked as linked_values, chosen, taken, values_of, one_permits}
use Rattle.smv_meaning.specs.Names.{Found, variable_at, body_at, instance_at, symbol_of, cyclic, none}
use Rattle.smv_meaning.specs.Meaning.{reading, value_found, denoted}
use Rattle.smv_meaning.specs.Types.{ExprType, truth_type, integer_type, symbol_type, word_type, is_truth_type, is_word_type, type_same, in_limit, logical_fits, infix_fits, infix_type, divides, shifts, joins, is_union, prefix_fits, prefix_type, is_select, function_fits, arguments_fit, function_type, number_of, numbers_of, divisor_of, is_divisor, is_nonzero, are_same, hull, hull_of, implies_fits, first_type, domain_type}
use Rattle.smv_meaning.specs.Checks.{Check, check, passes, Position, single, under_next, Named, Typing, on_type, all_types, on_all, both_types, front_checks, front, are_unions, across, behind, branches_fit, branches_type, is_literal, literal_type, typing, link_types, linked, condition_types, value_types, tree_types}
use Rattle.smv_meaning.specs.Naming.{in_body, named_found, naming}
use Rattle.smv_meaning.specs.Typed.{LiesIn, Lies, GivesFound, Gives, ValuesLie}
use Rattle.smv_meaning.specs.laws.Booleans.{both_true, two_true, or_true, absurd_bool}
use Rattle.smv_laws.proofs.OperatorLaws.{width_of, DivisorIs, NumberIs, NumbersAre, AllLie, infix_lies, implied_lies, prefix_lies, select_lies, called_lies, hull_left, hull_right, LiesInOne, hull_of_holds}
use Rattle.text_core.proofs.Truths.{not_true}
use Rattle.smv_meaning.specs.Owed.{HasType}

-- what the denotation permits lies in the type, and so does its value where it may not be a set
pub record Fine (t : Option ExprType) (d : Denotation) (sets : Bool) : Type 0 where
  pub permitted : (v : Value) → d.permits v ≡ true → Lies t v
  pub valued : sets ≡ false → Lies t d.value

int_same_is : (a b : ℤ) → (int_le a b && int_le b a) ≡ true → (a ≤ℤ b) × (b ≤ℤ a)
int_same_is a b h = let t = both_true (int_le a b) (int_le b a) h in let p = t.0 in let q = t.1 in (omega (arith, ints), omega (arith, ints))

pub same_lies : (t : ExprType) (v w : Value) → value_same v w ≡ true → LiesIn t v → LiesIn t w
same_lies truth_type (Truth a) (Truth b) e h = tt
same_lies truth_type (Truth a) w e h = cc
same_lies truth_type v w e h = absurd h
same_lies (integer_type low high) (Integer a) (Integer b) e h =
    let s = int_same_is a b e in let p = h.0 in let q = h.1 in (omega (arith, ints, s.0, s.1), omega (arith, ints, s.0, s.1))
same_lies (integer_type low high) (Integer a) w e h = cc
same_lies (integer_type low high) v w e h = absurd h
same_lies symbol_type (Symbol a) (Symbol b) e h = tt
same_lies symbol_type (Symbol a) w e h = cc
same_lies symbol_type v w e h = absurd h
same_lies (word_type n) (Bits x) (Bits y) e h =
    let b = both_true (x.width == y.width) (x.bits == y.bits) e in
    let p = eqb-true x.width y.width b.0 in
    let q = eqb-true x.bits y.bits b.1 in
    (sym p ∙ h.0, (omega (arith, p, h.1.0), omega (arith, p, h.1.1), subst (λ m. y.bits < 2 ^ m) p (subst (λ m. m < 2 ^ x.width) q h.1.2)))
same_lies (word_type n) (Bits x) w e h = cc
same_lies (word_type n) v w e h = absurd h

pub alone_fine : (t : Option ExprType) (v : Value) (sets : Bool) → Lies t v → Fine t (alone v) sets
alone_fine None v sets h = record { permitted = λ w e. tt; valued = λ e. tt }
alone_fine (Some t) v sets h = record { permitted = λ w e. same_lies t v w e h; valued = λ e. h }

untyped : (d : Denotation) (sets : Bool) → Fine None d sets
untyped d sets = record { permitted = λ w e. tt; valued = λ e. tt }

node_fine : (own : List Check) (t : Option ExprType) (d : Denotation) (sets : Bool) → (passes own ≡ true → Fine t d sets) → Fine (if passes own then t else None) d sets
node_fine own t d sets h = by (passes own) refl
  where
    by : (b : Bool) → passes own ≡ b → Fine (if b then t else None) d sets
    by true e = h e
    by false e = untyped d sets

any_sets : (t : Option ExprType) (d : Denotation) (sets : Bool) → Fine t d false → Fine t d sets
any_sets t d sets f = record { permitted = f.permitted; valued = λ e. f.valued refl }

pub false_true : {X : Type 0} (b : Bool) → b ≡ false → b ≡ true → X
false_true b h k = cc

-- ---- texts of numbers

pub number_is : (f g : Path → Value) (e : Tree) → NumberIs (number_of e) (denote f g e).value
number_is f g (number p n) = refl
number_is f g e = tt

pub numbers_are : (f g : Path → Value) (es : Trees) → NumbersAre (numbers_of es) (values_of f g es)
numbers_are f g no_trees = tt
numbers_are f g (tree e es) = (number_is f g e, numbers_are f g es)

minus_is : (f g : Path → Value) (p q : Place) (n m : ℕ) (one : Bool) → (n == 1) ≡ one → is_nonzero (if one then Some (neg_ℤ (pos m)) else None) ≡ true
    → DivisorIs (if one then Some (neg_ℤ (pos m)) else None) (signed OfPrefix.Minus n (Integer (pos m)))
minus_is f g p q n m true e h =
    (subst (λ k. signed OfPrefix.Minus k (Integer (pos m)) ≡ Integer (neg_ℤ (pos m))) (sym (eqb-true n 1 e)) refl, not_true (nat_abs (neg_ℤ (pos m)) == 0) h)
minus_is f g p q n m false e h = cc

pub divisor_is : (f g : Path → Value) (e : Tree) → is_divisor e ≡ true → DivisorIs (divisor_of e) (denote f g e).value
divisor_is f g (number p n) h = (refl, not_true (nat_abs (pos n) == 0) h)
divisor_is f g (literal p w) h = (w, refl)
divisor_is f g (prefix p OfPrefix.Minus n (number q m)) h = minus_is f g p q n m (n == 1) refl h
divisor_is f g (prefix p OfPrefix.Minus n e) h = cc
divisor_is f g (prefix p OfPrefix.Not n e) h = cc
divisor_is f g e h = cc

-- ---- a front

-- what six tests say
pub six_true : (a b c d e f : Bool) → (a && (b && (c && (d && (e && (f && true)))))) ≡ true
    → (a ≡ true) × (b ≡ true) × (c ≡ true) × (d ≡ true) × (e ≡ true) × (f ≡ true)
six_true a b c d e f h =
    let x = both_true a (b && (c && (d && (e && (f && true))))) h in
    let y = both_true b (c && (d && (e && (f && true)))) x.1 in
    let z = both_true c (d && (e && (f && true))) y.1 in
    let w = both_true d (e && (f && true)) z.1 in
    let v = both_true e (f && true) w.1 in
    let u = both_true f true v.1 in
    (x.0, y.0, z.0, w.0, v.0, u.0)

pub two_tests : (a b : Bool) → (a && (b && true)) ≡ true → (a ≡ true) × (b ≡ true)
two_tests a b h = let x = both_true a (b && true) h in let y = both_true b true x.1 in (x.0, y.0)

pub three_tests : (a b c : Bool) → (a && (b && (c && true))) ≡ true → (a ≡ true) × (b ≡ true) × (c ≡ true)
three_tests a b c h = let x = both_true a (b && (c && true)) h in let y = two_tests b c x.1 in (x.0, y.0, y.1)

-- of an operator whose result is a value
pub value_front : (f g : Path → Value) (op : Infix) (at : Position) (p : Place) (a b : Option ExprType) (e : Tree) (v : Value) → is_union op ≡ false
    → Lies a v → Lies b (denote f g e).value → Fine (if passes (front_checks op at p a b e) then both_types (λ t u. infix_type op t u e) a b else None) (alone (applied op v (denote f g e).value)) at.sets
value_front f g op at p None b e v o h k = node_fine (front_checks op at p None b e) None _ at.sets (λ passed. untyped _ at.sets)
value_front f g op at p (Some t) None e v o h k = node_fine (front_checks op at p (Some t) None e) None _ at.sets (λ passed. untyped _ at.sets)
value_front f g op at p (Some t) (Some u) e v o h k = node_fine (front_checks op at p (Some t) (Some u) e) (Some (infix_type op t u e)) _ at.sets
    (λ passed.
    let c = six_true (infix_fits op t u) (in_limit (infix_type op t u e)) (not (is_union op) || at.sets) (divides op e) (shifts op t e) (joins op t u) passed in
    alone_fine (Some (infix_type op t u e)) (applied op v (denote f g e).value) at.sets
    (infix_lies op t u e v (denote f g e).value o c.0 c.3 c.4 c.5 (divisor_is f g e) (number_is f g e) h k))

-- of `in`
member_front : (at : Position) (p : Place) (a b : Option ExprType) (e : Tree) (x : Bool)
    → Fine (if passes (front_checks Member at p a b e) then both_types (λ t u. infix_type Member t u e) a b else None) (alone (Truth x)) at.sets
member_front at p None b e x = node_fine (front_checks Member at p None b e) None _ at.sets (λ passed. untyped _ at.sets)
member_front at p (Some t) None e x = node_fine (front_checks Member at p (Some t) None e) None _ at.sets (λ passed. untyped _ at.sets)
member_front at p (Some t) (Some u) e x = node_fine (front_checks Member at p (Some t) (Some u) e) (Some truth_type) _ at.sets (λ passed. alone_fine (Some truth_type) (Truth x) at.sets tt)

-- of `union`
union_front : (at : Position) (p : Place) (a b : Option ExprType) (e : Tree) (d c : Denotation) → Fine a d at.sets → Fine b c at.sets
    → Fine (if passes (front_checks Union at p a b e) then both_types (λ t u. infix_type Union t u e) a b else None) (joined Union d c) at.sets
union_front at p None b e d c left right = node_fine (front_checks Union at p None b e) None _ at.sets (λ passed. untyped _ at.sets)
union_front at p (Some t) None e d c left right = node_fine (front_checks Union at p (Some t) None e) None _ at.sets (λ passed. untyped _ at.sets)
union_front at p (Some t) (Some u) e d c left right = node_fine (front_checks Union at p (Some t) (Some u) e) (Some (hull t u)) _ at.sets
    (λ passed.
    let k = six_true (type_same t u) (in_limit (hull t u)) at.sets true true true passed in
    record {
      permitted = λ v h. ⊎_elim (λ l. hull_left t u v (left.permitted v l)) (λ l. hull_right t u v k.0 (right.permitted v l)) (or_true (d.permits v) (c.permits v) h);
      valued = λ s. false_true at.sets s k.2;
    })

pub front_fine : (f g : Path → Value) (op : Infix) (at : Position) (p : Place) (a b : Typing) (e : Tree) (d : Denotation)
    → Fine a.type d at.sets → Fine b.type (denote f g e) (behind op at).sets → (at.sets ≡ false) ⊎ (is_union op ≡ true)
    → Fine (front op at p a b e).type (joined op d (denote f g e)) at.sets
front_fine f g Member at p a b e d left right may = member_front at p a.type b.type e _
front_fine f g Union at p a b e d left right may = union_front at p a.type b.type e d (denote f g e) left right
front_fine f g op at p a b e d left right may =
    ⊎_elim (λ s. value_front f g op at p a.type b.type e d.value refl (left.valued s) (right.valued refl)) (λ u. absurd_bool u) may

-- ---- lists of operands

pub all_cons : (t : Option ExprType) (ts : List (Option ExprType)) (us : List ExprType) → all_types (t ∷ ts) ≡ Some us
    → (u : ExprType) × (rest : List ExprType) × (t ≡ Some u) × (all_types ts ≡ Some rest) × (u ∷ rest ≡ us)
all_cons None ts us h = cc
all_cons (Some u) ts us h = by (all_types ts) refl h
  where
    by : (o : Option (List ExprType)) → all_types ts ≡ o → option_map (λ rest. u ∷ rest) o ≡ Some us
        → (v : ExprType) × (rest : List ExprType) × (Some u ≡ Some v) × (all_types ts ≡ Some rest) × (v ∷ rest ≡ us)
    by None e k = cc
    by (Some rest) e k = (u, rest, refl, e, cc)

lies_as : (t : Option ExprType) (u : ExprType) (v : Value) → t ≡ Some u → Lies t v → LiesIn u v
lies_as t u v e h = subst (λ s. Lies s v) e h

logical_trans : (t u s : ExprType) → logical_fits t u ≡ true → logical_fits t s ≡ true → logical_fits u s ≡ true
logical_trans truth_type truth_type s h k = k
logical_trans truth_type u s h k = cc
logical_trans (word_type m) (word_type n) (word_type i) h k = eq-eqb n i (sym (eqb-true m n h) ∙ eqb-true m i k)
logical_trans (word_type m) (word_type n) s h k = cc
logical_trans (word_type m) u s h k = cc
logical_trans t u s h k = cc

logical_all : (t u : ExprType) (ss : List ExprType) → logical_fits t u ≡ true → list_all (logical_fits t) ss ≡ true → list_all (logical_fits u) ss ≡ true
logical_all t u [] h k = refl
logical_all t u (s ∷ ss) h k =
    let b = both_true (logical_fits t s) (list_all (logical_fits t) ss) k in
    two_true (logical_fits u s) (list_all (logical_fits u) ss) (logical_trans t u s h b.0) (logical_all t u ss h b.1)

-- what a denotation permits lies in one of the types
record OneFine (ts : List ExprType) (d : Denotation) (sets : Bool) : Type 0 where
  permitted : (v : Value) → d.permits v ≡ true → LiesInOne ts v
  valued : sets ≡ false → LiesInOne ts d.value

one_first : (t : Option ExprType) (u : ExprType) (us : List ExprType) (d : Denotation) (sets : Bool) → t ≡ Some u → Fine t d sets → OneFine (u ∷ us) d sets
one_first t u us d sets e f =
    record { permitted = λ v h. inl (lies_as t u v e (f.permitted v h)); valued = λ s. inl (lies_as t u d.value e (f.valued s)) }

one_later : (u : ExprType) (us : List ExprType) (d : Denotation) (sets : Bool) → OneFine us d sets → OneFine (u ∷ us) d sets
one_later u us d sets f = record { permitted = λ v h. inr (f.permitted v h); valued = λ s. inr (f.valued s) }

one_if : (ts : List ExprType) (b : Bool) (d c : Denotation) (sets : Bool) → OneFine ts d sets → (b ≡ false → OneFine ts c sets) → OneFine ts (if b then d else c) sets
one_if ts true d c sets h k = h
one_if ts false d c sets h k = k refl

as_types : (ts us : List ExprType) (d : Denotation) (sets : Bool) → ts ≡ us → OneFine ts d sets → OneFine us d sets
as_types ts us d sets e f = subst (λ xs. OneFine xs d sets) e f

hull_fine : (ts : List ExprType) (d : Denotation) (sets : Bool) → are_same ts ≡ true → OneFine ts d sets → Fine (Some (hull_of ts)) d sets
hull_fine ts d sets e f =
    record { permitted = λ v h. hull_of_holds ts v e (f.permitted v h); valued = λ s. hull_of_holds ts d.value e (f.valued s) }

-- the branches of a case or a choice
branches_fine : (p : Place) (cs vs : Option (List ExprType)) (d : Denotation) (sets : Bool) → ((us : List ExprType) → vs ≡ Some us → OneFine us d sets)
    → Fine (if passes (check 16 p (branches_fit cs vs) ∷ []) then branches_type cs vs else None) d sets
branches_fine p None vs d sets h = node_fine (check 16 p (branches_fit None vs) ∷ []) None d sets (λ passed. untyped d sets)
branches_fine p (Some cs) None d sets h = node_fine (check 16 p (branches_fit (Some cs) None) ∷ []) None d sets (λ passed. untyped d sets)
branches_fine p (Some cs) (Some vs) d sets h = node_fine (check 16 p (branches_fit (Some cs) (Some vs)) ∷ []) (Some (hull_of vs)) d sets
    (λ passed.
    let a = both_true (list_all is_truth_type cs && are_same vs) true passed in
    let b = both_true (list_all is_truth_type cs) (are_same vs) a.0 in
    hull_fine vs d sets b.1 (h vs refl))

not_last : (b c : Bool) → (b || c) ≡ false → c ≡ false
not_last true c p = cc
not_last false c p = p

-- ---- single nodes

prefix_fine : (p : Place) (sign : Prefix) (n : ℕ) (t : Option ExprType) (v : Value) (sets : Bool) → Lies t v
    → Fine (if passes (check 16 p (on_type t (prefix_fits sign)) ∷ check 17 p (on_type t (λ u. in_limit (prefix_type sign n u))) ∷ []) then option_map (prefix_type sign n) t else None)
    (alone (signed sign n v)) sets
prefix_fine p sign n None v sets h = untyped _ sets
prefix_fine p sign n (Some t) v sets h = node_fine (check 16 p (prefix_fits sign t) ∷ check 17 p (in_limit (prefix_type sign n t)) ∷ []) (Some (prefix_type sign n t)) _ sets
    (λ passed. alone_fine (Some (prefix_type sign n t)) (signed sign n v) sets
    (prefix_lies sign n t v (two_tests (prefix_fits sign t) (in_limit (prefix_type sign n t)) passed).0 h))

select_fine : (p : Place) (high low : ℕ) (t : Option ExprType) (v : Value) (sets : Bool) → Lies t v
    → Fine (if passes (check 16 p (on_type t is_word_type) ∷ check 25 p (on_type t (λ u. is_select u high low)) ∷ []) then option_map (λ u. word_type (high - low + 1)) t else None)
    (alone (selected high low v)) sets
select_fine p high low None v sets h = untyped _ sets
select_fine p high low (Some t) v sets h = node_fine (check 16 p (is_word_type t) ∷ check 25 p (is_select t high low) ∷ []) (Some (word_type (high - low + 1))) _ sets
    (λ passed.
    let b = two_tests (is_word_type t) (is_select t high low) passed in
    alone_fine (Some (word_type (high - low + 1))) (selected high low v) sets (select_lies t high low v b.0 b.1 h))

call_fine : (p : Place) (f : Function) (ts : Option (List ExprType)) (ns : List (Option ℕ)) (vs : List Value) (sets : Bool)
    → ((us : List ExprType) → ts ≡ Some us → AllLie us vs) → NumbersAre ns vs
    → Fine (if passes (check 16 p (on_all ts (function_fits f)) ∷ check 17 p (on_all ts (λ us. in_limit (function_type f us ns))) ∷ check 25 p (on_all ts (λ us. arguments_fit f us ns)) ∷ [])
    then option_map (λ us. function_type f us ns) ts else None) (alone (called f vs)) sets
call_fine p f None ns vs sets h is = untyped _ sets
call_fine p f (Some us) ns vs sets h is =
    node_fine (check 16 p (function_fits f us) ∷ check 17 p (in_limit (function_type f us ns)) ∷ check 25 p (arguments_fit f us ns) ∷ []) (Some (function_type f us ns)) _ sets
    (λ passed.
    let c = three_tests (function_fits f us) (in_limit (function_type f us ns)) (arguments_fit f us ns) passed in
    alone_fine (Some (function_type f us ns)) (called f vs) sets (called_lies f us ns vs c.0 c.2 (h us refl) is))

set_fine : (p : Place) (ts : Option (List ExprType)) (permits : Value → Bool) (sets : Bool) → ((us : List ExprType) → ts ≡ Some us → (v : Value) → permits v ≡ true → LiesInOne us v)
    → Fine (if passes (check 16 p (on_all ts are_same) ∷ check 20 p sets ∷ []) then option_map hull_of ts else None) (set_of permits) sets
set_fine p None permits sets h = node_fine (check 16 p true ∷ check 20 p sets ∷ []) None _ sets (λ passed. untyped _ sets)
set_fine p (Some us) permits sets h = node_fine (check 16 p (are_same us) ∷ check 20 p sets ∷ []) (Some (hull_of us)) _ sets
    (λ passed.
    let b = two_tests (are_same us) sets passed in
    record { permitted = λ v k. hull_of_holds us v b.0 (h us refl v k); valued = λ s. false_true sets s b.1 })

pub between_lies : (low high : ℤ) (v : Value) → is_between low high v ≡ true → LiesIn (integer_type low high) v
between_lies low high (Integer z) h =
    let b = both_true (int_le low z) (int_le z high) h in let p = b.0 in let q = b.1 in (omega (arith, ints), omega (arith, ints))
between_lies low high v h = cc

range_fine : (p : Place) (low high : ℤ) (sets : Bool)
    → Fine (if passes (check 17 p (in_limit (integer_type low high)) ∷ check 20 p sets ∷ check 26 p (int_le low high) ∷ []) then Some (integer_type low high) else None)
    (set_of (is_between low high)) sets
range_fine p low high sets =
    node_fine (check 17 p (in_limit (integer_type low high)) ∷ check 20 p sets ∷ check 26 p (int_le low high) ∷ []) (Some (integer_type low high)) _ sets
    (λ passed.
    let c = three_tests (in_limit (integer_type low high)) sets (int_le low high) passed in
    record { permitted = λ v k. between_lies low high v k; valued = λ s. false_true sets s c.1 })

literal_fine : (w : BitVector) (sets : Bool) → Fine (literal_type w) (alone (Bits w)) sets
literal_fine w sets = by (is_literal w) refl
  where
    by : (b : Bool) → is_literal w ≡ b → Fine (if b then Some (word_type w.width) else None) (alone (Bits w)) sets
    by true e =
        let t = both_true (is_width w.width) (nat_lt w.bits (2 ^ w.width)) e in
        let d = width_of w.width t.0 in
        alone_fine (Some (word_type w.width)) (Bits w) sets (refl, (d.0, d.1, ltb-true w.bits (2 ^ w.width) t.1))
    by false e = untyped _ sets

number_fine : (p : Place) (n : ℕ) (sets : Bool)
    → Fine (if passes (check 17 p (in_limit (integer_type (pos n) (pos n))) ∷ []) then Some (integer_type (pos n) (pos n)) else None) (alone (Integer (pos n))) sets
number_fine p n sets = node_fine (check 17 p (in_limit (integer_type (pos n) (pos n))) ∷ []) (Some (integer_type (pos n) (pos n))) _ sets
    (λ passed. alone_fine (Some (integer_type (pos n) (pos n))) (Integer (pos n)) sets (omega (arith, ints), omega (arith, ints)))

chain_fine : (b : Bool) (x y : Typing) (d c : Denotation) (sets : Bool) → (b ≡ true → Fine x.type d sets) → (b ≡ false → Fine y.type c sets)
    → Fine (if b then x else y).type (if b then d else c) sets
chain_fine true x y d c sets h k = h refl
chain_fine false x y d c sets h k = k refl

implies_fine : (p : Place) (ts : Option (List ExprType)) (v : Value) (sets : Bool)
    → ((u : ExprType) (us : List ExprType) → ts ≡ Some (u ∷ us) → list_all (logical_fits u) us ≡ true → LiesIn u v)
    → Fine (if passes (check 16 p (on_all ts implies_fits) ∷ []) then option_map first_type ts else None) (alone v) sets
implies_fine p None v sets h = untyped _ sets
implies_fine p (Some []) v sets h = node_fine (check 16 p false ∷ []) (Some truth_type) _ sets (λ passed. absurd_bool passed)
implies_fine p (Some (u ∷ us)) v sets h = node_fine (check 16 p (list_all (logical_fits u) us) ∷ []) (Some u) _ sets
    (λ passed. alone_fine (Some u) v sets (h u us refl (both_true (list_all (logical_fits u) us) true passed).0))

-- where a set may stand all operators are `union`
pub may_join : (ls : Links) (at : Position) (b : Bool) → are_unions ls ≡ b → ((if b then at else single at).sets ≡ false) ⊎ (are_unions ls ≡ true)
may_join ls at true e = inr e
may_join ls at false e = inl refl

pub across_fine : (at : Position) (b : Bool) (t : Option ExprType) (d : Denotation) → Fine t d (if b then at else single at).sets → Fine t d at.sets
across_fine at true t d f = f
across_fine at false t d f = any_sets t d at.sets f

pub first_joins : (op : Infix) (e : Tree) (ls : Links) (sets : Bool) → (sets ≡ false) ⊎ (are_unions (link op e ls) ≡ true)
    → ((sets ≡ false) ⊎ (is_union op ≡ true)) × ((sets ≡ false) ⊎ (are_unions ls ≡ true))
first_joins op e ls sets (inl s) = (inl s, inl s)
first_joins op e ls sets (inr u) = let b = both_true (is_union op) (are_unions ls) u in (inr b.0, inr b.1)

heads : (c u : ExprType) (cs us : List ExprType) → c ∷ cs ≡ u ∷ us → list_all (logical_fits u) us ≡ true → (list_all (logical_fits c) cs ≡ true) × (c ≡ u)
heads c u cs us e h = (subst (λ xs. implies_fits xs ≡ true) (sym e) h, ap first_type e)

-- ---- the law of the open definitions

-- each name has a value of its type
abbrev pub NamesLie : (Path → Named) → (Path → Value) → Type 0
NamesLie names f = (x : Path) → Lies (names x).type (f x)

mutual
  pub fine : (names : Path → Named) (f g : Path → Value) → NamesLie names f → NamesLie names g → (at : Position) (e : Tree)
      → Fine (typing names at e).type (denote f g e) at.sets
  fine names f g hf hg at (truth p b) = alone_fine (Some truth_type) (Truth b) at.sets tt
  fine names f g hf hg at (number p n) = number_fine p n at.sets
  fine names f g hf hg at (literal p w) = literal_fine w at.sets
  fine names f g hf hg at (name p x) =
      node_fine (check 16 p (not (names x).is_instance) ∷ check 18 p (at.inputs || not (names x).reaches_input) ∷ []) (names x).type _ at.sets
      (λ passed. alone_fine (names x).type (f x) at.sets (hf x))
  fine names f g hf hg at (prefix p sign n e) =
      prefix_fine p sign n (typing names (single at) e).type (denote f g e).value at.sets ((fine names f g hf hg (single at) e).valued refl)
  fine names f g hf hg at (chain p e ls) = chain_fine (is_from_right ls) _ _ _ _ at.sets
      (λ b. implies_fine p (all_types ((typing names (single at) e).type ∷ link_types names (single at) ls)) (implications f g (denote f g e).value ls) at.sets
      (λ u us h k.
      let c = all_cons (typing names (single at) e).type (link_types names (single at) ls) (u ∷ us) h in
      let s = heads c.0 u c.1 us c.4 k in
      subst (λ t. LiesIn t (implications f g (denote f g e).value ls)) s.1
      (implied_fine names f g hf hg at c.0 c.1 (denote f g e).value ls c.3 s.0
      (lies_as (typing names (single at) e).type c.0 (denote f g e).value c.2 ((fine names f g hf hg (single at) e).valued refl)))))
      (λ b. across_fine at (are_unions ls) _ _ (linked_fine names f g hf hg (across ls at) p (typing names (across ls at) e) (denote f g e) ls
      (fine names f g hf hg (across ls at) e) (may_join ls at (are_unions ls) refl)))
  fine names f g hf hg at (choice p bs e) =
      branches_fine p (all_types (condition_types names (single at) bs)) (all_types (value_types names at bs ((typing names at e).type ∷ []))) (chosen f g bs (denote f g e)) at.sets
      (λ us h. chosen_fine names f g hf hg at bs (typing names at e).type (denote f g e) (fine names f g hf hg at e) us h)
  fine names f g hf hg at (cases p no_branches) = node_fine (check 16 p false ∷ []) (Some truth_type) _ at.sets (λ passed. absurd_bool passed)
  fine names f g hf hg at (cases p (branch c e rest)) =
      branches_fine p (all_types (condition_types names (single at) (branch c e rest))) (all_types (value_types names at (branch c e rest) [])) (taken f g (branch c e rest)) at.sets
      (λ us h. taken_fine names f g hf hg at (branch c e rest) refl us h)
  fine names f g hf hg at (select p e high low) =
      select_fine p high low (typing names (single at) e).type (denote f g e).value at.sets ((fine names f g hf hg (single at) e).valued refl)
  fine names f g hf hg at (call p h es) =
      call_fine p h (all_types (tree_types names (single at) es)) (numbers_of es) (values_of f g es) at.sets (λ us e. trees_lie names f g hf hg at es us e) (numbers_are f g es)
  fine names f g hf hg at (next p e) = node_fine (check 19 p at.nexts ∷ []) (typing names under_next e).type _ at.sets
      (λ passed. any_sets (typing names under_next e).type (denote g g e) at.sets (fine names g g hg hg under_next e))
  fine names f g hf hg at (set p es) =
      set_fine p (all_types (tree_types names at es)) (one_permits f g es) at.sets (λ us e v h. one_lies names f g hf hg at es us e v h)
  fine names f g hf hg at (range p low high) = range_fine p low high at.sets

  implied_fine : (names : Path → Named) (f g : Path → Value) → NamesLie names f → NamesLie names g → (at : Position) (u : ExprType) (us : List ExprType) (v : Value) (ls : Links)
      → all_types (link_types names (single at) ls) ≡ Some us → list_all (logical_fits u) us ≡ true → LiesIn u v → LiesIn u (implications f g v ls)
  implied_fine names f g hf hg at u us v no_links h k l = l
  implied_fine names f g hf hg at u us v (link op e ls) h k l =
      let c = all_cons (typing names (single at) e).type (link_types names (single at) ls) us h in
      let fits : list_all (logical_fits u) (c.0 ∷ c.1) ≡ true = subst (λ xs. list_all (logical_fits u) xs ≡ true) (sym c.4) k in
      let b = both_true (logical_fits u c.0) (list_all (logical_fits u) c.1) fits in
      implied_lies u c.0 v (implications f g (denote f g e).value ls) b.0 l
      (implied_fine names f g hf hg at c.0 c.1 (denote f g e).value ls c.3 (logical_all u c.0 c.1 b.0 b.1)
      (lies_as (typing names (single at) e).type c.0 (denote f g e).value c.2 ((fine names f g hf hg (single at) e).valued refl)))

  linked_fine : (names : Path → Named) (f g : Path → Value) → NamesLie names f → NamesLie names g → (at : Position) (p : Place) (a : Typing) (d : Denotation) (ls : Links)
      → Fine a.type d at.sets → (at.sets ≡ false) ⊎ (are_unions ls ≡ true) → Fine (linked names at p a ls).type (linked_values f g d ls) at.sets
  linked_fine names f g hf hg at p a d no_links h may = h
  linked_fine names f g hf hg at p a d (link op e ls) h may =
      let j = first_joins op e ls at.sets may in
      linked_fine names f g hf hg at p (front op at p a (typing names (behind op at) e) e) (joined op d (denote f g e)) ls
      (front_fine f g op at p a (typing names (behind op at) e) e d h (fine names f g hf hg (behind op at) e) j.0) j.1

  chosen_fine : (names : Path → Named) (f g : Path → Value) → NamesLie names f → NamesLie names g → (at : Position) (bs : Branches) (t : Option ExprType) (d : Denotation) → Fine t d at.sets
      → (us : List ExprType) → all_types (value_types names at bs (t ∷ [])) ≡ Some us → OneFine us (chosen f g bs d) at.sets
  chosen_fine names f g hf hg at no_branches t d h us e =
      let c = all_cons t [] us e in as_types (c.0 ∷ c.1) us d at.sets c.4 (one_first t c.0 c.1 d at.sets c.2 h)
  chosen_fine names f g hf hg at (branch k v rest) t d h us e =
      let c = all_cons (typing names at v).type (value_types names at rest (t ∷ [])) us e in
      one_if us (is_true (denote f g k).value) (denote f g v) (chosen f g rest d) at.sets
      (as_types (c.0 ∷ c.1) us (denote f g v) at.sets c.4 (one_first (typing names at v).type c.0 c.1 (denote f g v) at.sets c.2 (fine names f g hf hg at v)))
      (λ b. as_types (c.0 ∷ c.1) us (chosen f g rest d) at.sets c.4 (one_later c.0 c.1 (chosen f g rest d) at.sets (chosen_fine names f g hf hg at rest t d h c.1 c.3)))

  taken_fine : (names : Path → Named) (f g : Path → Value) → NamesLie names f → NamesLie names g → (at : Position) (bs : Branches) → is_last bs ≡ false
      → (us : List ExprType) → all_types (value_types names at bs []) ≡ Some us → OneFine us (taken f g bs) at.sets
  taken_fine names f g hf hg at no_branches l us e = cc
  taken_fine names f g hf hg at (branch k v rest) l us e =
      let c = all_cons (typing names at v).type (value_types names at rest []) us e in
      one_if us (is_true (denote f g k).value || is_last rest) (denote f g v) (taken f g rest) at.sets
      (as_types (c.0 ∷ c.1) us (denote f g v) at.sets c.4 (one_first (typing names at v).type c.0 c.1 (denote f g v) at.sets c.2 (fine names f g hf hg at v)))
      (λ b. as_types (c.0 ∷ c.1) us (taken f g rest) at.sets c.4 (one_later c.0 c.1 (taken f g rest) at.sets
      (taken_fine names f g hf hg at rest (not_last (is_true (denote f g k).value) (is_last rest) b) c.1 c.3)))

  pub trees_lie : (names : Path → Named) (f g : Path → Value) → NamesLie names f → NamesLie names g → (at : Position) (es : Trees)
      → (us : List ExprType) → all_types (tree_types names (single at) es) ≡ Some us → AllLie us (values_of f g es)
  trees_lie names f g hf hg at no_trees [] e = tt
  trees_lie names f g hf hg at no_trees (u ∷ us) e = cc
  trees_lie names f g hf hg at (tree x es) us e =
      let c = all_cons (typing names (single at) x).type (tree_types names (single at) es) us e in
      subst (λ ts. AllLie ts (values_of f g (tree x es))) c.4
      (lies_as (typing names (single at) x).type c.0 (denote f g x).value c.2 ((fine names f g hf hg (single at) x).valued refl), trees_lie names f g hf hg at es c.1 c.3)

  one_lies : (names : Path → Named) (f g : Path → Value) → NamesLie names f → NamesLie names g → (at : Position) (es : Trees)
      → (us : List ExprType) → all_types (tree_types names at es) ≡ Some us → (v : Value) → one_permits f g es v ≡ true → LiesInOne us v
  one_lies names f g hf hg at no_trees us e v h = absurd_bool h
  one_lies names f g hf hg at (tree x es) us e v h =
      let c = all_cons (typing names at x).type (tree_types names at es) us e in
      subst (λ ts. LiesInOne ts v) c.4
      (⊎_elim (λ l. inl (lies_as (typing names at x).type c.0 v c.2 ((fine names f g hf hg at x).permitted v l))) (λ l. inr (one_lies names f g hf hg at es c.1 c.3 v l))
      (or_true ((denote f g x).permits v) (one_permits f g es v) h))

-- ---- the law of the closed ones

found_lies : (inputs : Bool) (found : ℕ → Path → Found) (state label : Valuation) (n : ℕ) (m : Found) → GivesFound inputs state label m
    → ((i : ℕ) → NamesLie (naming inputs found n i) (reading found n state label i))
    → Lies (named_found inputs (naming inputs found n) m).type (value_found (reading found n state label) state label m)
found_lies inputs found state label n (variable_at x kind d) given ih = given
found_lies inputs found state label n (body_at i x j e) given ih =
    (fine (naming inputs found n j) (reading found n state label j) (reading found n state label j) (ih j) (ih j) in_body e).valued refl
found_lies inputs found state label n (instance_at i) given ih = tt
found_lies inputs found state label n (symbol_of x) given ih = tt
found_lies inputs found state label n cyclic given ih = tt
found_lies inputs found state label n none given ih = tt

pub names_lie : (inputs : Bool) (found : ℕ → Path → Found) (state label : Valuation) → Gives inputs found state label → (n i : ℕ) → NamesLie (naming inputs found n i) (reading found n state label i)
unfolding naming reading
names_lie inputs found state label gives zero i x = tt
names_lie inputs found state label gives (suc n) i x = found_lies inputs found state label n (found i x) (gives i x) (names_lie inputs found state label gives n)

-- an expression in an instance
pub denoted_fine : (inputs : Bool) (found : ℕ → Path → Found) (state label following : Valuation) → Gives inputs found state label → Gives inputs found following label
    → (n i : ℕ) (at : Position) (e : Tree) → Fine (typing (naming inputs found n i) at e).type (denoted found n i e state label following) at.sets
denoted_fine inputs found state label following g h n i at e =
    fine (naming inputs found n i) (reading found n state label i) (reading found n following label i) (names_lie inputs found state label g n i) (names_lie inputs found following label h n i) at e

pub values_lie_law : ValuesLie
values_lie_law inputs found state label following g h n i at e v p = (denoted_fine inputs found state label following g h n i at e).permitted v p

pub if_type : (b : Bool) (d : PlainDomain) → b ≡ true → HasType (domain_type d) → HasType (if b then domain_type d else None)
if_type true d b h = h
if_type false d b h = absurd_bool b
