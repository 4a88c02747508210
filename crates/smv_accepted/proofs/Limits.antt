-- The interval of each typed integer is in order and within the limit.
use Rattle.std.proofs.Common.{◌≡◌, ℕ, zero, suc, ◌+◌, ◌-◌, ◌^◌, ◌≤◌, Bool, true, false, not, ◌&&◌, ◌||◌, ◌==◌, if◌then◌else◌, ℤ, pos, neg_ℤ, nat_abs, ◌+ℤ◌, ◌-ℤ◌, ◌*ℤ◌, ◌≤ℤ◌, int_le, int_lt, int_div, drop, List, [], ◌∷◌, map, Option, Some, None, option_map, refl, subst, arith}
use Rattle.std.proofs.lemmas.Int.{ints, clamps}
use Rattle.std.specs.Int.{int_min, int_max}
use Rattle.std.specs.List.{AllByRecursion}
use Rattle.text_core.specs.declared.place.Place.{Place}
use Rattle.smv_text.specs.declared.tree.Path.{Path}
use Rattle.smv_text.specs.declared.operators.Prefix.{Prefix}
use Rattle.smv_text.specs.declared.operators.Prefix.TheVariants as OfPrefix
use Rattle.smv_text.specs.declared.operators.Infix.{Infix}
use Rattle.smv_text.specs.declared.operators.Infix.TheVariants.{Union, Plus, Minus, Times, Divide, Mod}
use Rattle.smv_text.specs.declared.operators.Function.{Function}
use Rattle.smv_text.specs.declared.operators.Function.TheVariants as OfFunction
use Rattle.smv_text.specs.declared.tree.Member.{Member as EnumMember}
use Rattle.smv_text.specs.declared.tree.Member.TheVariants as OfMember
use Rattle.smv_text.specs.Tree.{Tree, truth, number, literal, name, prefix, chain, choice, cases, select, call, next, set, range, Links, no_links, link, Branches, no_branches, branch, Trees, no_trees, tree, PlainDomain, boolean, members, between, bits, instance}
use Rattle.smv_meaning.specs.Operators.{int_abs}
use Rattle.smv_meaning.specs.Expressions.{is_from_right}
use Rattle.smv_meaning.specs.Types.{ExprType, truth_type, integer_type, symbol_type, word_type, is_union, in_limit, hull, hull_with, hull_of, over_ends, over_both_ends, abs_type, quotient_type, rest_low, rest_high, rest_type, divisor_of, is_nonzero, is_divisor, is_word_type, is_select, infix_fits, infix_type, divides, shifts, joins, prefix_fits, prefix_type, numbers_of, function_fits, arguments_fit, function_type, first_type, implies_fits, are_same, member_type, has_width}
use Rattle.smv_meaning.specs.Checks.{check, passes, Position, single, under_next, Named, Typing, on_type, all_types, on_all, both_types, front_checks, front, across, behind, branches_fit, branches_type, is_literal, typing, link_types, linked, condition_types, value_types, tree_types, variable_type}
use Rattle.smv_meaning.specs.laws.Booleans.{both_true, two_true, absurd_bool}
use Rattle.smv_laws.proofs.TypeLaws.{all_cons, two_tests, three_tests, six_true}
use Rattle.smv_laws.proofs.FoundLaws.{four_true}

-- ---- types

abbrev pub IsOrdered : ExprType → Type 0
IsOrdered (integer_type low high) = low ≤ℤ high
IsOrdered t = Unit {0}

abbrev pub IsGood : ExprType → Type 0
IsGood t = IsOrdered t × (in_limit t ≡ true)

abbrev pub IsGoodIf : Option ExprType → Type 0
IsGoodIf None = Unit {0}
IsGoodIf (Some t) = IsGood t

ends_ordered : (f : ℤ → ℤ) (t : ExprType) → IsOrdered t → IsOrdered (over_ends f t)
ends_ordered f (integer_type low high) h = omega (arith, ints, clamps)
ends_ordered f truth_type h = tt
ends_ordered f symbol_type h = tt
ends_ordered f (word_type n) h = tt

hull_ordered : (t u : ExprType) → IsOrdered t → IsOrdered (hull t u)
hull_ordered (integer_type low high) (integer_type less more) h = omega (arith, ints, clamps, h)
hull_ordered (integer_type low high) truth_type h = h
hull_ordered (integer_type low high) symbol_type h = h
hull_ordered (integer_type low high) (word_type n) h = h
hull_ordered truth_type u h = tt
hull_ordered symbol_type u h = tt
hull_ordered (word_type n) u h = tt

both_ordered : (f : ℤ → ℤ → ℤ) (t u : ExprType) → IsOrdered t → IsOrdered u → IsOrdered (over_both_ends f t u)
both_ordered f (integer_type low high) (integer_type less more) h k = hull_ordered (over_ends (f low) (integer_type less more)) (over_ends (f high) (integer_type less more)) (ends_ordered (f low) (integer_type less more) k)
both_ordered f (integer_type low high) truth_type h k = h
both_ordered f (integer_type low high) symbol_type h k = h
both_ordered f (integer_type low high) (word_type n) h k = h
both_ordered f truth_type u h k = tt
both_ordered f symbol_type u h k = tt
both_ordered f (word_type n) u h k = tt

quotient_ordered : (t : ExprType) (o : Option ℤ) → IsOrdered t → IsOrdered (quotient_type t o)
quotient_ordered t (Some b) h = ends_ordered (λ a. int_div a b) t h
quotient_ordered t None h = h

low_is : (low : ℤ) (b : ℕ) → 1 ≤ b → rest_low low b ≤ℤ pos 0
low_is low b some = by (int_le (pos 0) low) refl
  where
    by : (c : Bool) → int_le (pos 0) low ≡ c → (if c then pos 0 else int_max low (pos 1 -ℤ pos b)) ≤ℤ pos 0
    by true e = omega (arith, ints)
    by false e = omega (arith, ints, clamps)

high_is : (high : ℤ) (b : ℕ) → 1 ≤ b → pos 0 ≤ℤ rest_high high b
high_is high b some = by (int_le high (pos 0)) refl
  where
    by : (c : Bool) → int_le high (pos 0) ≡ c → pos 0 ≤ℤ (if c then pos 0 else int_min high (pos b -ℤ pos 1))
    by true e = omega (arith, ints)
    by false e = omega (arith, ints, clamps)

at_most : (x y z : ℤ) → x ≤ℤ y → y ≤ℤ z → x ≤ℤ z
at_most x y z p q = omega (arith, ints)

nonzero_some : (n : ℕ) → not (n == 0) ≡ true → 1 ≤ n
nonzero_some zero h = absurd_bool h
nonzero_some (suc n) h = omega arith

rest_ordered : (t : ExprType) (o : Option ℤ) → is_nonzero o ≡ true → IsOrdered t → IsOrdered (rest_type t o)
rest_ordered (integer_type low high) (Some b) n h =
    let some = nonzero_some (nat_abs b) n in at_most (rest_low low (nat_abs b)) (pos 0) (rest_high high (nat_abs b)) (low_is low (nat_abs b) some) (high_is high (nat_abs b) some)
rest_ordered (integer_type low high) None n h = h
rest_ordered truth_type o n h = tt
rest_ordered symbol_type o n h = tt
rest_ordered (word_type m) o n h = tt

-- a rest of integers is by a number that isn't 0, and words have no interval
rest_by : (t : ExprType) (e : Tree) → is_divisor e ≡ true → IsOrdered t → IsOrdered (rest_type t (divisor_of e))
rest_by t (literal p w) d h = by t h
  where
    by : (t : ExprType) → IsOrdered t → IsOrdered (rest_type t None)
    by (integer_type low high) h = h
    by truth_type h = tt
    by symbol_type h = tt
    by (word_type m) h = tt
rest_by t (number p n) d h = rest_ordered t (Some (pos n)) d h
rest_by t (prefix p sign n e) d h = rest_ordered t (divisor_of (prefix p sign n e)) d h
rest_by t (truth p b) d h = absurd_bool d
rest_by t (name p x) d h = absurd_bool d
rest_by t (chain p e ls) d h = absurd_bool d
rest_by t (choice p bs e) d h = absurd_bool d
rest_by t (cases p bs) d h = absurd_bool d
rest_by t (select p e high low) d h = absurd_bool d
rest_by t (call p f es) d h = absurd_bool d
rest_by t (next p e) d h = absurd_bool d
rest_by t (set p es) d h = absurd_bool d
rest_by t (range p low high) d h = absurd_bool d

infix_ordered : (o : Infix) (t u : ExprType) (e : Tree) → divides o e ≡ true → IsOrdered t → IsOrdered u → IsOrdered (infix_type o t u e)
infix_ordered Union t u e d h k = hull_ordered t u h
infix_ordered Plus t u e d h k = both_ordered ◌+ℤ◌ t u h k
infix_ordered Minus t u e d h k = both_ordered ◌-ℤ◌ t u h k
infix_ordered Times t u e d h k = both_ordered ◌*ℤ◌ t u h k
infix_ordered Divide t u e d h k = quotient_ordered t (divisor_of e) h
infix_ordered Mod t u e d h k = rest_by t e d h
infix_ordered o t u e d h k = assumption

prefix_ordered : (sign : Prefix) (n : ℕ) (t : ExprType) → IsOrdered t → IsOrdered (prefix_type sign n t)
prefix_ordered OfPrefix.Not n t h = h
prefix_ordered OfPrefix.Minus n t h = by _
  where
    by : (b : Bool) → IsOrdered (if b then over_ends neg_ℤ t else t)
    by true = ends_ordered neg_ℤ t h
    by false = h

abs_ordered : (t : ExprType) → IsOrdered t → IsOrdered (abs_type t)
abs_ordered (integer_type low high) h = by (int_lt low (pos 0) && int_lt (pos 0) high)
  where
    by : (b : Bool) → IsOrdered (if b then integer_type (pos 0) (int_max (int_abs low) (int_abs high)) else over_ends int_abs (integer_type low high))
    by true = let p : pos 0 ≤ℤ int_abs low = positive low in omega (arith, ints, clamps, p)
      where
        positive : (z : ℤ) → pos 0 ≤ℤ int_abs z
        positive z = sign (int_lt z (pos 0)) refl
          where
            sign : (c : Bool) → int_lt z (pos 0) ≡ c → pos 0 ≤ℤ (if c then neg_ℤ z else z)
            sign true e = omega (arith, ints)
            sign false e = omega (arith, ints)
    by false = ends_ordered int_abs (integer_type low high) h
abs_ordered truth_type h = tt
abs_ordered symbol_type h = tt
abs_ordered (word_type n) h = tt

abbrev pub AreOrdered : List ExprType → Type 0
AreOrdered us = AllByRecursion IsOrdered us

first_ordered : (us : List ExprType) → AreOrdered us → IsOrdered (first_type us)
first_ordered [] h = tt
first_ordered (u ∷ us) h = h.0

second_ordered : (us : List ExprType) → AreOrdered us → IsOrdered (first_type (drop 1 us))
second_ordered [] h = tt
second_ordered (t ∷ []) h = tt
second_ordered (t ∷ u ∷ us) h = h.1.0

function_ordered : (f : Function) (us : List ExprType) (ns : List (Option ℕ)) → AreOrdered us → IsOrdered (function_type f us ns)
function_ordered OfFunction.Bool us ns h = tt
function_ordered OfFunction.Word1 us ns h = tt
function_ordered OfFunction.Toint us ns h = omega (arith, ints)
function_ordered OfFunction.Uwconst us ns h = tt
function_ordered OfFunction.Extend us ns h = tt
function_ordered OfFunction.Resize us ns h = tt
function_ordered OfFunction.Count us ns h = omega (arith, ints)
function_ordered OfFunction.Max us ns h = both_ordered int_max (first_type us) (first_type (drop 1 us)) (first_ordered us h) (second_ordered us h)
function_ordered OfFunction.Min us ns h = both_ordered int_min (first_type us) (first_type (drop 1 us)) (first_ordered us h) (second_ordered us h)
function_ordered OfFunction.Abs us ns h = abs_ordered (first_type us) (first_ordered us h)

-- ---- hulls

int_le_is : (a b : ℤ) → a ≤ℤ b → int_le a b ≡ true
int_le_is a b h = by (int_le a b) refl
  where
    by : (c : Bool) → int_le a b ≡ c → int_le a b ≡ true
    by true e = e
    by false e = absurd (omega (arith, ints))

abbrev pub AreGood : List ExprType → Type 0
AreGood us = AllByRecursion IsGood us

hull_good : (t u : ExprType) → IsGood t → IsGood u → IsGood (hull t u)
hull_good (integer_type low high) (integer_type less more) h k =
    let a = both_true _ _ h.1 in
    let b = both_true _ _ k.1 in
    (hull_ordered (integer_type low high) (integer_type less more) h.0, within low high less more a.0 a.1 b.0 b.1)
  where
    within : (low high less more : ℤ) → int_le (neg_ℤ (pos (2 ^ 62))) low ≡ true → int_le high (pos (2 ^ 62 - 1)) ≡ true → int_le (neg_ℤ (pos (2 ^ 62))) less ≡ true → int_le more (pos (2 ^ 62 - 1)) ≡ true
        → in_limit (integer_type (int_min low less) (int_max high more)) ≡ true
    within low high less more a b c d = two_true (int_le (neg_ℤ (pos (2 ^ 62))) (int_min low less)) (int_le (int_max high more) (pos (2 ^ 62 - 1)))
        (int_le_is (neg_ℤ (pos (2 ^ 62))) (int_min low less) (omega (arith, ints, clamps))) (int_le_is (int_max high more) (pos (2 ^ 62 - 1)) (omega (arith, ints, clamps)))
hull_good (integer_type low high) truth_type h k = h
hull_good (integer_type low high) symbol_type h k = h
hull_good (integer_type low high) (word_type n) h k = h
hull_good truth_type u h k = h
hull_good symbol_type u h k = h
hull_good (word_type n) u h k = h

hull_with_good : (t : ExprType) (us : List ExprType) → IsGood t → AreGood us → IsGood (hull_with t us)
hull_with_good t [] h k = h
hull_with_good t (u ∷ us) h k = hull_with_good (hull t u) us (hull_good t u h k.0) k.1

hull_of_good : (us : List ExprType) → AreGood us → IsGood (hull_of us)
hull_of_good [] h = (tt, refl)
hull_of_good (u ∷ us) h = hull_with_good u us h.0 h.1

ordered_all : (us : List ExprType) → AreGood us → AreOrdered us
ordered_all [] h = tt
ordered_all (u ∷ us) h = (h.0.0, ordered_all us h.1)

-- ---- nodes

if_good : (b : Bool) (o : Option ExprType) → (b ≡ true → IsGoodIf o) → IsGoodIf (if b then o else None)
if_good true o h = h refl
if_good false o h = tt

-- types of parts, where all have one
abbrev pub AreGoodIf : List (Option ExprType) → Type 0
AreGoodIf os = AllByRecursion IsGoodIf os

all_good : (os : List (Option ExprType)) → AreGoodIf os → (us : List ExprType) → all_types os ≡ Some us → AreGood us
all_good [] h [] e = tt
all_good [] h (u ∷ us) e = cc
all_good (o ∷ os) h us e =
    let c = all_cons o os us e in
    subst AreGood c.4 (subst IsGoodIf c.2 h.0, all_good os h.1 c.1 c.3)

with_all : (o : Option (List ExprType)) (f : List ExprType → ExprType) → ((us : List ExprType) → o ≡ Some us → IsGood (f us)) → IsGoodIf (option_map f o)
with_all None f h = tt
with_all (Some us) f h = h us refl

prefix_good : (p : Place) (sign : Prefix) (n : ℕ) (o : Option ExprType) → IsGoodIf o
    → IsGoodIf (if passes (check 16 p (on_type o (prefix_fits sign)) ∷ check 17 p (on_type o (λ u. in_limit (prefix_type sign n u))) ∷ []) then option_map (prefix_type sign n) o else None)
prefix_good p sign n None h = if_good (passes (check 16 p true ∷ check 17 p true ∷ [])) None (λ e. tt)
prefix_good p sign n (Some u) h = if_good (passes (check 16 p (prefix_fits sign u) ∷ check 17 p (in_limit (prefix_type sign n u)) ∷ [])) (Some (prefix_type sign n u))
    (λ e. (prefix_ordered sign n u h.0, (two_tests (prefix_fits sign u) (in_limit (prefix_type sign n u)) e).1))

call_good : (p : Place) (f : Function) (o : Option (List ExprType)) (ns : List (Option ℕ)) → ((us : List ExprType) → o ≡ Some us → AreGood us)
    → IsGoodIf (if passes (check 16 p (on_all o (function_fits f)) ∷ check 17 p (on_all o (λ us. in_limit (function_type f us ns))) ∷ check 25 p (on_all o (λ us. arguments_fit f us ns)) ∷ [])
    then option_map (λ us. function_type f us ns) o else None)
call_good p f None ns h = if_good (passes (check 16 p true ∷ check 17 p true ∷ check 25 p true ∷ [])) None (λ e. tt)
call_good p f (Some us) ns h = if_good (passes (check 16 p (function_fits f us) ∷ check 17 p (in_limit (function_type f us ns)) ∷ check 25 p (arguments_fit f us ns) ∷ [])) (Some (function_type f us ns))
    (λ e. (function_ordered f us ns (ordered_all us (h us refl)), (three_tests (function_fits f us) (in_limit (function_type f us ns)) (arguments_fit f us ns) e).1))

front_good : (o : Infix) (at : Position) (p : Place) (a b : Option ExprType) (e : Tree) → IsGoodIf a → IsGoodIf b
    → IsGoodIf (if passes (front_checks o at p a b e) then both_types (λ t u. infix_type o t u e) a b else None)
front_good o at p None b e h k = if_good (passes (front_checks o at p None b e)) None (λ s. tt)
front_good o at p (Some t) None e h k = if_good (passes (front_checks o at p (Some t) None e)) None (λ s. tt)
front_good o at p (Some t) (Some u) e h k = if_good (passes (front_checks o at p (Some t) (Some u) e)) (Some (infix_type o t u e))
    (λ s.
    let c = six_true (infix_fits o t u) (in_limit (infix_type o t u e)) (not (is_union o) || at.sets) (divides o e) (shifts o t e) (joins o t u) s in
    (infix_ordered o t u e c.3 h.0 k.0, c.1))

branches_good : (p : Place) (cs vs : Option (List ExprType)) → ((us : List ExprType) → vs ≡ Some us → AreGood us) → IsGoodIf (if passes (check 16 p (branches_fit cs vs) ∷ []) then branches_type cs vs else None)
branches_good p None vs h = if_good (passes (check 16 p (branches_fit None vs) ∷ [])) None (λ e. tt)
branches_good p (Some qs) None h = if_good (passes (check 16 p (branches_fit (Some qs) None) ∷ [])) None (λ e. tt)
branches_good p (Some qs) (Some us) h = if_good (passes (check 16 p (branches_fit (Some qs) (Some us)) ∷ [])) (Some (hull_of us)) (λ e. hull_of_good us (h us refl))

pick_good : (b : Bool) (x y : Typing) → IsGoodIf x.type → IsGoodIf y.type → IsGoodIf (if b then x else y).type
pick_good true x y h k = h
pick_good false x y h k = k

first_good : (us : List ExprType) → AreGood us → IsGood (first_type us)
first_good [] h = (tt, refl)
first_good (u ∷ us) h = h.0

-- ---- expressions

abbrev pub NamesAreGood : (Path → Named) → Type 0
NamesAreGood names = (x : Path) → IsGoodIf (names x).type

mutual
  pub type_good : (names : Path → Named) → NamesAreGood names → (at : Position) (e : Tree) → IsGoodIf (typing names at e).type
  type_good names g at (truth p b) = (tt, refl)
  type_good names g at (number p n) = if_good (passes (check 17 p (in_limit (integer_type (pos n) (pos n))) ∷ [])) (Some (integer_type (pos n) (pos n))) (λ e. (omega (arith, ints), (both_true (in_limit (integer_type (pos n) (pos n))) true e).0))
  type_good names g at (literal p w) = if_good (is_literal w) (Some (word_type w.width)) (λ e. (tt, refl))
  type_good names g at (name p x) = if_good (passes (check 16 p (not (names x).is_instance) ∷ check 18 p (at.inputs || not (names x).reaches_input) ∷ [])) (names x).type (λ e. g x)
  type_good names g at (prefix p sign n e) = prefix_good p sign n (typing names (single at) e).type (type_good names g (single at) e)
  type_good names g at (chain p e ls) = pick_good (is_from_right ls) _ (linked names (across ls at) p (typing names (across ls at) e) ls)
      (if_good (passes (check 16 p (on_all (all_types ((typing names (single at) e).type ∷ link_types names (single at) ls)) implies_fits) ∷ [])) (option_map first_type (all_types ((typing names (single at) e).type ∷ link_types names (single at) ls))) (λ s. with_all (all_types ((typing names (single at) e).type ∷ link_types names (single at) ls)) first_type
      (λ us h. first_good us (all_good ((typing names (single at) e).type ∷ link_types names (single at) ls) (type_good names g (single at) e, links_good names g (single at) ls) us h))))
      (linked_good names g (across ls at) p (typing names (across ls at) e) ls (type_good names g (across ls at) e))
  type_good names g at (choice p bs e) =
      branches_good p (all_types (condition_types names (single at) bs)) (all_types (value_types names at bs ((typing names at e).type ∷ [])))
      (λ us h. all_good (value_types names at bs ((typing names at e).type ∷ [])) (values_good names g at bs ((typing names at e).type ∷ []) (type_good names g at e, tt)) us h)
  type_good names g at (cases p bs) =
      branches_good p (all_types (condition_types names (single at) bs)) (all_types (value_types names at bs [])) (λ us h. all_good (value_types names at bs []) (values_good names g at bs [] tt) us h)
  type_good names g at (select p e high low) = if_good (passes (check 16 p (on_type (typing names (single at) e).type is_word_type) ∷ check 25 p (on_type (typing names (single at) e).type (λ u. is_select u high low)) ∷ []))
      (option_map (λ u. word_type (high - low + 1)) (typing names (single at) e).type) (λ s. by (typing names (single at) e).type)
    where
      by : (o : Option ExprType) → IsGoodIf (option_map (λ u. word_type (high - low + 1)) o)
      by None = tt
      by (Some u) = (tt, refl)
  type_good names g at (call p f es) = call_good p f (all_types (tree_types names (single at) es)) (numbers_of es) (λ us h. all_good (tree_types names (single at) es) (trees_good names g (single at) es) us h)
  type_good names g at (next p e) = if_good (passes (check 19 p at.nexts ∷ [])) (typing names under_next e).type (λ s. type_good names g under_next e)
  type_good names g at (set p es) = if_good (passes (check 16 p (on_all (all_types (tree_types names at es)) are_same) ∷ check 20 p at.sets ∷ [])) (option_map hull_of (all_types (tree_types names at es))) (λ s. with_all (all_types (tree_types names at es)) hull_of (λ us h. hull_of_good us (all_good (tree_types names at es) (trees_good names g at es) us h)))
  type_good names g at (range p low high) = if_good (passes (check 17 p (in_limit (integer_type low high)) ∷ check 20 p at.sets ∷ check 26 p (int_le low high) ∷ [])) (Some (integer_type low high))
      (λ s. let c = three_tests (in_limit (integer_type low high)) at.sets (int_le low high) s in let o = c.2 in (omega (arith, ints), c.0))

  links_good : (names : Path → Named) → NamesAreGood names → (at : Position) (ls : Links) → AreGoodIf (link_types names at ls)
  links_good names g at no_links = tt
  links_good names g at (link o e ls) = (type_good names g at e, links_good names g at ls)

  pub linked_good : (names : Path → Named) → NamesAreGood names → (at : Position) (p : Place) (a : Typing) (ls : Links) → IsGoodIf a.type → IsGoodIf (linked names at p a ls).type
  linked_good names g at p a no_links h = h
  linked_good names g at p a (link o e ls) h =
      linked_good names g at p (front o at p a (typing names (behind o at) e) e) ls (front_good o at p a.type (typing names (behind o at) e).type e h (type_good names g (behind o at) e))

  values_good : (names : Path → Named) → NamesAreGood names → (at : Position) (bs : Branches) (more : List (Option ExprType)) → AreGoodIf more → AreGoodIf (value_types names at bs more)
  values_good names g at no_branches more h = h
  values_good names g at (branch c e rest) more h = (type_good names g at e, values_good names g at rest more h)

  trees_good : (names : Path → Named) → NamesAreGood names → (at : Position) (es : Trees) → AreGoodIf (tree_types names at es)
  trees_good names g at no_trees = tt
  trees_good names g at (tree e es) = (type_good names g at e, trees_good names g at es)

pub front_is_good : (names : Path → Named) → NamesAreGood names → (o : Infix) (at : Position) (p : Place) (a : Typing) (e : Tree) → IsGoodIf a.type → IsGoodIf (front o at p a (typing names (behind o at) e) e).type
front_is_good names g o at p a e h = front_good o at p a.type (typing names (behind o at) e).type e h (type_good names g (behind o at) e)

-- ---- variables

members_ordered : (ms : List EnumMember) → AreOrdered (map member_type ms)
members_ordered [] = tt
members_ordered (OfMember.Symbol s ∷ ms) = (tt, members_ordered ms)
members_ordered (OfMember.Integer z ∷ ms) = (omega (arith, ints), members_ordered ms)

hull_with_ordered : (t : ExprType) (us : List ExprType) → IsOrdered t → IsOrdered (hull_with t us)
hull_with_ordered t [] h = h
hull_with_ordered t (u ∷ us) h = hull_with_ordered (hull t u) us (hull_ordered t u h)

hull_of_ordered : (us : List ExprType) → AreOrdered us → IsOrdered (hull_of us)
hull_of_ordered [] h = tt
hull_of_ordered (u ∷ us) h = hull_with_ordered u us h.0

pub variable_good : (d : PlainDomain) → IsGoodIf (variable_type d)
variable_good boolean = (tt, refl)
variable_good (members ms) = if_good (((are_same (map member_type ms) && in_limit (hull_of (map member_type ms))) && true) && true) (Some (hull_of (map member_type ms)))
    (λ e. (hull_of_ordered (map member_type ms) (members_ordered ms), (four_true (are_same (map member_type ms)) (in_limit (hull_of (map member_type ms))) true true e).1))
variable_good (between low high) = if_good (((true && in_limit (integer_type low high)) && true) && int_le low high) (Some (integer_type low high))
    (λ e. let f = four_true true (in_limit (integer_type low high)) true (int_le low high) e in let o = f.3 in (omega (arith, ints), f.1))
variable_good (bits n) = if_good (((true && true) && has_width (bits n)) && true) (Some (word_type n)) (λ e. (tt, refl))
variable_good (instance m es) = tt
