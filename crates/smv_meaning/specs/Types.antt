-- The types of expressions, and the intervals in which their integers lie (NuSMV 2.6 User Manual, 2.2; the intervals are this
-- translator's own).
use Rattle.std.specs.Prelude.{ℕ, ◌+◌, ◌-◌, ◌%◌, ◌^◌, Bool, true, false, not, ◌&&◌, ◌||◌, ◌==◌, nat_lt, nat_le, if◌then◌else◌, ℤ, pos, ◌+ℤ◌, ◌-ℤ◌, ◌*ℤ◌, neg_ℤ, int_lt, int_le, int_div, nat_abs, List, [], ◌∷◌, map, length, drop, Option, Some, None}
use Rattle.std.specs.Int.{int_min, int_max}
use Rattle.std.specs.List.{list_all}
use Rattle.smv_text.specs.declared.operators.Prefix.{Prefix}
use Rattle.smv_text.specs.declared.operators.Prefix.TheVariants as OfPrefix
use Rattle.smv_text.specs.declared.operators.Infix.{Infix}
use Rattle.smv_text.specs.declared.operators.Infix.TheVariants.{Equal, Unequal, Less, Greater, LessEq, GreaterEq, Member, Union, ShiftLeft, ShiftRight, Plus, Minus, Times, Divide, Mod, Concat}
use Rattle.smv_text.specs.declared.operators.Function.{Function}
use Rattle.smv_text.specs.declared.operators.Function.TheVariants as OfFunction
use Rattle.smv_text.specs.declared.tree.Member.{Member as EnumMember}
use Rattle.smv_text.specs.declared.tree.Member.TheVariants as OfMember
use Rattle.smv_text.specs.Tree.{Tree, number, literal, prefix, Trees, no_trees, tree, PlainDomain, boolean, members, between, bits, instance}
use Rattle.smv_meaning.specs.Operators.{int_abs, is_width}

-- the type of an expression, an integer's with its interval; all symbols have one type
pub data ExprType : Type 0 where
  truth_type : ExprType
  integer_type : ℤ → ℤ → ExprType
  symbol_type : ExprType
  word_type : ℕ → ExprType

abbrev pub is_truth_type : ExprType → Bool
is_truth_type truth_type = true
is_truth_type t = false

abbrev pub is_integer_type : ExprType → Bool
is_integer_type (integer_type low high) = true
is_integer_type t = false

abbrev pub is_word_type : ExprType → Bool
is_word_type (word_type n) = true
is_word_type t = false

abbrev pub type_width : ExprType → ℕ
type_width (word_type n) = n
type_width t = 0

-- whatever the intervals are
abbrev pub type_same : ExprType → ExprType → Bool
type_same truth_type truth_type = true
type_same (integer_type low high) (integer_type less more) = true
type_same symbol_type symbol_type = true
type_same (word_type m) (word_type n) = m == n
type_same t u = false

abbrev pub widths_same : ExprType → ExprType → Bool
widths_same t u = is_word_type t && is_word_type u && type_width t == type_width u

-- integers lie from -2^62 to 2^62 - 1
abbrev pub in_limit : ExprType → Bool
in_limit (integer_type low high) = int_le (neg_ℤ (pos (2 ^ 62))) low && int_le high (pos (2 ^ 62 - 1))
in_limit t = true

-- ---- intervals

abbrev pub hull : ExprType → ExprType → ExprType
hull (integer_type low high) (integer_type less more) = integer_type (int_min low less) (int_max high more)
hull t u = t

-- the least and the greatest result over the ends
abbrev pub over_ends : (ℤ → ℤ) → ExprType → ExprType
over_ends f (integer_type low high) = integer_type (int_min (f low) (f high)) (int_max (f low) (f high))
over_ends f t = t

abbrev pub over_both_ends : (ℤ → ℤ → ℤ) → ExprType → ExprType → ExprType
over_both_ends f (integer_type low high) (integer_type less more) =
    hull (over_ends (f low) (integer_type less more)) (over_ends (f high) (integer_type less more))
over_both_ends f t u = t

-- 0 counts as an end where it lies between the ends
abbrev pub abs_type : ExprType → ExprType
abs_type (integer_type low high) =
    if int_lt low (pos 0) && int_lt (pos 0) high then integer_type (pos 0) (int_max (int_abs low) (int_abs high)) else over_ends int_abs (integer_type low high)
abs_type t = t

abbrev pub quotient_type : ExprType → Option ℤ → ExprType
quotient_type t (Some b) = over_ends (λ a. int_div a b) t
quotient_type t None = t

abbrev pub rest_low : ℤ → ℕ → ℤ
rest_low low b = if int_le (pos 0) low then pos 0 else int_max low (pos 1 -ℤ pos b)

abbrev pub rest_high : ℤ → ℕ → ℤ
rest_high high b = if int_le high (pos 0) then pos 0 else int_min high (pos b -ℤ pos 1)

abbrev pub rest_type : ExprType → Option ℤ → ExprType
rest_type (integer_type low high) (Some b) = integer_type (rest_low low (nat_abs b)) (rest_high high (nat_abs b))
rest_type t b = t

-- ---- operators between two operands

-- the integer that a divisor's text stands for: a number, or one `-` and a number
abbrev pub divisor_of : Tree → Option ℤ
divisor_of (number p n) = Some (pos n)
divisor_of (prefix p OfPrefix.Minus n (number q m)) = if n == 1 then Some (neg_ℤ (pos m)) else None
divisor_of e = None

abbrev pub is_nonzero : Option ℤ → Bool
is_nonzero None = false
is_nonzero (Some z) = not (nat_abs z == 0)

-- a number that isn't 0, one `-` and such a number, or a word literal that isn't 0
abbrev pub is_divisor : Tree → Bool
is_divisor (literal p w) = not (w.bits == 0)
is_divisor e = is_nonzero (divisor_of e)

-- the number that the text of an amount, a width or an argument is
abbrev pub number_of : Tree → Option ℕ
number_of (number p n) = Some n
number_of e = None

abbrev pub numbers_of : Trees → List (Option ℕ)
numbers_of no_trees = []
numbers_of (tree e es) = number_of e ∷ numbers_of es

abbrev pub logical_fits : ExprType → ExprType → Bool
logical_fits t u = (is_truth_type t && is_truth_type u) || widths_same t u

abbrev pub number_fits : ExprType → ExprType → Bool
number_fits t u = (is_integer_type t && is_integer_type u) || widths_same t u

-- the operands' types fit the operator; the last line is for logical operators
abbrev pub infix_fits : Infix → ExprType → ExprType → Bool
infix_fits Equal t u = type_same t u
infix_fits Unequal t u = type_same t u
infix_fits Less t u = number_fits t u
infix_fits Greater t u = number_fits t u
infix_fits LessEq t u = number_fits t u
infix_fits GreaterEq t u = number_fits t u
infix_fits Member t u = type_same t u
infix_fits Union t u = type_same t u
infix_fits ShiftLeft t u = is_word_type t
infix_fits ShiftRight t u = is_word_type t
infix_fits Plus t u = number_fits t u
infix_fits Minus t u = number_fits t u
infix_fits Times t u = number_fits t u
infix_fits Divide t u = number_fits t u
infix_fits Mod t u = number_fits t u
infix_fits Concat t u = is_word_type t && is_word_type u
infix_fits op t u = logical_fits t u

-- the type of the whole, where the operands fit, given the number that the right one is where it is a divisor; the last line is for
-- logical operators and shifts
abbrev pub infix_type_by : Infix → ExprType → ExprType → Option ℤ → ExprType
infix_type_by Equal t u d = truth_type
infix_type_by Unequal t u d = truth_type
infix_type_by Less t u d = truth_type
infix_type_by Greater t u d = truth_type
infix_type_by LessEq t u d = truth_type
infix_type_by GreaterEq t u d = truth_type
infix_type_by Member t u d = truth_type
infix_type_by Union t u d = hull t u
infix_type_by Plus t u d = over_both_ends (λ a b. a +ℤ b) t u
infix_type_by Minus t u d = over_both_ends (λ a b. a -ℤ b) t u
infix_type_by Times t u d = over_both_ends (λ a b. a *ℤ b) t u
infix_type_by Divide t u d = quotient_type t d
infix_type_by Mod t u d = rest_type t d
infix_type_by Concat t u d = word_type (type_width t + type_width u)
infix_type_by op t u d = t

-- the same, where the right operand's text is read for a divisor
abbrev pub infix_type : Infix → ExprType → ExprType → Tree → ExprType
infix_type op t u e = infix_type_by op t u (divisor_of e)

abbrev pub is_shift_amount : Option ℕ → ExprType → Bool
is_shift_amount None t = false
is_shift_amount (Some n) t = nat_le n (type_width t)

-- the right operand of a division is a divisor
abbrev pub divides : Infix → Tree → Bool
divides Divide e = is_divisor e
divides Mod e = is_divisor e
divides op e = true

-- the right operand of a shift is a number from 0 to the width
abbrev pub shifts : Infix → ExprType → Tree → Bool
shifts ShiftLeft t e = is_shift_amount (number_of e) t
shifts ShiftRight t e = is_shift_amount (number_of e) t
shifts op t e = true

-- joined words are no wider than a word can be
abbrev pub joins : Infix → ExprType → ExprType → Bool
joins Concat t u = is_width (type_width t + type_width u)
joins op t u = true

abbrev pub is_union : Infix → Bool
is_union Union = true
is_union op = false

-- ---- the other operators

abbrev pub prefix_fits : Prefix → ExprType → Bool
prefix_fits OfPrefix.Not t = is_truth_type t || is_word_type t
prefix_fits OfPrefix.Minus t = is_integer_type t || is_word_type t

-- a sign that stands so many times
abbrev pub prefix_type : Prefix → ℕ → ExprType → ExprType
prefix_type OfPrefix.Not n t = t
prefix_type OfPrefix.Minus n t = if n % 2 == 1 then over_ends neg_ℤ t else t

-- the bits from high to low are there
abbrev pub is_select : ExprType → ℕ → ℕ → Bool
is_select t high low = nat_lt high (type_width t) && nat_le low high

-- the number and the types of a function's arguments
abbrev pub function_fits : Function → List ExprType → Bool
function_fits OfFunction.Bool (t ∷ []) = is_word_type t && type_width t == 1
function_fits OfFunction.Word1 (t ∷ []) = is_truth_type t
function_fits OfFunction.Toint (t ∷ []) = is_word_type t
function_fits OfFunction.Uwconst (t ∷ u ∷ []) = true
function_fits OfFunction.Extend (t ∷ u ∷ []) = is_word_type t
function_fits OfFunction.Resize (t ∷ u ∷ []) = is_word_type t
function_fits OfFunction.Count (t ∷ ts) = is_truth_type t && list_all is_truth_type ts
function_fits OfFunction.Max (t ∷ u ∷ []) = is_integer_type t && is_integer_type u
function_fits OfFunction.Min (t ∷ u ∷ []) = is_integer_type t && is_integer_type u
function_fits OfFunction.Abs (t ∷ []) = is_integer_type t
function_fits f ts = false

-- the arguments that are numbers fit
abbrev pub arguments_fit : Function → List ExprType → List (Option ℕ) → Bool
arguments_fit OfFunction.Uwconst ts (Some v ∷ Some n ∷ []) = is_width n && nat_lt v (2 ^ n)
arguments_fit OfFunction.Uwconst ts ns = false
arguments_fit OfFunction.Extend (t ∷ ts) (m ∷ Some n ∷ []) = is_width (type_width t + n)
arguments_fit OfFunction.Extend ts ns = false
arguments_fit OfFunction.Resize ts (m ∷ Some n ∷ []) = is_width n
arguments_fit OfFunction.Resize ts ns = false
arguments_fit f ts ns = true

abbrev pub second_number : List (Option ℕ) → ℕ
second_number (m ∷ Some n ∷ ns) = n
second_number ns = 0

abbrev pub first_type : List ExprType → ExprType
first_type [] = truth_type
first_type (t ∷ ts) = t

-- the type of the whole, where the arguments fit
abbrev pub function_type : Function → List ExprType → List (Option ℕ) → ExprType
function_type OfFunction.Bool ts ns = truth_type
function_type OfFunction.Word1 ts ns = word_type 1
function_type OfFunction.Toint ts ns = integer_type (pos 0) (pos (2 ^ type_width (first_type ts) - 1))
function_type OfFunction.Uwconst ts ns = word_type (second_number ns)
function_type OfFunction.Extend ts ns = word_type (type_width (first_type ts) + second_number ns)
function_type OfFunction.Resize ts ns = word_type (second_number ns)
function_type OfFunction.Count ts ns = integer_type (pos 0) (pos (length ts))
function_type OfFunction.Max ts ns = over_both_ends int_max (first_type ts) (first_type (drop 1 ts))
function_type OfFunction.Min ts ns = over_both_ends int_min (first_type ts) (first_type (drop 1 ts))
function_type OfFunction.Abs ts ns = abs_type (first_type ts)

-- the parts have one type
abbrev pub are_same : List ExprType → Bool
are_same [] = false
are_same (t ∷ ts) = list_all (type_same t) ts

abbrev pub hull_with : ExprType → List ExprType → ExprType
hull_with t [] = t
hull_with t (u ∷ us) = hull_with (hull t u) us

-- the type of the parts, an integer's with the hull of their intervals
abbrev pub hull_of : List ExprType → ExprType
hull_of [] = truth_type
hull_of (t ∷ ts) = hull_with t ts

-- the operands of `->` are all truth values, or all words of one width
abbrev pub implies_fits : List ExprType → Bool
implies_fits [] = false
implies_fits (t ∷ ts) = list_all (logical_fits t) ts

-- ---- the types of variables

abbrev pub member_type : EnumMember → ExprType
member_type (OfMember.Symbol s) = symbol_type
member_type (OfMember.Integer z) = integer_type z z

-- symbols and integers are not mixed
abbrev pub is_unmixed : PlainDomain → Bool
is_unmixed (members ms) = are_same (map member_type ms)
is_unmixed d = true

abbrev pub has_width : PlainDomain → Bool
has_width (bits n) = is_width n
has_width d = true

abbrev pub has_order : PlainDomain → Bool
has_order (between low high) = int_le low high
has_order d = true

abbrev pub domain_type : PlainDomain → Option ExprType
domain_type boolean = Some truth_type
domain_type (members ms) = Some (hull_of (map member_type ms))
domain_type (between low high) = Some (integer_type low high)
domain_type (bits n) = Some (word_type n)
domain_type (instance m actuals) = None
