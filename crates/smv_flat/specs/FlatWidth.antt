-- The width of the integers of a flat form: the least in which two's complement holds the interval of every integer expression and
-- type. Shift amounts and arguments that are numbers, which are no values of the model, don't count (NuSMV 2.6 User Manual, 2.2; that
-- one width serves all integers is this translator's own).
use Rattle.std.specs.Prelude.{ℕ, zero, suc, ◌+◌, ◌-◌, ◌/◌, ◌^◌, ◌≤◌, max, ◌==◌, if◌then◌else◌, ℤ, pos, negsuc, neg_ℤ, ◌≤ℤ◌, ◌<ℤ◌, List, [], ◌∷◌, Option, Some, None}
use Rattle.smv_text.specs.declared.operators.Prefix.TheVariants as OfPrefix
use Rattle.smv_text.specs.declared.operators.Infix.{Infix}
use Rattle.smv_text.specs.declared.operators.Infix.TheVariants.{ShiftLeft, ShiftRight}
use Rattle.smv_text.specs.declared.operators.Function.{Function}
use Rattle.smv_text.specs.declared.operators.Function.TheVariants as OfFunction
use Rattle.smv_meaning.specs.Types.{ExprType, integer_type, in_limit, infix_type_by}
use Rattle.smv_flat.specs.FlatTree.{FlatTree, flat_truth, flat_number, flat_literal, flat_symbol, flat_item, flat_prefix, flat_chain, flat_choice, flat_cases, flat_select, flat_call, flat_set, flat_range, FlatLinks, no_flat_links, flat_link, FlatBranches, no_flat_branches, flat_branch, FlatTrees, no_flat_trees, flat_tree_then}
use Rattle.smv_items.specs.FlatItems.{PlainFlatItem}
use Rattle.smv_flat.specs.FlatForms.{Form, PlainFlat}

-- ---- the width of an integer

-- the number of binary digits, where at most so many are counted
abbrev pub digits_within : ℕ → ℕ → ℕ
digits_within zero n = 0
digits_within (suc most) zero = 0
digits_within (suc most) (suc n) = suc (digits_within most (suc n / 2))

abbrev pub binary_digits : ℕ → ℕ
binary_digits n = digits_within n n

-- -1 - n has the digits of n, each turned
abbrev pub integer_width : ℤ → ℕ
integer_width (pos n) = binary_digits n + 1
integer_width (negsuc n) = binary_digits n + 1

abbrev pub interval_width : ℤ → ℤ → ℕ
interval_width low high = max (integer_width low) (integer_width high)

-- 1 where the type is no integer's
abbrev pub integers_width : ExprType → ℕ
integers_width (integer_type low high) = interval_width low high
integers_width t = 1

abbrev pub node_width : Option ExprType → ℕ
node_width None = 1
node_width (Some t) = integers_width t

-- two's complement of this width has the integer
abbrev pub Holds : ℕ → ℤ → Type 0
Holds w z = (neg_ℤ (pos (2 ^ (w - 1))) ≤ℤ z) × (z <ℤ pos (2 ^ (w - 1)))

-- each integer of the interval has a place in this width, and in no lesser one
pub record IsLeastWidth (low high : ℤ) (w : ℕ) : Type 0 where
  pub some : 1 ≤ w
  pub holds : (z : ℤ) → low ≤ℤ z → z ≤ℤ high → Holds w z
  pub least : (v : ℕ) → 1 ≤ v → ((z : ℤ) → low ≤ℤ z → z ≤ℤ high → Holds v z) → w ≤ v

abbrev pub WidthIsLeast : Type 0
WidthIsLeast = (z : ℤ) → IsLeastWidth z z (integer_width z)

abbrev pub IntervalWidthIsLeast : Type 0
IntervalWidthIsLeast = (low high : ℤ) → low ≤ℤ high → IsLeastWidth low high (interval_width low high)

-- ---- the fronts of a chain that is read from the left

-- an integer's type, where its interval is within the limit, as each is in an accepted model
abbrev pub integer_within : ExprType → Option ExprType
integer_within (integer_type low high) = if in_limit (integer_type low high) then Some (integer_type low high) else None
integer_within t = None

-- The type of the front that ends with an operand, where it is an integer's. A set has no type of its own, and the ends of a hull are
-- those of its parts.
abbrev pub front_by : Infix → Option ExprType → Option ExprType → Option ℤ → Option ExprType
front_by op (Some t) (Some u) b = integer_within (infix_type_by op t u b)
front_by op t u b = None

abbrev pub flat_number_of : FlatTree → Option ℕ
flat_number_of (flat_number t n) = Some n
flat_number_of e = None

-- the integer that a divisor stands for: a number, or one `-` and a number
abbrev pub flat_divisor : FlatTree → Option ℤ
flat_divisor (flat_number t n) = Some (pos n)
flat_divisor (flat_prefix t OfPrefix.Minus n (flat_number u m)) = if n == 1 then Some (neg_ℤ (pos m)) else None
flat_divisor e = None

abbrev pub flat_type : FlatTree → Option ExprType
flat_type (flat_truth t b) = t
flat_type (flat_number t n) = t
flat_type (flat_literal t w) = t
flat_type (flat_symbol t s) = t
flat_type (flat_item t k under) = t
flat_type (flat_prefix t sign n e) = t
flat_type (flat_chain t e ls) = t
flat_type (flat_choice t bs e) = t
flat_type (flat_cases t bs) = t
flat_type (flat_select t e high low) = t
flat_type (flat_call t f es) = t
flat_type (flat_set t es) = t
flat_type (flat_range t low high) = t

-- ---- the width of an expression

-- the operand behind a shift is an amount
abbrev pub operand_width : Infix → ℕ → ℕ
operand_width ShiftLeft w = 0
operand_width ShiftRight w = 0
operand_width op w = w

-- given the width of the first argument and that of all: the further ones of some functions are numbers
abbrev pub arguments_width : Function → ℕ → ℕ → ℕ
arguments_width OfFunction.Uwconst first all = 0
arguments_width OfFunction.Extend first all = first
arguments_width OfFunction.Resize first all = first
arguments_width f first all = all

-- The fronts of a chain of `->`, which is read from the right, have the type of its first operand: they add nothing.
abbrev mutual
  pub tree_width : FlatTree → ℕ
  tree_width (flat_truth t b) = node_width t
  tree_width (flat_number t n) = node_width t
  tree_width (flat_literal t w) = node_width t
  tree_width (flat_symbol t s) = node_width t
  tree_width (flat_item t k under) = node_width t
  tree_width (flat_prefix t sign n e) = max (node_width t) (tree_width e)
  tree_width (flat_chain t e ls) = max (node_width t) (max (tree_width e) (links_width (flat_type e) ls))
  tree_width (flat_choice t bs e) = max (node_width t) (max (branches_width bs) (tree_width e))
  tree_width (flat_cases t bs) = max (node_width t) (branches_width bs)
  tree_width (flat_select t e high low) = max (node_width t) (tree_width e)
  tree_width (flat_call t f es) = max (node_width t) (arguments_width f (first_width es) (trees_width es))
  tree_width (flat_set t es) = max (node_width t) (trees_width es)
  tree_width (flat_range t low high) = max (node_width t) (interval_width low high)

  -- the operands and the fronts that end with them, given the type of what is before
  pub links_width : Option ExprType → FlatLinks → ℕ
  links_width t no_flat_links = 0
  links_width t (flat_link op e ls) =
      let front = front_by op t (flat_type e) (flat_divisor e) in
      max (max (operand_width op (tree_width e)) (node_width front)) (links_width front ls)

  pub branches_width : FlatBranches → ℕ
  branches_width no_flat_branches = 0
  branches_width (flat_branch c e rest) = max (max (tree_width c) (tree_width e)) (branches_width rest)

  pub trees_width : FlatTrees → ℕ
  trees_width no_flat_trees = 0
  trees_width (flat_tree_then e es) = max (tree_width e) (trees_width es)

  pub first_width : FlatTrees → ℕ
  first_width no_flat_trees = 0
  first_width (flat_tree_then e es) = tree_width e

-- ---- the width of a flat form

abbrev pub items_width : List PlainFlatItem → ℕ
items_width [] = 0
items_width (x ∷ xs) = max (integers_width x.type) (items_width xs)

abbrev pub forms_width : List Form → ℕ
forms_width [] = 0
forms_width (f ∷ fs) = max (tree_width f.body) (forms_width fs)

abbrev pub width_of : PlainFlat → ℕ
width_of flat = max 1 (max (items_width flat.items) (forms_width flat.forms))
