-- Checks, and the typing of an expression: its checks in their order, and its type.
use Rattle.std.specs.Prelude.{ℕ, ◌+◌, ◌-◌, ◌^◌, Bool, true, false, not, ◌&&◌, ◌||◌, if◌then◌else◌, pos, int_le, nat_lt, List, [], ◌∷◌, ◌++◌, Option, Some, None, option_map, ◌≡◌}
use Rattle.std.specs.List.{list_all}
use Rattle.text_core.specs.declared.place.Place.{Place}
use Rattle.text_core.specs.declared.place.Kind.TheVariants.{S}
use Rattle.text_core.specs.declared.place.Refusal.{Refusal}
use Rattle.word_core.specs.Words.{BitVector}
use Rattle.smv_text.specs.declared.tree.Path.{Path}
use Rattle.smv_text.specs.declared.operators.Infix.{Infix}
use Rattle.smv_text.specs.declared.operators.Infix.TheVariants.{Member, Union}
use Rattle.smv_text.specs.Tree.{Tree, truth, number, literal, name, prefix, chain, choice, cases, select, call, next, set, range, Links, no_links, link, Branches, no_branches, branch, Trees, no_trees, tree, PlainDomain}
use Rattle.smv_meaning.specs.Expressions.{is_from_right}
use Rattle.smv_meaning.specs.Operators.{is_width}
use Rattle.smv_meaning.specs.Types.{ExprType, truth_type, integer_type, word_type, is_truth_type, is_word_type, in_limit, infix_fits, infix_type, divides, shifts, joins, is_union, prefix_fits, prefix_type, is_select, function_fits, arguments_fit, function_type, numbers_of, are_same, hull_of, implies_fits, first_type, is_unmixed, has_width, has_order, domain_type}
use Rattle.text_core.specs.declared.end.End.{End}
use Rattle.text_core.specs.declared.end.End.TheVariants.{Bad, NoMemory}

-- a refusal, which comes where the test fails
pub record Check : Type 0 where
  pub refusal : Refusal
  pub holds : Bool

abbrev pub check : ℕ → Place → Bool → Check
check n place test = record { refusal = record { kind = S n; place = place }; holds = test }

abbrev pub passes : List Check → Bool
passes cs = list_all (λ c. c.holds) cs

abbrev pub first_failing : List Check → Option Refusal
first_failing [] = None
first_failing (c ∷ cs) = if c.holds then first_failing cs else Some c.refusal

-- where an expression stands: inputs may be reached, `next` may stand, and a set may
pub record Position : Type 0 where
  pub inputs : Bool
  pub nexts : Bool
  pub sets : Bool

-- a position in which no set may stand
abbrev pub single : Position → Position
single at = record { inputs = at.inputs; nexts = at.nexts; sets = false }

abbrev pub with_sets : Position → Position
with_sets at = record { inputs = at.inputs; nexts = at.nexts; sets = true }

-- a position under `next`
abbrev pub under_next : Position
under_next = record { inputs = false; nexts = false; sets = false }

-- what a name is: its type, where it has one, whether it is an instance, and whether it reaches an input
pub record Named : Type 0 where
  pub type : Option ExprType
  pub is_instance : Bool
  pub reaches_input : Bool

-- the checks of an expression in their order, and its type
pub record Typing : Type 0 where
  pub checks : List Check
  pub type : Option ExprType

-- a node with the checks of its operands and its own, and the type that it has where its own hold
abbrev pub node : List Check → List Check → Option ExprType → Typing
node before here type = record { checks = before ++ here; type = if passes here then type else None }

-- a test of an operand's type, which holds where it has none
abbrev pub on_type : Option ExprType → (ExprType → Bool) → Bool
on_type None test = true
on_type (Some t) test = test t

abbrev pub on_types : Option ExprType → Option ExprType → (ExprType → ExprType → Bool) → Bool
on_types (Some t) (Some u) test = test t u
on_types t u test = true

-- the types of operands that all have one
abbrev pub all_types : List (Option ExprType) → Option (List ExprType)
all_types [] = Some []
all_types (None ∷ ts) = None
all_types (Some t ∷ ts) = option_map (λ us. t ∷ us) (all_types ts)

abbrev pub on_all : Option (List ExprType) → (List ExprType → Bool) → Bool
on_all None test = true
on_all (Some ts) test = test ts

abbrev pub both_types : (ExprType → ExprType → ExprType) → Option ExprType → Option ExprType → Option ExprType
both_types f (Some t) (Some u) = Some (f t u)
both_types f t u = None

-- the front of a chain that ends with an operand, given the types of what is before its last operator and of the operand
abbrev pub front_checks : Infix → Position → Place → Option ExprType → Option ExprType → Tree → List Check
front_checks op at place a b e =
    check 16 place (on_types a b (infix_fits op))
    ∷ check 17 place (on_types a b (λ t u. in_limit (infix_type op t u e)))
    ∷ check 20 place (not (is_union op) || at.sets)
    ∷ check 23 place (divides op e)
    ∷ check 24 place (on_types a b (λ t u. shifts op t e))
    ∷ check 25 place (on_types a b (joins op))
    ∷ []

abbrev pub front : Infix → Position → Place → Typing → Typing → Tree → Typing
front op at place a b e =
    node (a.checks ++ b.checks) (front_checks op at place a.type b.type e) (both_types (λ t u. infix_type op t u e) a.type b.type)

abbrev pub are_unions : Links → Bool
are_unions no_links = true
are_unions (link op e ls) = is_union op && are_unions ls

-- the position of a chain's first operand: a set is in a chain of `union`, where the whole may be one
abbrev pub across : Links → Position → Position
across ls at = if are_unions ls then at else single at

-- the position of the operand behind an operator: behind `in` a set may stand
abbrev pub behind : Infix → Position → Position
behind Member at = with_sets at
behind Union at = at
behind op at = single at

abbrev pub branches_fit : Option (List ExprType) → Option (List ExprType) → Bool
branches_fit (Some conditions) (Some values) = list_all is_truth_type conditions && are_same values
branches_fit conditions values = true

abbrev pub branches_type : Option (List ExprType) → Option (List ExprType) → Option ExprType
branches_type (Some conditions) (Some values) = Some (hull_of values)
branches_type conditions values = None

abbrev pub is_literal : BitVector → Bool
is_literal w = is_width w.width && nat_lt w.bits (2 ^ w.width)

abbrev pub literal_type : BitVector → Option ExprType
literal_type w = if is_literal w then Some (word_type w.width) else None

-- given what its names are
abbrev mutual
  pub typing : (Path → Named) → Position → Tree → Typing
  typing names at (truth p b) = node [] [] (Some truth_type)
  typing names at (number p n) = node [] (check 17 p (in_limit (integer_type (pos n) (pos n))) ∷ []) (Some (integer_type (pos n) (pos n)))
  typing names at (literal p w) = node [] [] (literal_type w)
  typing names at (name p x) =
      node [] (check 16 p (not (names x).is_instance) ∷ check 18 p (at.inputs || not (names x).reaches_input) ∷ []) (names x).type
  typing names at (prefix p sign n e) =
      let t = (typing names (single at) e).type in
      node (typing names (single at) e).checks
      (check 16 p (on_type t (prefix_fits sign)) ∷ check 17 p (on_type t (λ u. in_limit (prefix_type sign n u))) ∷ [])
      (option_map (prefix_type sign n) t)
  typing names at (chain p e ls) =
      let ts = all_types ((typing names (single at) e).type ∷ link_types names (single at) ls) in
      if is_from_right ls
      then node ((typing names (single at) e).checks ++ link_checks names (single at) ls) (check 16 p (on_all ts implies_fits) ∷ []) (option_map first_type ts)
      else linked names (across ls at) p (typing names (across ls at) e) ls
  typing names at (choice p bs e) =
      let conditions = all_types (condition_types names (single at) bs) in
      let values = all_types (value_types names at bs ((typing names at e).type ∷ [])) in
      node (branch_checks names at bs ++ (typing names at e).checks)
      (check 16 p (branches_fit conditions values) ∷ []) (branches_type conditions values)
  typing names at (cases p bs) =
      let conditions = all_types (condition_types names (single at) bs) in
      let values = all_types (value_types names at bs []) in
      node (branch_checks names at bs) (check 16 p (branches_fit conditions values) ∷ []) (branches_type conditions values)
  typing names at (select p e high low) =
      let t = (typing names (single at) e).type in
      node (typing names (single at) e).checks
      (check 16 p (on_type t is_word_type) ∷ check 25 p (on_type t (λ u. is_select u high low)) ∷ [])
      (option_map (λ u. word_type (high - low + 1)) t)
  typing names at (call p f es) =
      let ts = all_types (tree_types names (single at) es) in
      node (tree_checks names (single at) es) (
      check 16 p (on_all ts (function_fits f))
      ∷ check 17 p (on_all ts (λ us. in_limit (function_type f us (numbers_of es))))
      ∷ check 25 p (on_all ts (λ us. arguments_fit f us (numbers_of es)))
      ∷ []
      ) (option_map (λ us. function_type f us (numbers_of es)) ts)
  typing names at (next p e) =
      node (typing names under_next e).checks (check 19 p at.nexts ∷ []) (typing names under_next e).type
  typing names at (set p es) =
      let ts = all_types (tree_types names at es) in
      node (tree_checks names at es) (check 16 p (on_all ts are_same) ∷ check 20 p at.sets ∷ []) (option_map hull_of ts)
  typing names at (range p low high) =
      node [] (check 17 p (in_limit (integer_type low high)) ∷ check 20 p at.sets ∷ check 26 p (int_le low high) ∷ [])
      (Some (integer_type low high))

  -- the operands behind the operators of `->`
  pub link_types : (Path → Named) → Position → Links → List (Option ExprType)
  link_types names at no_links = []
  link_types names at (link op e ls) = (typing names at e).type ∷ link_types names at ls

  pub link_checks : (Path → Named) → Position → Links → List Check
  link_checks names at no_links = []
  link_checks names at (link op e ls) = (typing names at e).checks ++ link_checks names at ls

  -- a front with the links that follow it, front by front
  pub linked : (Path → Named) → Position → Place → Typing → Links → Typing
  linked names at p a no_links = a
  linked names at p a (link op e ls) = linked names at p (front op at p a (typing names (behind op at) e) e) ls

  pub condition_types : (Path → Named) → Position → Branches → List (Option ExprType)
  condition_types names at no_branches = []
  condition_types names at (branch c e rest) = (typing names at c).type ∷ condition_types names at rest

  pub value_types : (Path → Named) → Position → Branches → List (Option ExprType) → List (Option ExprType)
  value_types names at no_branches more = more
  value_types names at (branch c e rest) more = (typing names at e).type ∷ value_types names at rest more

  pub branch_checks : (Path → Named) → Position → Branches → List Check
  branch_checks names at no_branches = []
  branch_checks names at (branch c e rest) =
      (typing names (single at) c).checks ++ (typing names at e).checks ++ branch_checks names at rest

  pub tree_types : (Path → Named) → Position → Trees → List (Option ExprType)
  tree_types names at no_trees = []
  tree_types names at (tree e es) = (typing names at e).type ∷ tree_types names at es

  pub tree_checks : (Path → Named) → Position → Trees → List Check
  tree_checks names at no_trees = []
  tree_checks names at (tree e es) = (typing names at e).checks ++ tree_checks names at es

-- the checks of a declared type
abbrev pub domain_checks : Place → PlainDomain → List Check
domain_checks p d =
    check 16 p (is_unmixed d) ∷ check 17 p (on_type (domain_type d) in_limit) ∷ check 25 p (has_width d) ∷ check 26 p (has_order d) ∷ []

-- the type of a variable, where its declared type passes its checks
abbrev pub variable_type : PlainDomain → Option ExprType
variable_type d =
    if is_unmixed d && on_type (domain_type d) in_limit && has_width d && has_order d then domain_type d else None

-- the refusal is that of the first check that fails; of running out of memory nothing is said
abbrev pub IsBad : End → Option Refusal → Type 0
IsBad (Bad why) found = found ≡ Some why
IsBad NoMemory found = Unit {0}
