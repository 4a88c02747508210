-- What flat expressions of the code stand for, and what their checks come to.
use Rattle.std.specs.Prelude.{◌≡◌, Bool, ◌||◌, true, false, [], map, Option, None, option_map, Result, Ok, Err}
use Rattle.text_core.specs.declared.end.End.{End}
use Rattle.text_core.specs.declared.end.End.TheVariants.{NoMemory}
use Rattle.text_core.specs.declared.place.Place.{Place}
use Rattle.smv_text.specs.declared.operators.Infix.{Infix}
use Rattle.smv_text.specs.declared.tree.Path.{Path}
use Rattle.smv_text.specs.Tree.{Tree, choice, Links, no_links, link, Branches}
use Rattle.smv_meaning.specs.Types.{ExprType}
use Rattle.smv_meaning.specs.Checks.{Position, Named, Typing, single, branch_checks, condition_types, value_types, first_failing, typing, IsBad}
use Rattle.smv_intervals.specs.declared.types.Ty.{Ty}
use Rattle.smv_intervals.specs.View.{seen}
use Rattle.smv_types.specs.Outcome.{outcome}
use Rattle.smv_items.specs.FlatItems.{Leaf}
use Rattle.smv_flat.specs.declared.expressions.FlatExpr.{FlatExpr, FlatExpr-F, fold-FlatExpr}
use Rattle.smv_flat.specs.declared.expressions.FlatBranch.{FlatBranch, FlatBranch-F, fold-FlatBranch}
use Rattle.smv_flat.specs.declared.expressions.FlatLink.{FlatLink, FlatLink-F, fold-FlatLink}
use Rattle.smv_flat.specs.declared.expressions.FlatShape.{FlatShape, FlatShape-F, fold-FlatShape}
use Rattle.smv_flat.specs.declared.nodes.Typed.{Typed}
use Rattle.smv_flat.specs.declared.nodes.Rest.{Rest}
use Rattle.smv_flat.specs.declared.nodes.Cases.{Cases}
use Rattle.smv_flat.specs.FlatTree.{FlatTree, flat_truth, flat_number, flat_literal, flat_symbol, flat_item, flat_prefix, flat_chain, flat_choice, flat_cases, flat_select, flat_call, flat_set, flat_range, FlatLinks, no_flat_links, flat_link, flat_links_of, flat_branches_of, flat_trees_of, unless_set, is_set, has_set, reaches, branches_reach, flat_tree, flat_branches}

-- one level each; a shape still wants its type
abbrev pub flat_shape_step : FlatShape-F (Option ExprType → FlatTree) (FlatTree × FlatTree) FlatTree (Infix × FlatTree) → Option ExprType → FlatTree
flat_shape_step FlatShape-F.True t = flat_truth t true
flat_shape_step FlatShape-F.False t = flat_truth t false
flat_shape_step (FlatShape-F.Number n) t = flat_number t n
flat_shape_step (FlatShape-F.Literal w) t = flat_literal t w
flat_shape_step (FlatShape-F.Symbol s) t = flat_symbol t s
flat_shape_step (FlatShape-F.Item k under) t = flat_item t k under
flat_shape_step (FlatShape-F.Prefix sign n e) t = flat_prefix t sign n e.value
flat_shape_step (FlatShape-F.Chain e ls) t = flat_chain t e.value (flat_links_of ls.items)
flat_shape_step (FlatShape-F.Choice bs e) t = flat_choice t (flat_branches_of bs.items) e.value
flat_shape_step (FlatShape-F.Case bs) t = flat_cases t (flat_branches_of bs.items)
flat_shape_step (FlatShape-F.Select e high low) t = flat_select t e.value high low
flat_shape_step (FlatShape-F.Call f es) t = flat_call t f (flat_trees_of es.items)
flat_shape_step (FlatShape-F.Set es) t = flat_set t (flat_trees_of es.items)
flat_shape_step (FlatShape-F.Range low high) t = flat_range t low high

abbrev pub flat_expr_step : FlatExpr-F (Option ExprType → FlatTree) (FlatTree × FlatTree) FlatTree (Infix × FlatTree) → FlatTree
flat_expr_step e = e.shape (option_map seen e.ty)

abbrev pub flat_link_step : FlatLink-F (Option ExprType → FlatTree) (FlatTree × FlatTree) FlatTree (Infix × FlatTree) → Infix × FlatTree
flat_link_step l = (l.op, l.operand)

abbrev pub flat_branch_step : FlatBranch-F (Option ExprType → FlatTree) (FlatTree × FlatTree) FlatTree (Infix × FlatTree) → FlatTree × FlatTree
flat_branch_step b = (b.when, b.value)

abbrev pub plain_flat : FlatExpr → FlatTree
plain_flat = fold-FlatExpr (Option ExprType → FlatTree) (FlatTree × FlatTree) FlatTree (Infix × FlatTree) flat_shape_step flat_branch_step flat_expr_step flat_link_step

abbrev pub plain_flat_link : FlatLink → Infix × FlatTree
plain_flat_link = fold-FlatLink (Option ExprType → FlatTree) (FlatTree × FlatTree) FlatTree (Infix × FlatTree) flat_shape_step flat_branch_step flat_expr_step flat_link_step

abbrev pub plain_flat_branch : FlatBranch → FlatTree × FlatTree
plain_flat_branch = fold-FlatBranch (Option ExprType → FlatTree) (FlatTree × FlatTree) FlatTree (Infix × FlatTree) flat_shape_step flat_branch_step flat_expr_step flat_link_step

abbrev pub plain_shape : FlatShape → Option ExprType → FlatTree
plain_shape = fold-FlatShape (Option ExprType → FlatTree) (FlatTree × FlatTree) FlatTree (Infix × FlatTree) flat_shape_step flat_branch_step flat_expr_step flat_link_step

-- ---- results of checks

-- the same result, with a type in place of what has it
abbrev pub mapped : {X : Type 0} → (X → Option Ty) → Result X End → Result (Option Ty) End
mapped f (Ok x) = Ok (f x)
mapped f (Err e) = Err e

abbrev pub type_of_rest : Rest → Option Ty
type_of_rest r = r.ty

-- the node of this shape, where its checks have the result; a set stores no type
abbrev pub IsNodeOf : FlatShape → Result (Option Ty) End → Bool → Bool → Result Typed End → Type 0
IsNodeOf shape ty set inputs (Ok x) =
    (ty ≡ Ok x.ty) × (plain_flat x.expr ≡ plain_shape shape (unless_set set (option_map seen x.ty))) × (x.is_set ≡ set) × (x.reaches_input ≡ inputs)
IsNodeOf shape ty set inputs (Err e) = ty ≡ Err e

-- the same node with another type
abbrev pub IsRetyped : Typed → Result (Option Ty) End → Result Typed End → Type 0
IsRetyped x ty (Ok y) = (ty ≡ Ok y.ty) × (y.expr ≡ x.expr) × (y.is_set ≡ x.is_set) × (y.reaches_input ≡ x.reaches_input)
IsRetyped x ty (Err e) = ty ≡ Err e

-- the node of a chain, given its first operand and the rest of it
abbrev pub IsChained : Typed → Rest → Bool → Result Typed End → Type 0
IsChained first rest set (Ok x) =
    (x.ty ≡ rest.ty)
    × (plain_flat x.expr ≡ flat_chain (unless_set set (option_map seen rest.ty)) (plain_flat first.expr) (flat_links_of (map plain_flat_link rest.links.items)))
    × (x.is_set ≡ set) × (x.reaches_input ≡ (first.reaches_input || rest.reaches_input))
IsChained first rest set (Err e) = e ≡ NoMemory

-- the checks pass with this type, and the node has this form, is a set or not, and reaches an input or not; or the first check
-- that fails refuses
abbrev pub EndsAs : Typing → FlatTree → Bool → Bool → Result Typed End → Type 0
EndsAs t tree set inputs (Ok x) = (outcome t ≡ Ok (option_map seen x.ty)) × (plain_flat x.expr ≡ tree) × (x.is_set ≡ set) × (x.reaches_input ≡ inputs)
EndsAs t tree set inputs (Err e) = IsBad e (first_failing t.checks)

-- ---- expressions, given what names are to the types and what they become, where the expression stands, and whether that is
-- under `next`

abbrev pub EndsTyped : (Path → Named) → (Path → Leaf) → Position → Bool → Tree → Result Typed End → Type 0
EndsTyped names leaf at under e r = EndsAs (typing names at e) (flat_tree names leaf at under e) (is_set e) (reaches names e) r

-- the branches pass their checks, and have these types and this form
pub record AreCases (names : Path → Named) (leaf : Path → Leaf) (at : Position) (under : Bool) (bs : Branches) (x : Cases) : Type 0 where
  pub passes : first_failing (branch_checks names at bs) ≡ None
  pub conditions : map (option_map seen) x.types.conditions.items ≡ condition_types names (single at) bs
  pub values : map (option_map seen) x.types.values.items ≡ value_types names at bs []
  pub branches : flat_branches_of (map plain_flat_branch x.branches.items) ≡ flat_branches names leaf at under bs
  pub set : x.has_set ≡ has_set bs
  pub inputs : x.reaches_input ≡ branches_reach names bs

-- a choice whose branches pass their checks and have this form
abbrev pub MakesChoice : (Path → Named) → (Path → Leaf) → Position → Bool → Place → Cases → Tree → Result Typed End → Type 0
MakesChoice names leaf at under p cases last r = (bs : Branches) → AreCases names leaf at under bs cases → EndsTyped names leaf at under (choice p bs last) r

-- the operands of a chain, each at the same position
abbrev pub links_at : (Path → Named) → (Path → Leaf) → Position → Bool → Links → FlatLinks
links_at names leaf at under no_links = no_flat_links
links_at names leaf at under (link op e ls) = flat_link op (flat_tree names leaf at under e) (links_at names leaf at under ls)
