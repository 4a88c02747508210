-- The width of the integers of an expression by the types of its parts, and that its flat form has the same.
use Rattle.std.specs.Prelude.{◌≡◌, ℕ, ◌++◌, max, Bool, true, false, ◌&&◌, if◌then◌else◌, List, [], ◌∷◌, map, flat_map}
use Rattle.text_core.specs.declared.place.Place.{Place}
use Rattle.smv_text.specs.declared.token.Token.{Token}
use Rattle.smv_text.specs.declared.tree.Path.{Path}
use Rattle.smv_text.specs.declared.tree.Parameter.{Parameter}
use Rattle.smv_text.specs.Tree.{Tree, truth, number, literal, name, prefix, chain, choice, cases, select, call, next, set, range, Links, no_links, link, Branches, no_branches, branch, Trees, no_trees, tree, PlainElement, vars, defines, constants, assigns, init, trans, invar, spec, PlainSource}
use Rattle.smv_text.specs.Sources.{SpellsSource}
use Rattle.smv_meaning.specs.Expressions.{is_from_right}
use Rattle.smv_meaning.specs.Instances.{Instance, instances_of}
use Rattle.smv_meaning.specs.Names.{parent_of}
use Rattle.smv_meaning.specs.Checks.{Position, Named, Typing, single, under_next, across, behind, front, typing, passes, variable_type}
use Rattle.smv_meaning.specs.Naming.{in_body}
use Rattle.smv_meaning.specs.Phases.{in_state, in_step, in_assignment, over_instances, IsAccepted}
use Rattle.smv_meaning.specs.Settled.{types_in}
use Rattle.smv_items.specs.FlatItems.{Leaf}
use Rattle.smv_flat.specs.FlatTree.{flat_tree}
use Rattle.smv_flat.specs.FlatForms.{flat_smv}
use Rattle.smv_flat.specs.FlatWidth.{node_width, operand_width, arguments_width, tree_width, width_of}

-- The greatest width of an integer's interval among its subexpressions, and among the fronts of its chains that are read from the
-- left; shift amounts and arguments that are numbers don't count.
abbrev mutual
  pub expression_width : (Path → Named) → Position → Tree → ℕ
  expression_width names at (truth p b) = node_width (typing names at (truth p b)).type
  expression_width names at (number p n) = node_width (typing names at (number p n)).type
  expression_width names at (literal p w) = node_width (typing names at (literal p w)).type
  expression_width names at (name p x) = node_width (typing names at (name p x)).type
  expression_width names at (prefix p sign n e) = max (node_width (typing names at (prefix p sign n e)).type) (expression_width names (single at) e)
  expression_width names at (chain p e ls) =
      max (node_width (typing names at (chain p e ls)).type)
      (if is_from_right ls
      then max (expression_width names (single at) e) (implied_width names (single at) ls)
      else max (expression_width names (across ls at) e) (fronts_width names (across ls at) p (typing names (across ls at) e) ls))
  expression_width names at (choice p bs e) =
      max (node_width (typing names at (choice p bs e)).type) (max (branch_width names at bs) (expression_width names at e))
  expression_width names at (cases p bs) = max (node_width (typing names at (cases p bs)).type) (branch_width names at bs)
  expression_width names at (select p e high low) = max (node_width (typing names at (select p e high low)).type) (expression_width names (single at) e)
  expression_width names at (call p f es) =
      max (node_width (typing names at (call p f es)).type) (arguments_width f (front_width names (single at) es) (part_width names (single at) es))
  expression_width names at (next p e) = max (node_width (typing names at (next p e)).type) (expression_width names under_next e)
  expression_width names at (set p es) = max (node_width (typing names at (set p es)).type) (part_width names at es)
  expression_width names at (range p low high) = node_width (typing names at (range p low high)).type

  -- the operands behind `->`
  pub implied_width : (Path → Named) → Position → Links → ℕ
  implied_width names at no_links = 0
  implied_width names at (link op e ls) = max (expression_width names at e) (implied_width names at ls)

  -- the operands and the fronts that end with them, given what is before
  pub fronts_width : (Path → Named) → Position → Place → Typing → Links → ℕ
  fronts_width names at p a no_links = 0
  fronts_width names at p a (link op e ls) =
      let whole = front op at p a (typing names (behind op at) e) e in
      max (max (operand_width op (expression_width names (behind op at) e)) (node_width whole.type)) (fronts_width names at p whole ls)

  pub branch_width : (Path → Named) → Position → Branches → ℕ
  branch_width names at no_branches = 0
  branch_width names at (branch c e rest) = max (max (expression_width names (single at) c) (expression_width names at e)) (branch_width names at rest)

  pub part_width : (Path → Named) → Position → Trees → ℕ
  part_width names at no_trees = 0
  part_width names at (tree e es) = max (expression_width names at e) (part_width names at es)

  pub front_width : (Path → Named) → Position → Trees → ℕ
  front_width names at no_trees = 0
  front_width names at (tree e es) = expression_width names at e

-- each chain has an operator, as each that is spelled has
abbrev pub has_link : Links → Bool
has_link no_links = false
has_link (link op e ls) = true

abbrev mutual
  pub has_operators : Tree → Bool
  has_operators (prefix p sign n e) = has_operators e
  has_operators (chain p e ls) = has_link ls && (has_operators e && link_operators ls)
  has_operators (choice p bs e) = branch_operators bs && has_operators e
  has_operators (cases p bs) = branch_operators bs
  has_operators (select p e high low) = has_operators e
  has_operators (call p f es) = part_operators es
  has_operators (next p e) = has_operators e
  has_operators (set p es) = part_operators es
  has_operators e = true

  pub link_operators : Links → Bool
  link_operators no_links = true
  link_operators (link op e ls) = has_operators e && link_operators ls

  pub branch_operators : Branches → Bool
  branch_operators no_branches = true
  branch_operators (branch c e rest) = has_operators c && (has_operators e && branch_operators rest)

  pub part_operators : Trees → Bool
  part_operators no_trees = true
  part_operators (tree e es) = has_operators e && part_operators es

abbrev pub SameWidth : Type 0
SameWidth = (names : Path → Named) (leaf : Path → Leaf) (at : Position) (under : Bool) (e : Tree) → has_operators e ≡ true
    → passes (typing names at e).checks ≡ true → tree_width (flat_tree names leaf at under e) ≡ expression_width names at e

-- ---- a model

abbrev pub greatest : List ℕ → ℕ
greatest [] = 0
greatest (n ∷ ns) = max n (greatest ns)

-- given what the names of its instance are: variables count by their types
abbrev pub element_widths : (Path → Named) → PlainElement → List ℕ
element_widths names (vars kind items) = map (λ v. node_width (variable_type v.domain)) items
element_widths names (defines ds) = map (λ d. expression_width names in_body d.body) ds
element_widths names (constants cs) = []
element_widths names (assigns xs) = map (λ a. expression_width names (in_assignment a.when) a.body) xs
element_widths names (init e) = expression_width names in_state e ∷ []
element_widths names (trans e) = expression_width names in_step e ∷ []
element_widths names (invar e) = expression_width names in_state e ∷ []
element_widths names (spec label e) = expression_width names in_state e ∷ []

-- an actual that is a path counts where that leads
abbrev pub actual_width : (Path → Named) → Tree → List ℕ
actual_width names (name p x) = []
actual_width names e = expression_width names in_body e ∷ []

abbrev pub actual_widths : (Path → Named) → List Parameter → Trees → List ℕ
actual_widths names [] es = []
actual_widths names (q ∷ qs) no_trees = []
actual_widths names (q ∷ qs) (tree e es) = actual_width names e ++ actual_widths names qs es

abbrev pub instance_widths : List Instance → ℕ → Instance → List ℕ
instance_widths t i at = actual_widths (types_in true t (parent_of at)) at.module.parameters at.actuals ++ flat_map (element_widths (types_in true t i)) at.module.elements

-- the greatest width of an integer's interval among the types and the expressions of a model
abbrev pub model_width : List Instance → ℕ
model_width t = max 1 (greatest (over_instances (instance_widths t) 0 t))

abbrev pub SameModelWidth : Type 0
SameModelWidth = (source : PlainSource) (end : Place) (xs : List Token) → SpellsSource source end xs → (needed : ℕ) → IsAccepted source needed
    → width_of (flat_smv source) ≡ model_width (instances_of source)
