-- The flat form of an expression: numbers of items and of symbols in place of paths, and the type of each node. What it denotes
-- hangs on the values of items alone (NuSMV 2.6 User Manual, 2.2).
use Rattle.std.specs.Prelude.{ℕ, ℤ, pos, Bool, true, false, ◌&&◌, ◌||◌, if◌then◌else◌, List, [], ◌∷◌, Option, None}
use Rattle.word_core.specs.Words.{BitVector}
use Rattle.smv_text.specs.declared.tree.Path.{Path}
use Rattle.smv_text.specs.declared.operators.Prefix.{Prefix}
use Rattle.smv_text.specs.declared.operators.Infix.{Infix}
use Rattle.smv_text.specs.declared.operators.Function.{Function}
use Rattle.smv_text.specs.Tree.{Tree, truth, number, literal, name, prefix, chain, choice, cases, select, call, next, set, range, Links, no_links, link, Branches, no_branches, branch, Trees, no_trees, tree}
use Rattle.smv_meaning.specs.declared.value.Value.{Value}
use Rattle.smv_meaning.specs.declared.value.Value.TheVariants.{Truth, Integer, Bits}
use Rattle.smv_meaning.specs.Values.{no_value, is_true, is_between}
use Rattle.smv_meaning.specs.Operators.{implied, signed, selected, called}
use Rattle.smv_meaning.specs.Expressions.{Denotation, alone, set_of, joined, is_implies}
use Rattle.smv_meaning.specs.Types.{ExprType}
use Rattle.smv_meaning.specs.Checks.{Position, Named, single, under_next, across, behind, are_unions, typing}
use Rattle.smv_items.specs.FlatItems.{Leaf, of_item, of_symbol, of_nothing}

-- each node begins with its type, which a set has none of
mutual
  pub data FlatTree : Type 0 where
    flat_truth : Option ExprType → Bool → FlatTree
    flat_number : Option ExprType → ℕ → FlatTree
    flat_literal : Option ExprType → BitVector → FlatTree
    flat_symbol : Option ExprType → ℕ → FlatTree
    flat_item : Option ExprType → ℕ → Bool → FlatTree  -- and whether it stands under `next`
    flat_prefix : Option ExprType → Prefix → ℕ → FlatTree → FlatTree
    flat_chain : Option ExprType → FlatTree → FlatLinks → FlatTree
    flat_choice : Option ExprType → FlatBranches → FlatTree → FlatTree
    flat_cases : Option ExprType → FlatBranches → FlatTree
    flat_select : Option ExprType → FlatTree → ℕ → ℕ → FlatTree
    flat_call : Option ExprType → Function → FlatTrees → FlatTree
    flat_set : Option ExprType → FlatTrees → FlatTree
    flat_range : Option ExprType → ℤ → ℤ → FlatTree

  pub data FlatLinks : Type 0 where
    no_flat_links : FlatLinks
    flat_link : Infix → FlatTree → FlatLinks → FlatLinks

  pub data FlatBranches : Type 0 where
    no_flat_branches : FlatBranches
    flat_branch : FlatTree → FlatTree → FlatBranches → FlatBranches

  pub data FlatTrees : Type 0 where
    no_flat_trees : FlatTrees
    flat_tree_then : FlatTree → FlatTrees → FlatTrees

abbrev pub flat_links_of : List (Infix × FlatTree) → FlatLinks
flat_links_of [] = no_flat_links
flat_links_of (l ∷ ls) = flat_link l.0 l.1 (flat_links_of ls)

abbrev pub flat_branches_of : List (FlatTree × FlatTree) → FlatBranches
flat_branches_of [] = no_flat_branches
flat_branches_of (b ∷ bs) = flat_branch b.0 b.1 (flat_branches_of bs)

abbrev pub flat_trees_of : List FlatTree → FlatTrees
flat_trees_of [] = no_flat_trees
flat_trees_of (t ∷ ts) = flat_tree_then t (flat_trees_of ts)

-- ---- the flat form of an expression

abbrev pub leaf_tree : Option ExprType → Bool → Leaf → FlatTree
leaf_tree t under (of_item k) = flat_item t k under
leaf_tree t under (of_symbol s) = flat_symbol t s
leaf_tree t under of_nothing = flat_truth t false

-- braces, a range, a union, or a case or choice one of whose branches is such
abbrev mutual
  pub is_set : Tree → Bool
  is_set (chain p e ls) = are_unions ls
  is_set (choice p bs e) = has_set bs || is_set e
  is_set (cases p bs) = has_set bs
  is_set (next p e) = is_set e
  is_set (set p es) = true
  is_set (range p low high) = true
  is_set e = false

  pub has_set : Branches → Bool
  has_set no_branches = false
  has_set (branch c e rest) = is_set e || has_set rest

-- whether one of its paths reaches an input, given what the paths are to the types
abbrev mutual
  pub reaches : (Path → Named) → Tree → Bool
  reaches names (truth p b) = false
  reaches names (number p n) = false
  reaches names (literal p w) = false
  reaches names (name p x) = (names x).reaches_input
  reaches names (prefix p sign n e) = reaches names e
  reaches names (chain p e ls) = reaches names e || links_reach names ls
  reaches names (choice p bs e) = branches_reach names bs || reaches names e
  reaches names (cases p bs) = branches_reach names bs
  reaches names (select p e high low) = reaches names e
  reaches names (call p f es) = trees_reach names es
  reaches names (next p e) = reaches names e
  reaches names (set p es) = trees_reach names es
  reaches names (range p low high) = false

  pub links_reach : (Path → Named) → Links → Bool
  links_reach names no_links = false
  links_reach names (link op e ls) = reaches names e || links_reach names ls

  pub branches_reach : (Path → Named) → Branches → Bool
  branches_reach names no_branches = false
  branches_reach names (branch c e rest) = (reaches names c || reaches names e) || branches_reach names rest

  pub trees_reach : (Path → Named) → Trees → Bool
  trees_reach names no_trees = false
  trees_reach names (tree e es) = reaches names e || trees_reach names es

abbrev pub unless_set : Bool → Option ExprType → Option ExprType
unless_set is_set t = if is_set then None else t

-- given what its names are to the types and what they become, where it is, and whether that is under `next`
abbrev mutual
  pub flat_tree : (Path → Named) → (Path → Leaf) → Position → Bool → Tree → FlatTree
  flat_tree names leaf at under (truth p b) = flat_truth (typing names at (truth p b)).type b
  flat_tree names leaf at under (number p n) = flat_number (typing names at (number p n)).type n
  flat_tree names leaf at under (literal p w) = flat_literal (typing names at (literal p w)).type w
  flat_tree names leaf at under (name p x) = leaf_tree (typing names at (name p x)).type under (leaf x)
  flat_tree names leaf at under (prefix p sign n e) = flat_prefix (typing names at (prefix p sign n e)).type sign n (flat_tree names leaf (single at) under e)
  flat_tree names leaf at under (chain p e ls) =
      flat_chain (unless_set (are_unions ls) (typing names at (chain p e ls)).type)
      (flat_tree names leaf (across ls at) under e) (flat_links names leaf (across ls at) under ls)
  flat_tree names leaf at under (choice p bs e) =
      flat_choice (unless_set (has_set bs || is_set e) (typing names at (choice p bs e)).type) (flat_branches names leaf at under bs) (flat_tree names leaf at under e)
  flat_tree names leaf at under (cases p bs) = flat_cases (unless_set (has_set bs) (typing names at (cases p bs)).type) (flat_branches names leaf at under bs)
  flat_tree names leaf at under (select p e high low) = flat_select (typing names at (select p e high low)).type (flat_tree names leaf (single at) under e) high low
  flat_tree names leaf at under (call p f es) = flat_call (typing names at (call p f es)).type f (flat_trees names leaf (single at) under es)
  flat_tree names leaf at under (next p e) = flat_tree names leaf under_next true e
  flat_tree names leaf at under (set p es) = flat_set None (flat_trees names leaf at under es)
  flat_tree names leaf at under (range p low high) = flat_range None low high

  pub flat_links : (Path → Named) → (Path → Leaf) → Position → Bool → Links → FlatLinks
  flat_links names leaf at under no_links = no_flat_links
  flat_links names leaf at under (link op e ls) = flat_link op (flat_tree names leaf (behind op at) under e) (flat_links names leaf at under ls)

  pub flat_branches : (Path → Named) → (Path → Leaf) → Position → Bool → Branches → FlatBranches
  flat_branches names leaf at under no_branches = no_flat_branches
  flat_branches names leaf at under (branch c e rest) =
      flat_branch (flat_tree names leaf (single at) under c) (flat_tree names leaf at under e) (flat_branches names leaf at under rest)

  pub flat_trees : (Path → Named) → (Path → Leaf) → Position → Bool → Trees → FlatTrees
  flat_trees names leaf at under no_trees = no_flat_trees
  flat_trees names leaf at under (tree e es) = flat_tree_then (flat_tree names leaf at under e) (flat_trees names leaf at under es)

-- ---- what it denotes

abbrev pub flat_are_implies : FlatLinks → Bool
flat_are_implies no_flat_links = true
flat_are_implies (flat_link op e ls) = is_implies op && flat_are_implies ls

abbrev pub flat_from_right : FlatLinks → Bool
flat_from_right no_flat_links = false
flat_from_right (flat_link op e ls) = is_implies op && flat_are_implies ls

abbrev pub flat_is_last : FlatBranches → Bool
flat_is_last no_flat_branches = true
flat_is_last (flat_branch c v rest) = false

-- given the values of symbols, and of items in this state and in the following one
abbrev mutual
  pub flat_denote : (ℕ → Value) → (ℕ → Value) → (ℕ → Value) → FlatTree → Denotation
  flat_denote symbols now later (flat_truth t b) = alone (Truth b)
  flat_denote symbols now later (flat_number t n) = alone (Integer (pos n))
  flat_denote symbols now later (flat_literal t w) = alone (Bits w)
  flat_denote symbols now later (flat_symbol t s) = alone (symbols s)
  flat_denote symbols now later (flat_item t k under) = alone ((if under then later else now) k)
  flat_denote symbols now later (flat_prefix t sign n e) = alone (signed sign n (flat_denote symbols now later e).value)
  flat_denote symbols now later (flat_chain t e ls) =
      if flat_from_right ls
      then alone (flat_implications symbols now later (flat_denote symbols now later e).value ls)
      else flat_linked symbols now later (flat_denote symbols now later e) ls
  flat_denote symbols now later (flat_choice t bs e) = flat_chosen symbols now later bs (flat_denote symbols now later e)
  flat_denote symbols now later (flat_cases t bs) = flat_taken symbols now later bs
  flat_denote symbols now later (flat_select t e high low) = alone (selected high low (flat_denote symbols now later e).value)
  flat_denote symbols now later (flat_call t f es) = alone (called f (flat_values symbols now later es))
  flat_denote symbols now later (flat_set t es) = set_of (flat_permits symbols now later es)
  flat_denote symbols now later (flat_range t low high) = set_of (is_between low high)

  pub flat_implications : (ℕ → Value) → (ℕ → Value) → (ℕ → Value) → Value → FlatLinks → Value
  flat_implications symbols now later v no_flat_links = v
  flat_implications symbols now later v (flat_link op e ls) = implied v (flat_implications symbols now later (flat_denote symbols now later e).value ls)

  pub flat_linked : (ℕ → Value) → (ℕ → Value) → (ℕ → Value) → Denotation → FlatLinks → Denotation
  flat_linked symbols now later d no_flat_links = d
  flat_linked symbols now later d (flat_link op e ls) = flat_linked symbols now later (joined op d (flat_denote symbols now later e)) ls

  pub flat_chosen : (ℕ → Value) → (ℕ → Value) → (ℕ → Value) → FlatBranches → Denotation → Denotation
  flat_chosen symbols now later no_flat_branches d = d
  flat_chosen symbols now later (flat_branch c e rest) d =
      if is_true (flat_denote symbols now later c).value then flat_denote symbols now later e else flat_chosen symbols now later rest d

  pub flat_taken : (ℕ → Value) → (ℕ → Value) → (ℕ → Value) → FlatBranches → Denotation
  flat_taken symbols now later no_flat_branches = alone no_value
  flat_taken symbols now later (flat_branch c e rest) =
      if is_true (flat_denote symbols now later c).value || flat_is_last rest then flat_denote symbols now later e else flat_taken symbols now later rest

  pub flat_values : (ℕ → Value) → (ℕ → Value) → (ℕ → Value) → FlatTrees → List Value
  flat_values symbols now later no_flat_trees = []
  flat_values symbols now later (flat_tree_then e es) = (flat_denote symbols now later e).value ∷ flat_values symbols now later es

  pub flat_permits : (ℕ → Value) → (ℕ → Value) → (ℕ → Value) → FlatTrees → Value → Bool
  flat_permits symbols now later no_flat_trees v = false
  flat_permits symbols now later (flat_tree_then e es) v = (flat_denote symbols now later e).permits v || flat_permits symbols now later es v
