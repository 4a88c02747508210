-- What an expression denotes, given the values of its names (NuSMV 2.6 User Manual, 2.2): nothing here knows of instances.
use Rattle.std.specs.Prelude.{Bool, true, false, ◌&&◌, ◌||◌, if◌then◌else◌, pos, List, [], ◌∷◌}
use Rattle.smv_text.specs.declared.tree.Path.{Path}
use Rattle.smv_text.specs.declared.operators.Infix.{Infix}
use Rattle.smv_text.specs.declared.operators.Infix.TheVariants.{Implies, Member, Union}
use Rattle.smv_text.specs.Tree.{Tree, truth, number, literal, name, prefix, chain, choice, cases, select, call, next, set, range, Links, no_links, link, Branches, no_branches, branch, Trees, no_trees, tree}
use Rattle.smv_meaning.specs.declared.value.Value.{Value}
use Rattle.smv_meaning.specs.declared.value.Value.TheVariants.{Truth, Integer, Bits}
use Rattle.smv_meaning.specs.Values.{no_value, is_true, value_same, is_between}
use Rattle.smv_meaning.specs.Operators.{implied, applied, signed, selected, called}

-- an expression's value, and which values it permits: a set permits the values of its parts, any other expression its value
pub record Denotation : Type 0 where
  pub value : Value
  pub permits : Value → Bool

abbrev pub alone : Value → Denotation
alone v = record { value = v; permits = value_same v }

abbrev pub set_of : (Value → Bool) → Denotation
set_of permits = record { value = no_value; permits = permits }

-- an operator between two expressions: `in` asks whether the right one permits the left one's value, `union` joins sets
abbrev pub joined : Infix → Denotation → Denotation → Denotation
joined Member a b = alone (Truth (b.permits a.value))
joined Union a b = set_of (λ v. a.permits v || b.permits v)
joined op a b = alone (applied op a.value b.value)

-- `->` is read from the right, every other chain from the left
abbrev pub is_implies : Infix → Bool
is_implies Implies = true
is_implies op = false

abbrev pub are_implies : Links → Bool
are_implies no_links = true
are_implies (link op e ls) = is_implies op && are_implies ls

abbrev pub is_from_right : Links → Bool
is_from_right no_links = false
is_from_right (link op e ls) = is_implies op && are_implies ls

abbrev pub is_last : Branches → Bool
is_last no_branches = true
is_last (branch c v rest) = false

-- the names' values in this state, and in the following one
abbrev mutual
  pub denote : (Path → Value) → (Path → Value) → Tree → Denotation
  denote now later (truth p b) = alone (Truth b)
  denote now later (number p n) = alone (Integer (pos n))
  denote now later (literal p w) = alone (Bits w)
  denote now later (name p x) = alone (now x)
  denote now later (prefix p sign n e) = alone (signed sign n (denote now later e).value)
  denote now later (chain p e ls) =
      if is_from_right ls then alone (implications now later (denote now later e).value ls) else linked now later (denote now later e) ls
  denote now later (choice p bs e) = chosen now later bs (denote now later e)
  denote now later (cases p bs) = taken now later bs
  denote now later (select p e high low) = alone (selected high low (denote now later e).value)
  denote now later (call p f es) = alone (called f (values_of now later es))
  denote now later (next p e) = denote later later e
  denote now later (set p es) = set_of (one_permits now later es)
  denote now later (range p low high) = set_of (is_between low high)

  -- the value with the implications that follow it
  pub implications : (Path → Value) → (Path → Value) → Value → Links → Value
  implications now later v no_links = v
  implications now later v (link op e ls) = implied v (implications now later (denote now later e).value ls)

  -- the front of a chain with the links that follow it
  pub linked : (Path → Value) → (Path → Value) → Denotation → Links → Denotation
  linked now later d no_links = d
  linked now later d (link op e ls) = linked now later (joined op d (denote now later e)) ls

  -- the first branch whose condition is true, else what is behind the last colon
  pub chosen : (Path → Value) → (Path → Value) → Branches → Denotation → Denotation
  chosen now later no_branches d = d
  chosen now later (branch c e rest) d =
      if is_true (denote now later c).value then denote now later e else chosen now later rest d

  -- the first branch whose condition is true, and the last branch if none is
  pub taken : (Path → Value) → (Path → Value) → Branches → Denotation
  taken now later no_branches = alone no_value
  taken now later (branch c e rest) =
      if is_true (denote now later c).value || is_last rest then denote now later e else taken now later rest

  pub values_of : (Path → Value) → (Path → Value) → Trees → List Value
  values_of now later no_trees = []
  values_of now later (tree e es) = (denote now later e).value ∷ values_of now later es

  pub one_permits : (Path → Value) → (Path → Value) → Trees → Value → Bool
  one_permits now later no_trees v = false
  one_permits now later (tree e es) v = (denote now later e).permits v || one_permits now later es v

-- the paths of an expression, in the order of the text
abbrev mutual
  pub paths_of : Tree → List Path → List Path
  paths_of (truth p b) more = more
  paths_of (number p n) more = more
  paths_of (literal p w) more = more
  paths_of (name p x) more = x ∷ more
  paths_of (prefix p sign n e) more = paths_of e more
  paths_of (chain p e ls) more = paths_of e (link_paths ls more)
  paths_of (choice p bs e) more = branch_paths bs (paths_of e more)
  paths_of (cases p bs) more = branch_paths bs more
  paths_of (select p e high low) more = paths_of e more
  paths_of (call p f es) more = tree_paths es more
  paths_of (next p e) more = paths_of e more
  paths_of (set p es) more = tree_paths es more
  paths_of (range p low high) more = more

  pub link_paths : Links → List Path → List Path
  link_paths no_links more = more
  link_paths (link op e ls) more = paths_of e (link_paths ls more)

  pub branch_paths : Branches → List Path → List Path
  branch_paths no_branches more = more
  branch_paths (branch c e rest) more = paths_of c (paths_of e (branch_paths rest more))

  pub tree_paths : Trees → List Path → List Path
  tree_paths no_trees more = more
  tree_paths (tree e es) more = paths_of e (tree_paths es more)
