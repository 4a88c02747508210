-- The expressions of an instance, and the parts of an expression.
use Rattle.std.specs.Prelude.{◌≡◌, ◌⊎◌, ℕ, List, [], ◌∷◌, Option, Some, None, slice_get, flat_map}
use Rattle.smv_text.specs.Tree.{Tree, truth, number, literal, name, prefix, chain, choice, cases, select, call, next, set, range, Links, no_links, link, Branches, no_branches, branch, Trees, no_trees, tree, PlainElement, vars, defines, constants, assigns, init, trans, invar, spec}
use Rattle.smv_text.specs.Heights.{of_definitions, of_assignments}
use Rattle.smv_meaning.specs.Instances.{Instance}
use Rattle.smv_meaning.specs.Names.{parent_of}

-- the first expression is the second one or stands inside it
abbrev mutual
  pub IsPart : Tree → Tree → Type 0
  IsPart e (truth p b) = e ≡ truth p b
  IsPart e (number p n) = e ≡ number p n
  IsPart e (literal p w) = e ≡ literal p w
  IsPart e (name p x) = e ≡ name p x
  IsPart e (prefix p sign n x) = (e ≡ prefix p sign n x) ⊎ IsPart e x
  IsPart e (chain p x ls) = (e ≡ chain p x ls) ⊎ (IsPart e x ⊎ InLinks e ls)
  IsPart e (choice p bs x) = (e ≡ choice p bs x) ⊎ (InBranches e bs ⊎ IsPart e x)
  IsPart e (cases p bs) = (e ≡ cases p bs) ⊎ InBranches e bs
  IsPart e (select p x high low) = (e ≡ select p x high low) ⊎ IsPart e x
  IsPart e (call p f xs) = (e ≡ call p f xs) ⊎ InTrees e xs
  IsPart e (next p x) = (e ≡ next p x) ⊎ IsPart e x
  IsPart e (set p xs) = (e ≡ set p xs) ⊎ InTrees e xs
  IsPart e (range p low high) = e ≡ range p low high

  pub InLinks : Tree → Links → Type 0
  InLinks e no_links = ⊥
  InLinks e (link op x ls) = IsPart e x ⊎ InLinks e ls

  pub InBranches : Tree → Branches → Type 0
  InBranches e no_branches = ⊥
  InBranches e (branch c x rest) = IsPart e c ⊎ (IsPart e x ⊎ InBranches e rest)

  pub InTrees : Tree → Trees → Type 0
  InTrees e no_trees = ⊥
  InTrees e (tree x xs) = IsPart e x ⊎ InTrees e xs

-- it is part of one of these
abbrev pub InOne : Tree → List Tree → Type 0
InOne e [] = ⊥
InOne e (x ∷ xs) = IsPart e x ⊎ InOne e xs

-- the expressions of an element; the actuals of instances that it declares stand with these
abbrev pub expressions_in : PlainElement → List Tree
expressions_in (vars kind items) = []
expressions_in (defines ds) = of_definitions ds
expressions_in (constants names) = []
expressions_in (assigns xs) = of_assignments xs
expressions_in (init e) = e ∷ []
expressions_in (trans e) = e ∷ []
expressions_in (invar e) = e ∷ []
expressions_in (spec label e) = e ∷ []

abbrev pub InElements : Tree → Option Instance → Type 0
InElements e None = ⊥
InElements e (Some at) = InOne e (flat_map expressions_in at.module.elements)

-- in an actual that is read in the numbered instance
abbrev pub InActuals : ℕ → Tree → List Instance → Type 0
InActuals i e [] = ⊥
InActuals i e (at ∷ t) = ((parent_of at ≡ i) × InTrees e at.actuals) ⊎ InActuals i e t

-- the expression is one of the numbered instance, or part of one
abbrev pub OccursIn : List Instance → ℕ → Tree → Type 0
OccursIn t i e = InElements e (slice_get t i) ⊎ InActuals i e t
