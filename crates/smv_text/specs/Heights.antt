-- How high an expression is: how many levels of nodes stand over one another where chains are folded (the rule is our own).
use Rattle.std.specs.Prelude.{ℕ, suc, ◌+◌, max, Bool, true, false, nat_eq, nat_le, nat_lt, ◌&&◌, if◌then◌else◌, Option, Some, None, List, [], ◌∷◌, map, flat_map}
use Rattle.std.specs.List.{list_all}
use Rattle.text_core.specs.declared.place.Place.{Place}
use Rattle.smv_text.specs.declared.operators.Infix.{Infix}
use Rattle.smv_text.specs.declared.operators.Infix.TheVariants as infixes
use Rattle.smv_text.specs.Tree.{Tree, truth, number, literal, name, prefix, chain, choice, cases, select, call, next, set, range, Links, no_links, link, Branches, no_branches, branch, Trees, no_trees, tree, PlainDomain, instance, PlainItem, PlainDefinition, PlainAssignment, PlainElement, vars, defines, constants, assigns, init, trans, invar, spec, PlainModule}

-- the operators of which a chain, where it has no others, is one node, by numbers; 0 for any other
abbrev pub joined_number : Infix → ℕ
joined_number infixes.And = 1
joined_number infixes.Or = 2
joined_number infixes.Xor = 3
joined_number infixes.Plus = 4
joined_number infixes.Times = 5
joined_number infixes.Union = 6
joined_number _ = 0

-- all operators are the same one of these
abbrev pub is_joined : List (Infix × ℕ) → Bool
is_joined [] = true
is_joined (l ∷ ls) = nat_lt 0 (joined_number l.0) && list_all (λ m. nat_eq (joined_number m.0) (joined_number l.0)) ls

-- the chain is one of implications, which is folded from the right
abbrev pub is_implied : List (Infix × ℕ) → Bool
is_implied ((infixes.Implies, n) ∷ ls) = true
is_implied _ = false

-- each operator joins what is before it to the next operand
abbrev pub folded : ℕ → List (Infix × ℕ) → ℕ
folded n [] = n
folded n (l ∷ ls) = folded (suc (max n l.1)) ls

-- each operator joins an operand to what is behind it
abbrev pub folded_right : ℕ → List (Infix × ℕ) → ℕ
folded_right n [] = n
folded_right n (l ∷ ls) = suc (max n (folded_right l.1 ls))

-- the greatest of these
abbrev pub highest : List ℕ → ℕ
highest [] = 0
highest (n ∷ ns) = max n (highest ns)

-- the height of a chain, by the heights of its operands
abbrev pub chain_height : ℕ → List (Infix × ℕ) → ℕ
chain_height n ls = if is_joined ls then suc (max n (highest (map (λ l. l.1) ls))) else (if is_implied ls then folded_right n ls else folded n ls)

-- Branch number i, from 1, stands under i levels, and what is behind the last one under as many as there are branches.
abbrev pub branches_height : List (ℕ × ℕ) → ℕ → ℕ
branches_height [] n = n
branches_height (b ∷ bs) n = suc (max (max b.0 b.1) (branches_height bs n))

abbrev mutual
  -- a leaf has 1; a repeated sign adds each time it stands
  pub height : Tree → ℕ
  height (truth p b) = 1
  height (number p n) = 1
  height (literal p w) = 1
  height (name p path) = 1
  height (range p low high) = 1
  height (prefix p sign n t) = n + height t
  height (chain p t ls) = chain_height (height t) (link_heights ls)
  height (choice p bs t) = branches_height (branch_heights bs) (height t)
  height (cases p bs) = branches_height (branch_heights bs) 0
  height (select p t high low) = suc (height t)
  height (call p f ts) = suc (highest (heights ts))
  height (next p t) = suc (height t)
  height (set p ts) = suc (highest (heights ts))

  pub link_heights : Links → List (Infix × ℕ)
  link_heights no_links = []
  link_heights (link op t ls) = (op, height t) ∷ link_heights ls

  pub branch_heights : Branches → List (ℕ × ℕ)
  branch_heights no_branches = []
  branch_heights (branch w v bs) = (height w, height v) ∷ branch_heights bs

  pub heights : Trees → List ℕ
  heights no_trees = []
  heights (tree t ts) = height t ∷ heights ts

-- the most that an expression may have
abbrev pub most_height : ℕ
most_height = 380

-- the place of an expression
abbrev pub place_of : Tree → Place
place_of (truth p b) = p
place_of (number p n) = p
place_of (literal p w) = p
place_of (name p path) = p
place_of (prefix p sign n t) = p
place_of (chain p t ls) = p
place_of (choice p bs t) = p
place_of (cases p bs) = p
place_of (select p t high low) = p
place_of (call p f ts) = p
place_of (next p t) = p
place_of (set p ts) = p
place_of (range p low high) = p

-- the place of the first of these that is higher
abbrev pub first_high : List Tree → Option Place
first_high [] = None
first_high (t ∷ ts) = if nat_le (height t) most_height then first_high ts else Some (place_of t)

abbrev pub list_of : Trees → List Tree
list_of no_trees = []
list_of (tree t ts) = t ∷ list_of ts

-- the expressions of a model that are part of no other, in the order of the text
abbrev pub of_domain : PlainDomain → List Tree
of_domain (instance n ts) = list_of ts
of_domain _ = []

abbrev pub of_items : List PlainItem → List Tree
of_items is = flat_map (λ i. of_domain i.domain) is

abbrev pub of_definitions : List PlainDefinition → List Tree
of_definitions ds = map (λ d. d.body) ds

abbrev pub of_assignments : List PlainAssignment → List Tree
of_assignments rest = map (λ a. a.body) rest

abbrev pub of_element : PlainElement → List Tree
of_element (vars k is) = of_items is
of_element (defines ds) = of_definitions ds
of_element (constants ns) = []
of_element (assigns rest) = of_assignments rest
of_element (init t) = t ∷ []
of_element (trans t) = t ∷ []
of_element (invar t) = t ∷ []
of_element (spec o t) = t ∷ []

abbrev pub of_modules : List PlainModule → List Tree
of_modules ms = flat_map (λ m. flat_map of_element m.elements) ms
