-- The numbers in a flat form are those of items and symbols that are there.
use Rattle.std.proofs.Common.{◌≡◌, ℕ, ◌+◌, ◌≤◌, Bool, true, false, ◌&&◌, nat_lt, IsTrue, List, [], ◌∷◌, ◌++◌, map, length, position, flat_map, Option, Some, None, refl, sym, ◌∙◌, subst, arith}
use Rattle.std.specs.List.{list_all}
use Rattle.std.specs.Str.{bytes_eq}
use Rattle.std.proofs.lemmas.Bool.{lt-ltb}
use Rattle.std.proofs.lemmas.List.{length-append, length-map}
use Rattle.std.proofs.lemmas.List.Folds.{list_all-append}
use Rattle.std.proofs.lemmas.List.Quantifiers.{position-Some}
use Rattle.smv_text.specs.declared.tree.Path.{Path}
use Rattle.smv_text.specs.declared.tree.When.{When}
use Rattle.smv_text.specs.Tree.{Tree, truth, number, literal, name, prefix, chain, choice, cases, select, call, next, set, range, Links, no_links, link, Branches, no_branches, branch, Trees, no_trees, tree, PlainAssignment, PlainElement, vars, defines, constants, assigns, init, trans, invar, spec}
use Rattle.smv_meaning.specs.Instances.{Instance, instances_of}
use Rattle.smv_meaning.specs.Names.{Found, variable_at, body_at, instance_at, symbol_of, cyclic, none, found_in}
use Rattle.smv_meaning.specs.Types.{ExprType}
use Rattle.smv_meaning.specs.Checks.{Position, Named, single, under_next, across, behind}
use Rattle.smv_meaning.specs.Naming.{in_body}
use Rattle.smv_meaning.specs.Phases.{in_state, in_step, in_assignment, over_instances, element_assigns, is_assignable, module_checks, declaration_checks, size_checks, later_checks, assignment_checks}
use Rattle.smv_meaning.specs.Checked.{path_checks_of, type_checks_of}
use Rattle.smv_meaning.specs.Settled.{types_in, cycle_checks_of}
use Rattle.smv_meaning.specs.laws.Booleans.{two_true}
use Rattle.smv_laws.proofs.Typable.{split}
use Rattle.smv_items.specs.FlatItems.{Leaf, of_item, of_symbol, of_nothing, Content, variable, definition, actual, Origin, is_item, item_leaf, symbol_leaf, items_here, origins_of, symbols_of, leaf_found, leaf_in, flat_item_of}
use Rattle.smv_flat.specs.FlatTree.{leaf_tree, flat_tree, flat_links, flat_branches, flat_trees}
use Rattle.smv_flat.specs.FlatForms.{Form, content_form, body_forms, number_or_first, assignment_form, element_forms, forms_here, forms_from, forms_of, flat_in}
use Rattle.smv_flat_laws.specs.FlatBounds.{numbers_lie, links_lie, branches_lie, trees_lie, form_lies, NumbersLie}
use Rattle.smv_flat_laws.proofs.FlatFound.{home_found}
use Rattle.smv_flat_laws.proofs.FlatTruths.{leaf_placed, all_parts, assignable, assigned_here}
use Rattle.smv_flat_laws.proofs.FlatLaw.{all_assignable}

abbrev pub leaf_lies : ℕ → ℕ → Leaf → Bool
leaf_lies items symbols (of_item k) = nat_lt k items
leaf_lies items symbols (of_symbol s) = nat_lt s symbols
leaf_lies items symbols of_nothing = true

leaf_tree_lies : (items symbols : ℕ) (t : Option ExprType) (under : Bool) (l : Leaf) → leaf_lies items symbols l ≡ true → numbers_lie items symbols (leaf_tree t under l) ≡ true
leaf_tree_lies items symbols t under (of_item k) h = h
leaf_tree_lies items symbols t under (of_symbol s) h = h
leaf_tree_lies items symbols t under of_nothing h = refl

-- ---- expressions

mutual
  tree_lies : (items symbols : ℕ) (names : Path → Named) (leaf : Path → Leaf) → ((q : Path) → leaf_lies items symbols (leaf q) ≡ true)
      → (at : Position) (under : Bool) (e : Tree) → numbers_lie items symbols (flat_tree names leaf at under e) ≡ true
  tree_lies items symbols names leaf h at under (truth p b) = refl
  tree_lies items symbols names leaf h at under (number p n) = refl
  tree_lies items symbols names leaf h at under (literal p w) = refl
  tree_lies items symbols names leaf h at under (name p x) = leaf_tree_lies items symbols _ under (leaf x) (h x)
  tree_lies items symbols names leaf h at under (prefix p sign n e) = tree_lies items symbols names leaf h (single at) under e
  tree_lies items symbols names leaf h at under (chain p e ls) =
      two_true _ _ (tree_lies items symbols names leaf h (across ls at) under e) (all_links items symbols names leaf h (across ls at) under ls)
  tree_lies items symbols names leaf h at under (choice p bs e) =
      two_true _ _ (all_branches items symbols names leaf h at under bs) (tree_lies items symbols names leaf h at under e)
  tree_lies items symbols names leaf h at under (cases p bs) = all_branches items symbols names leaf h at under bs
  tree_lies items symbols names leaf h at under (select p e high low) = tree_lies items symbols names leaf h (single at) under e
  tree_lies items symbols names leaf h at under (call p f es) = all_trees items symbols names leaf h (single at) under es
  tree_lies items symbols names leaf h at under (next p e) = tree_lies items symbols names leaf h under_next true e
  tree_lies items symbols names leaf h at under (set p es) = all_trees items symbols names leaf h at under es
  tree_lies items symbols names leaf h at under (range p low high) = refl

  all_links : (items symbols : ℕ) (names : Path → Named) (leaf : Path → Leaf) → ((q : Path) → leaf_lies items symbols (leaf q) ≡ true)
      → (at : Position) (under : Bool) (ls : Links) → links_lie items symbols (flat_links names leaf at under ls) ≡ true
  all_links items symbols names leaf h at under no_links = refl
  all_links items symbols names leaf h at under (link op e ls) =
      two_true _ _ (tree_lies items symbols names leaf h (behind op at) under e) (all_links items symbols names leaf h at under ls)

  all_branches : (items symbols : ℕ) (names : Path → Named) (leaf : Path → Leaf) → ((q : Path) → leaf_lies items symbols (leaf q) ≡ true)
      → (at : Position) (under : Bool) (bs : Branches) → branches_lie items symbols (flat_branches names leaf at under bs) ≡ true
  all_branches items symbols names leaf h at under no_branches = refl
  all_branches items symbols names leaf h at under (branch c e rest) =
      two_true _ _ (tree_lies items symbols names leaf h (single at) under c)
      (two_true _ _ (tree_lies items symbols names leaf h at under e) (all_branches items symbols names leaf h at under rest))

  all_trees : (items symbols : ℕ) (names : Path → Named) (leaf : Path → Leaf) → ((q : Path) → leaf_lies items symbols (leaf q) ≡ true)
      → (at : Position) (under : Bool) (es : Trees) → trees_lie items symbols (flat_trees names leaf at under es) ≡ true
  all_trees items symbols names leaf h at under no_trees = refl
  all_trees items symbols names leaf h at under (tree e es) =
      two_true _ _ (tree_lies items symbols names leaf h at under e) (all_trees items symbols names leaf h at under es)

-- ---- what paths become

place_low : {X : Type 0} (p : X → Bool) (d : X) (xs : List X) (k : ℕ) → position p xs ≡ Some k → nat_lt k (length xs) ≡ true
place_low p d xs k h = lt-ltb k (length xs) (position-Some p xs k d h).0

no_place : {X : Type 0} (p : X → Bool) (k : ℕ) → position p [] ≡ Some k → nat_lt k 0 ≡ true
no_place p k h = cc

places_low : {X : Type 0} (p : X → Bool) (xs : List X) (k : ℕ) → position p xs ≡ Some k → nat_lt k (length xs) ≡ true
places_low p [] k h = no_place p k h
places_low p (x ∷ xs) k h = place_low p x (x ∷ xs) k h

item_lies : (items symbols : ℕ) (o : Option ℕ) → ((k : ℕ) → o ≡ Some k → nat_lt k items ≡ true) → leaf_lies items symbols (item_leaf o) ≡ true
item_lies items symbols None h = refl
item_lies items symbols (Some k) h = h k refl

symbol_lies : (items symbols : ℕ) (o : Option ℕ) → ((k : ℕ) → o ≡ Some k → nat_lt k symbols ≡ true) → leaf_lies items symbols (symbol_leaf o) ≡ true
symbol_lies items symbols None h = refl
symbol_lies items symbols (Some k) h = h k refl

found_lies : (t : List Instance) (m : Found) → leaf_lies (length (origins_of t)) (length (symbols_of t)) (leaf_found t m) ≡ true
found_lies t (variable_at x kind d) = item_lies _ _ (position (is_item t (variable_at x kind d)) (origins_of t)) (places_low (is_item t (variable_at x kind d)) (origins_of t))
found_lies t (body_at i x j e) = item_lies _ _ (position (is_item t (body_at i x j e)) (origins_of t)) (places_low (is_item t (body_at i x j e)) (origins_of t))
found_lies t (symbol_of x) = symbol_lies _ _ (position (bytes_eq x) (symbols_of t)) (places_low (bytes_eq x) (symbols_of t))
found_lies t (instance_at i) = refl
found_lies t cyclic = refl
found_lies t none = refl

expression_lies : (t : List Instance) (i : ℕ) (at : Position) (e : Tree) → numbers_lie (length (origins_of t)) (length (symbols_of t)) (flat_in t i at e) ≡ true
expression_lies t i at e = tree_lies _ _ (types_in true t i) (leaf_in t i) (λ q. found_lies t (found_in t i q)) at false e

target_lies : (t : List Instance) (when : When) (i : ℕ) (q : Path) → is_assignable when (found_in t i q) ≡ true → nat_lt (number_or_first (leaf_in t i q)) (length (origins_of t)) ≡ true
target_lies t when i q h =
    let l = leaf_placed t when (found_in t i q) (home_found t i q) h in
    let low : leaf_lies (length (origins_of t)) (length (symbols_of t)) (of_item l.0) ≡ true = subst (λ m. leaf_lies (length (origins_of t)) (length (symbols_of t)) m ≡ true) l.1 (found_lies t (found_in t i q)) in
    subst (λ m. nat_lt (number_or_first m) (length (origins_of t)) ≡ true) (sym l.1) low

-- ---- formulas

abbrev pub lies_in : List Instance → Form → Bool
lies_in t = form_lies (length (origins_of t)) (length (symbols_of t))

content_lies : (t : List Instance) (k i : ℕ) (c : Content) → nat_lt k (length (origins_of t)) ≡ true → list_all (lies_in t) (content_form t k i c) ≡ true
content_lies t k i (variable kind d) h = refl
content_lies t k i (definition j e) h = two_true _ true (two_true _ _ h (expression_lies t j in_body e)) refl
content_lies t k i (actual j e) h = two_true _ true (two_true _ _ h (expression_lies t j in_body e)) refl

bodies_lie : (t : List Instance) (k : ℕ) (ms : List Origin) → k + length ms ≤ length (origins_of t) → list_all (lies_in t) (body_forms t k ms) ≡ true
bodies_lie t k [] h = refl
bodies_lie t k (m ∷ ms) h =
    list_all-append (lies_in t) (content_form t k m.instance m.content) (body_forms t (k + 1) ms)
    ∙ two_true _ _ (content_lies t k m.instance m.content (lt-ltb k (length (origins_of t)) (omega arith))) (bodies_lie t (k + 1) ms (omega arith))

assignments_lie : (t : List Instance) (i : ℕ) (xs : List PlainAssignment) → list_all assignable (element_assigns (found_in t) i (assigns xs)) ≡ true
    → list_all (lies_in t) (map (assignment_form t i) xs) ≡ true
assignments_lie t i [] h = refl
assignments_lie t i (a ∷ xs) h =
    let s = all_parts assignable (record { when = a.when; target = found_in t i a.target; place = a.target.place } ∷ []) (element_assigns (found_in t) i (assigns xs)) h in
    let own : is_assignable a.when (found_in t i a.target) ≡ true = and_true (is_assignable a.when (found_in t i a.target)) s.0 in
    two_true _ _ (two_true _ _ (target_lies t a.when i a.target own) (expression_lies t i (in_assignment a.when) a.body)) (assignments_lie t i xs s.1)
  where
    and_true : (b : Bool) → (b && true) ≡ true → b ≡ true
    and_true true h = refl
    and_true false h = h

element_lies : (t : List Instance) (i : ℕ) (el : PlainElement) → list_all assignable (element_assigns (found_in t) i el) ≡ true → list_all (lies_in t) (element_forms t i el) ≡ true
element_lies t i (vars kind items) h = refl
element_lies t i (defines ds) h = refl
element_lies t i (constants cs) h = refl
element_lies t i (assigns xs) h = assignments_lie t i xs h
element_lies t i (init e) h = two_true _ true (expression_lies t i in_state e) refl
element_lies t i (trans e) h = two_true _ true (expression_lies t i in_step e) refl
element_lies t i (invar e) h = two_true _ true (expression_lies t i in_state e) refl
element_lies t i (spec l e) h = two_true _ true (expression_lies t i in_state e) refl

elements_lie : (t : List Instance) (i : ℕ) (es : List PlainElement) → list_all assignable (flat_map (element_assigns (found_in t) i) es) ≡ true → list_all (lies_in t) (flat_map (element_forms t i) es) ≡ true
elements_lie t i [] h = refl
elements_lie t i (el ∷ es) h =
    let s = all_parts assignable (element_assigns (found_in t) i el) (flat_map (element_assigns (found_in t) i) es) h in
    list_all-append (lies_in t) (element_forms t i el) (flat_map (element_forms t i) es) ∙ two_true _ _ (element_lies t i el s.0) (elements_lie t i es s.1)

forms_lie : (t : List Instance) (k i : ℕ) (rest : List Instance) → k + length (over_instances items_here i rest) ≤ length (origins_of t) → list_all assignable (over_instances (assigned_here t) i rest) ≡ true
    → list_all (lies_in t) (forms_from t k i rest) ≡ true
forms_lie t k i [] l h = refl
forms_lie t k i (at ∷ rest) l h =
    let more = k + length (items_here i at) in
    let long = length-append (items_here i at) (over_instances items_here (i + 1) rest) in
    let s = all_parts assignable (assigned_here t i at) (over_instances (assigned_here t) (i + 1) rest) h in
    list_all-append (lies_in t) (forms_here t k i at) (forms_from t more (i + 1) rest)
    ∙ two_true _ _
    (list_all-append (lies_in t) (body_forms t k (items_here i at)) (flat_map (element_forms t i) at.module.elements)
    ∙ two_true _ _ (bodies_lie t k (items_here i at) (omega (arith, long, l))) (elements_lie t i at.module.elements s.0))
    (forms_lie t more (i + 1) rest (omega (arith, long, l)) s.1)

pub numbers_lie_law : NumbersLie
numbers_lie_law source needed accepted =
    let t = instances_of source in
    let a = split (module_checks source ++ declaration_checks source.modules t 0 1 t ++ size_checks source ++ later_checks t) _ accepted in
    let b = split (module_checks source ++ declaration_checks source.modules t 0 1 t ++ size_checks source) (later_checks t) a.0 in
    let c = split (path_checks_of t ++ cycle_checks_of t ++ type_checks_of t) (assignment_checks (found_in t) t) b.1 in
    let targets = all_assignable [] (over_instances (assigned_here t) 0 t) c.1 in
    subst (λ n. IsTrue (list_all (form_lies n (length (symbols_of t))) (forms_of t))) (sym (length-map (origins_of t) (flat_item_of t))) (forms_lie t 0 0 t (omega arith) targets)
