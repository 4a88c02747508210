-- The bodies of an accepted model's flat form read items of lesser ranks, and no item has two.
use Rattle.std.proofs.Common.{◌≡◌, ℕ, suc, ◌+◌, ◌<◌, ◌≤◌, Bool, true, false, not, ◌&&◌, ◌||◌, ◌==◌, List, [], ◌∷◌, ◌++◌, map, length, flat_map, position, Option, Some, None, option_map, bytes_eq, refl, sym, ap, ◌∙◌, subst, arith}
use mathlib.Core.Logic.{inl, inr}
use Rattle.std.specs.List.{slice_get, AllByRecursion}
use Rattle.std.proofs.lemmas.Bool.{eqb-true}
use Rattle.std.proofs.lemmas.List.{length-append}
use Rattle.std.proofs.lemmas.Option.{slice_get-map}
use Rattle.digraph.specs.Graph.{is_in, are_distinct}
use Rattle.smv_text.specs.declared.tree.Path.{Path}
use Rattle.smv_text.specs.declared.tree.VarKind.{VarKind}
use Rattle.smv_text.specs.Tree.{Tree, truth, number, literal, name, prefix, chain, choice, cases, select, call, next, set, range, Links, no_links, link, Branches, no_branches, branch, Trees, no_trees, tree, PlainAssignment, PlainElement, vars, defines, constants, assigns, init, trans, invar, spec}
use Rattle.smv_meaning.specs.Expressions.{paths_of, link_paths, branch_paths, tree_paths}
use Rattle.smv_meaning.specs.Types.{ExprType}
use Rattle.smv_meaning.specs.Instances.{Instance}
use Rattle.smv_meaning.specs.Names.{body_of, local, Found, variable_at, body_at, instance_at, symbol_of, cyclic, none, found_in}
use Rattle.smv_meaning.specs.Checks.{Position, Named, single, under_next, across, behind}
use Rattle.smv_meaning.specs.Naming.{in_body}
use Rattle.smv_meaning.specs.Phases.{Body as BodyKey, over_instances}
use Rattle.smv_meaning.specs.Settled.{types_in}
use Rattle.smv_meaning.specs.laws.Booleans.{two_true}
use Rattle.smv_laws.proofs.Cycles.{In}
use Rattle.smv_laws.proofs.Ranked.{key}
use Rattle.smv_laws.proofs.Agreeing.{more_paths, more_branches}
use Rattle.smv_laws.proofs.Settling.{Under, Descent, body_under}
use Rattle.smv_items.specs.declared.items.ItemKind.{ItemKind}
use Rattle.smv_items.specs.FlatItems.{Leaf, of_item, of_symbol, of_nothing, Content, variable, definition, actual, Origin, is_variable_as, is_body, item_leaf, symbol_leaf, items_here, origins_of, symbols_of, leaf_found, leaf_in, kind_of, PlainFlatItem, flat_item_of}
use Rattle.smv_items.specs.laws.Declarations.{DiffersInside}
use Rattle.smv_flat.specs.declared.forms.Role.{Role}
use Rattle.smv_flat.specs.declared.forms.Role.TheVariants.{Body, Assign, Init, Trans, Invar, Invariant}
use Rattle.smv_flat.specs.FlatTree.{FlatTree, leaf_tree, flat_tree, flat_links, flat_branches, flat_trees}
use Rattle.smv_flat.specs.FlatForms.{Form, flat_in, content_form, body_forms, assignment_form, element_forms, forms_here, forms_from, flat_of}
use Rattle.smv_flat_laws.specs.FlatOrders.{all_read, links_read, branches_read, trees_read, holds_body, role_number, body_numbers, IsAmong}
use Rattle.smv_flat_laws.proofs.FlatFound.{body_in, origin_body, pair, is_body_of, both, body_at_item, variable_at_item, Home, home_found}
use Rattle.smv_flat_laws.proofs.FlatRows.{pair_parts}
use Rattle.smv_flat_laws.proofs.FlatNames.{IsLocal, item_local, body_key}

-- ---- what an expression reads is what its paths become

abbrev pub LeafPasses : (ℕ → Bool) → Leaf → Type 0
LeafPasses test (of_item k) = test k ≡ true
LeafPasses test l = Unit {0}

abbrev pub PathsPass : (ℕ → Bool) → (Path → Leaf) → List Path → Type 0
PathsPass test leaf qs = (q : Path) → In q qs → LeafPasses test (leaf q)

leaf_reads : (test : ℕ → Bool) (t : Option ExprType) (under : Bool) (l : Leaf) → LeafPasses test l → all_read test (leaf_tree t under l) ≡ true
leaf_reads test t under (of_item k) h = h
leaf_reads test t under (of_symbol s) h = refl
leaf_reads test t under of_nothing h = refl

mutual
  tree_reads : (test : ℕ → Bool) (names : Path → Named) (leaf : Path → Leaf) (at : Position) (under : Bool) (e : Tree) (more : List Path) → PathsPass test leaf (paths_of e more)
      → all_read test (flat_tree names leaf at under e) ≡ true
  tree_reads test names leaf at under (truth p b) more h = refl
  tree_reads test names leaf at under (number p n) more h = refl
  tree_reads test names leaf at under (literal p w) more h = refl
  tree_reads test names leaf at under (name p x) more h = leaf_reads test _ under (leaf x) (h x (inl refl))
  tree_reads test names leaf at under (prefix p sign n e) more h = tree_reads test names leaf (single at) under e more h
  tree_reads test names leaf at under (chain p e ls) more h =
      two_true _ _ (tree_reads test names leaf (across ls at) under e (link_paths ls more) h)
      (all_links test names leaf (across ls at) under ls more (λ q i. h q (more_paths e (link_paths ls more) q i)))
  tree_reads test names leaf at under (choice p bs e) more h =
      two_true _ _ (all_branches test names leaf at under bs (paths_of e more) h) (tree_reads test names leaf at under e more (λ q i. h q (more_branches bs (paths_of e more) q i)))
  tree_reads test names leaf at under (cases p bs) more h = all_branches test names leaf at under bs more h
  tree_reads test names leaf at under (select p e high low) more h = tree_reads test names leaf (single at) under e more h
  tree_reads test names leaf at under (call p f es) more h = all_trees test names leaf (single at) under es more h
  tree_reads test names leaf at under (next p e) more h = tree_reads test names leaf under_next true e more h
  tree_reads test names leaf at under (set p es) more h = all_trees test names leaf at under es more h
  tree_reads test names leaf at under (range p low high) more h = refl

  all_links : (test : ℕ → Bool) (names : Path → Named) (leaf : Path → Leaf) (at : Position) (under : Bool) (ls : Links) (more : List Path) → PathsPass test leaf (link_paths ls more)
      → links_read test (flat_links names leaf at under ls) ≡ true
  all_links test names leaf at under no_links more h = refl
  all_links test names leaf at under (link op e ls) more h =
      two_true _ _ (tree_reads test names leaf (behind op at) under e (link_paths ls more) h) (all_links test names leaf at under ls more (λ q i. h q (more_paths e (link_paths ls more) q i)))

  all_branches : (test : ℕ → Bool) (names : Path → Named) (leaf : Path → Leaf) (at : Position) (under : Bool) (bs : Branches) (more : List Path) → PathsPass test leaf (branch_paths bs more)
      → branches_read test (flat_branches names leaf at under bs) ≡ true
  all_branches test names leaf at under no_branches more h = refl
  all_branches test names leaf at under (branch c e rest) more h =
      let s : PathsPass test leaf (paths_of e (branch_paths rest more)) = λ q i. h q (more_paths c (paths_of e (branch_paths rest more)) q i) in
      two_true _ _ (tree_reads test names leaf (single at) under c (paths_of e (branch_paths rest more)) h)
      (two_true _ _ (tree_reads test names leaf at under e (branch_paths rest more) s)
      (all_branches test names leaf at under rest more (λ q i. s q (more_paths e (branch_paths rest more) q i))))

  all_trees : (test : ℕ → Bool) (names : Path → Named) (leaf : Path → Leaf) (at : Position) (under : Bool) (es : Trees) (more : List Path) → PathsPass test leaf (tree_paths es more)
      → trees_read test (flat_trees names leaf at under es) ≡ true
  all_trees test names leaf at under no_trees more h = refl
  all_trees test names leaf at under (tree e es) more h =
      two_true _ _ (tree_reads test names leaf at under e (tree_paths es more) h) (all_trees test names leaf at under es more (λ q i. h q (more_paths e (tree_paths es more) q i)))

-- ---- the rank of an item: where its definition or actual is in the order, and 0 for variables

abbrev pub content_rank : ℕ → Content → ℕ
content_rank r (variable kind d) = 0
content_rank r (definition j e) = r
content_rank r (actual j e) = r

abbrev pub origin_rank : (BodyKey → ℕ) → Option Origin → ℕ
origin_rank rank None = 0
origin_rank rank (Some m) = content_rank (rank (key m.instance m.name)) m.content

abbrev pub item_rank : List Instance → (BodyKey → ℕ) → ℕ → ℕ
item_rank t rank k = origin_rank rank (slice_get (origins_of t) k)

variable_rank : (t : List Instance) (rank : BodyKey → ℕ) (k : ℕ) (m : Origin) (kind : VarKind) → slice_get (origins_of t) k ≡ Some m → is_variable_as kind m.content ≡ true → item_rank t rank k ≡ 0
variable_rank t rank k m kind there h = ap (origin_rank rank) there ∙ by m.content h
  where
    by : (c : Content) → is_variable_as kind c ≡ true → content_rank (rank (key m.instance m.name)) c ≡ 0
    by (variable l d) g = refl
    by (definition j e) g = cc
    by (actual j e) g = cc

pub own_rank : (t : List Instance) (rank : BodyKey → ℕ) (k : ℕ) (m : Origin) → slice_get (origins_of t) k ≡ Some m → is_body m.content ≡ true → item_rank t rank k ≡ rank (key m.instance m.name)
own_rank t rank k m there h = ap (origin_rank rank) there ∙ by m.content h
  where
    by : (c : Content) → is_body c ≡ true → content_rank (rank (key m.instance m.name)) c ≡ rank (key m.instance m.name)
    by (variable l d) g = cc
    by (definition j e) g = refl
    by (actual j e) g = refl

pub body_rank : (t : List Instance) (rank : BodyKey → ℕ) (k i : ℕ) (x : List ℕ) (m : Origin) → slice_get (origins_of t) k ≡ Some m → is_body_of i x m ≡ true → item_rank t rank k ≡ rank (key i x)
body_rank t rank k i x m there holds =
    own_rank t rank k m there (both (is_body m.content) ((m.instance == i) && bytes_eq m.name x) holds).0 ∙ ap rank (body_key i x m holds)

-- ---- what a path leads to has a lesser rank

symbol_passes : (test : ℕ → Bool) (o : Option ℕ) → LeafPasses test (symbol_leaf o)
symbol_passes test None = tt
symbol_passes test (Some s) = tt

-- each item of a lesser rank passes the test
abbrev pub LowPass : List Instance → (BodyKey → ℕ) → ℕ → (ℕ → Bool) → Type 0
LowPass t rank bound test = (k : ℕ) → item_rank t rank k < bound → test k ≡ true

found_passes : (t : List Instance) (rank : BodyKey → ℕ) (bound : ℕ) → 0 < bound → (test : ℕ → Bool) → LowPass t rank bound test → (m : Found) → Home t m → Under t rank bound m → LeafPasses test (leaf_found t m)
found_passes t rank bound some test h (variable_at y kind d) home u =
    let a = variable_at_item t home.0 home.1 kind d home.3 in
    let v = both (is_variable_as kind a.x.content) _ a.holds in
    let e : leaf_found t (variable_at y kind d) ≡ of_item a.k = ap (λ z. leaf_found t (variable_at z kind d)) home.2 ∙ ap item_leaf a.placed in
    let z = variable_rank t rank a.k a.x kind a.there v.0 in
    subst (LeafPasses test) (sym e) (h a.k (omega (arith, z, some)))
found_passes t rank bound some test h (body_at i x j e) home u =
    let a = body_at_item t i x j e home in
    let z = body_rank t rank a.k i x a.x a.there a.holds in
    let f : leaf_found t (body_at i x j e) ≡ of_item a.k = ap item_leaf a.placed in
    subst (LeafPasses test) (sym f) (h a.k (omega (arith, z, u.0)))
found_passes t rank bound some test h (symbol_of x) home u = symbol_passes test (position (bytes_eq x) (symbols_of t))
found_passes t rank bound some test h (instance_at i) home u = tt
found_passes t rank bound some test h cyclic home u = tt
found_passes t rank bound some test h none home u = tt

-- ---- bodies

-- all that is known of the model and of the ranks
pub record IsFalling (t : List Instance) (rank : BodyKey → ℕ) : Type 0 where
  pub differ : AllByRecursion DiffersInside t
  pub descent : Descent t rank
  pub positive : (b : BodyKey) → 0 < rank b

-- a body reads items of lesser ranks
abbrev pub ReadsBelow : List Instance → (BodyKey → ℕ) → ℕ → FlatTree → Type 0
ReadsBelow t rank bound e = (test : ℕ → Bool) → LowPass t rank bound test → all_read test e ≡ true

body_reads_below : (t : List Instance) (rank : BodyKey → ℕ) → IsFalling t rank → (i : ℕ) (x : List ℕ) (j : ℕ) (e : Tree) → local t i x ≡ body_of j e → ReadsBelow t rank (rank (key i x)) (flat_in t j in_body e)
body_reads_below t rank f i x j e is test h =
    tree_reads test (types_in true t j) (leaf_in t j) in_body false e []
    (λ q g. found_passes t rank (rank (key i x)) (f.positive (key i x)) test h (found_in t j q) (home_found t j q) (body_under t rank f.descent i x j e is q g))

item_reads_below : (t : List Instance) (rank : BodyKey → ℕ) → IsFalling t rank → (k : ℕ) (m : Origin) (j : ℕ) (e : Tree) → slice_get (origins_of t) k ≡ Some m → origin_body m ≡ Some (pair j e)
    → ReadsBelow t rank (item_rank t rank k) (flat_in t j in_body e)
item_reads_below t rank f k m j e there gives =
    subst (λ n. ReadsBelow t rank n (flat_in t j in_body e)) (sym (own_rank t rank k m there (content_holds m.content gives)))
    (body_reads_below t rank f m.instance m.name j e (content_local m.content gives (item_local t f.differ k m there)))
  where
    content_holds : (c : Content) → body_in c ≡ Some (pair j e) → is_body c ≡ true
    content_holds (variable kind d) h = cc
    content_holds (definition i b) h = refl
    content_holds (actual i b) h = refl

    content_local : (c : Content) → body_in c ≡ Some (pair j e) → IsLocal (local t m.instance m.name) c → local t m.instance m.name ≡ body_of j e
    content_local (variable kind d) h l = cc
    content_local (definition i b) h l = let p = pair_parts i j b e h in l ∙ ap (λ y. body_of y b) p.0 ∙ ap (body_of j) p.1
    content_local (actual i b) h l = let p = pair_parts i j b e h in l ∙ ap (λ y. body_of y b) p.0 ∙ ap (body_of j) p.1

body_kind : (c : Content) (j : ℕ) (e : Tree) → body_in c ≡ Some (pair j e) → holds_body (Some (kind_of c)) ≡ true
body_kind (variable kind d) j e h = cc
body_kind (definition i b) j e h = refl
body_kind (actual i b) j e h = refl

abbrev pub kinds_of : List Instance → List ItemKind
kinds_of t = map {A = PlainFlatItem} (λ m. m.kind) (flat_of t).items

kind_at : (t : List Instance) (k : ℕ) (m : Origin) → slice_get (origins_of t) k ≡ Some m → slice_get (kinds_of t) k ≡ Some (kind_of m.content)
kind_at t k m h =
    slice_get-map own_kind (flat_of t).items k ∙ ap (option_map own_kind) (slice_get-map (flat_item_of t) (origins_of t) k ∙ ap (option_map (flat_item_of t)) h)
  where
    own_kind : PlainFlatItem → ItemKind
    own_kind x = x.kind

-- the item of a body is a definition or an actual, and the body reads items of lesser ranks
abbrev pub RoleRanked : List Instance → (BodyKey → ℕ) → Role → FlatTree → Type 0
RoleRanked t rank (Body k) e = (holds_body (slice_get (kinds_of t) k) ≡ true) × ReadsBelow t rank (item_rank t rank k) e
RoleRanked t rank r e = Unit {0}

body_is_ranked : (t : List Instance) (rank : BodyKey → ℕ) → IsFalling t rank → (k : ℕ) (m : Origin) (j : ℕ) (e : Tree) → slice_get (origins_of t) k ≡ Some m → origin_body m ≡ Some (pair j e)
    → RoleRanked t rank (Body k) (flat_in t j in_body e)
body_is_ranked t rank f k m j e there gives = (subst (λ o. holds_body o ≡ true) (sym (kind_at t k m there)) (body_kind m.content j e gives), item_reads_below t rank f k m j e there gives)

-- ---- all formulas

abbrev pub FormRanked : List Instance → (BodyKey → ℕ) → Form → Type 0
FormRanked t rank f = RoleRanked t rank f.role f.body

abbrev pub Ranked : List Instance → (BodyKey → ℕ) → List Form → Type 0
Ranked t rank fs = AllByRecursion (FormRanked t rank) fs

-- the items from a number on
abbrev pub StandFrom : List Instance → ℕ → List Origin → Type 0
StandFrom t k [] = Unit {0}
StandFrom t k (m ∷ ms) = (slice_get (origins_of t) k ≡ Some m) × StandFrom t (k + 1) ms

pub stand_all : (t : List Instance) (k : ℕ) (ms : List Origin) → ((n : ℕ) (m : Origin) → slice_get ms n ≡ Some m → slice_get (origins_of t) (k + n) ≡ Some m) → StandFrom t k ms
stand_all t k [] h = tt
stand_all t k (m ∷ ms) h =
    let z : k + 0 ≡ k = omega arith in (
      subst (λ n. slice_get (origins_of t) n ≡ Some m) z (h 0 m refl),
      stand_all t (k + 1) ms (λ n o g. let s : k + suc n ≡ (k + 1) + n = omega arith in subst (λ i. slice_get (origins_of t) i ≡ Some o) s (h (suc n) o g)),
    )

stand_front : (t : List Instance) (k : ℕ) (ms ns : List Origin) → StandFrom t k (ms ++ ns) → StandFrom t k ms × StandFrom t (k + length ms) ns
stand_front t k [] ns h = let z : k ≡ k + 0 = omega arith in (tt, subst (λ i. StandFrom t i ns) z h)
stand_front t k (m ∷ ms) ns h =
    let r = stand_front t (k + 1) ms ns h.1 in
    let z : (k + 1) + length ms ≡ k + suc (length ms) = omega arith in
    ((h.0, r.0), subst (λ i. StandFrom t i ns) z r.1)

ranked_on : (t : List Instance) (rank : BodyKey → ℕ) (fs gs : List Form) → Ranked t rank fs → Ranked t rank gs → Ranked t rank (fs ++ gs)
ranked_on t rank [] gs a b = b
ranked_on t rank (f ∷ fs) gs a b = (a.0, ranked_on t rank fs gs a.1 b)

bodies_ranked : (t : List Instance) (rank : BodyKey → ℕ) → IsFalling t rank → (k : ℕ) (ms : List Origin) → StandFrom t k ms → Ranked t rank (body_forms t k ms)
bodies_ranked t rank f k [] s = tt
bodies_ranked t rank f k (m ∷ ms) s = ranked_on t rank (content_form t k m.instance m.content) (body_forms t (k + 1) ms) (by m.content refl) (bodies_ranked t rank f (k + 1) ms s.1)
  where
    by : (c : Content) → m.content ≡ c → Ranked t rank (content_form t k m.instance c)
    by (variable kind d) h = tt
    by (definition j e) h = (body_is_ranked t rank f k m j e s.0 (ap body_in h), tt)
    by (actual j e) h = (body_is_ranked t rank f k m j e s.0 (ap body_in h), tt)

assignments_ranked : (t : List Instance) (rank : BodyKey → ℕ) (i : ℕ) (xs : List PlainAssignment) → Ranked t rank (map (assignment_form t i) xs)
assignments_ranked t rank i [] = tt
assignments_ranked t rank i (x ∷ xs) = (tt, assignments_ranked t rank i xs)

element_ranked : (t : List Instance) (rank : BodyKey → ℕ) (i : ℕ) (e : PlainElement) → Ranked t rank (element_forms t i e)
element_ranked t rank i (vars kind items) = tt
element_ranked t rank i (defines ds) = tt
element_ranked t rank i (constants cs) = tt
element_ranked t rank i (assigns xs) = assignments_ranked t rank i xs
element_ranked t rank i (init e) = (tt, tt)
element_ranked t rank i (trans e) = (tt, tt)
element_ranked t rank i (invar e) = (tt, tt)
element_ranked t rank i (spec l e) = (tt, tt)

elements_ranked : (t : List Instance) (rank : BodyKey → ℕ) (i : ℕ) (es : List PlainElement) → Ranked t rank (flat_map (element_forms t i) es)
elements_ranked t rank i [] = tt
elements_ranked t rank i (e ∷ es) = ranked_on t rank (element_forms t i e) (flat_map (element_forms t i) es) (element_ranked t rank i e) (elements_ranked t rank i es)

pub forms_ranked : (t : List Instance) (rank : BodyKey → ℕ) → IsFalling t rank → (k i : ℕ) (rest : List Instance) → StandFrom t k (over_instances items_here i rest) → Ranked t rank (forms_from t k i rest)
forms_ranked t rank f k i [] s = tt
forms_ranked t rank f k i (at ∷ rest) s =
    let r = stand_front t k (items_here i at) (over_instances items_here (i + 1) rest) s in
    ranked_on t rank (forms_here t k i at) (forms_from t (k + length (items_here i at)) (i + 1) rest)
    (ranked_on t rank (body_forms t k (items_here i at)) (flat_map (element_forms t i) at.module.elements) (bodies_ranked t rank f k (items_here i at) r.0) (elements_ranked t rank i at.module.elements))
    (forms_ranked t rank f (k + length (items_here i at)) (i + 1) rest r.1)

pub among_ranked : (t : List Instance) (rank : BodyKey → ℕ) (fs : List Form) → Ranked t rank fs → (k : ℕ) (e : FlatTree) → IsAmong k e fs → RoleRanked t rank (Body k) e
among_ranked t rank [] r k e i = absurd i
among_ranked t rank (f ∷ fs) r k e (inl s) = subst (λ x. RoleRanked t rank x e) s.0 (subst (λ x. RoleRanked t rank f.role x) s.1 r.0)
among_ranked t rank (f ∷ fs) r k e (inr s) = among_ranked t rank fs r.1 k e s

pub all_ranked : (t : List Instance) (rank : BodyKey → ℕ) → IsFalling t rank → Ranked t rank (forms_from t 0 0 t)
all_ranked t rank f = forms_ranked t rank f 0 0 t (stand_all t 0 (origins_of t) (λ n m h. let z : n ≡ 0 + n = omega arith in subst (λ i. slice_get (origins_of t) i ≡ Some m) z h))

-- ---- no item has two bodies

-- the numbers rise from one on and stay below the other
abbrev pub RisesTo : ℕ → ℕ → List ℕ → Type 0
RisesTo k n [] = k ≤ n
RisesTo k n (x ∷ xs) = (k ≤ x) × RisesTo (suc x) n xs

abbrev pub FormsRise : ℕ → ℕ → List Form → Type 0
FormsRise k n fs = RisesTo k n (body_numbers fs)

rises_lower : (k n p : ℕ) (xs : List ℕ) → k ≤ n → RisesTo n p xs → RisesTo k p xs
rises_lower k n p [] h g = omega arith
rises_lower k n p (x ∷ xs) h g = let l = g.0 in (omega arith, g.1)

rise_on : (k n p : ℕ) (fs gs : List Form) → FormsRise k n fs → FormsRise n p gs → FormsRise k p (fs ++ gs)
rise_on k n p [] gs a b = rises_lower k n p (body_numbers gs) a b
rise_on k n p (f ∷ fs) gs a b = by f.role a (λ i g. rise_on i n p fs gs g b)
  where
    by : (r : Role) → RisesTo k n (role_number r ++ body_numbers fs) → ((i : ℕ) → FormsRise i n fs → FormsRise i p (fs ++ gs)) → RisesTo k p (role_number r ++ body_numbers (fs ++ gs))
    by (Body x) h rest = (h.0, rest (suc x) h.1)
    by (Assign w x) h rest = rest k h
    by Init h rest = rest k h
    by Trans h rest = rest k h
    by Invar h rest = rest k h
    by Invariant h rest = rest k h

bodies_rise : (t : List Instance) (k : ℕ) (ms : List Origin) → FormsRise k (k + length ms) (body_forms t k ms)
bodies_rise t k [] = omega arith
bodies_rise t k (m ∷ ms) =
    let z : (k + 1) + length ms ≡ k + suc (length ms) = omega arith in
    rise_on k (k + 1) (k + suc (length ms)) (content_form t k m.instance m.content) (body_forms t (k + 1) ms) (by m.content)
    (subst (λ n. FormsRise (k + 1) n (body_forms t (k + 1) ms)) z (bodies_rise t (k + 1) ms))
  where
    by : (c : Content) → FormsRise k (k + 1) (content_form t k m.instance c)
    by (variable kind d) = omega arith
    by (definition j e) = (omega arith, omega arith)
    by (actual j e) = (omega arith, omega arith)

assignments_rise : (t : List Instance) (k i : ℕ) (xs : List PlainAssignment) → FormsRise k k (map (assignment_form t i) xs)
assignments_rise t k i [] = omega arith
assignments_rise t k i (x ∷ xs) = assignments_rise t k i xs

element_rises : (t : List Instance) (k i : ℕ) (e : PlainElement) → FormsRise k k (element_forms t i e)
element_rises t k i (vars kind items) = omega arith
element_rises t k i (defines ds) = omega arith
element_rises t k i (constants cs) = omega arith
element_rises t k i (assigns xs) = assignments_rise t k i xs
element_rises t k i (init e) = omega arith
element_rises t k i (trans e) = omega arith
element_rises t k i (invar e) = omega arith
element_rises t k i (spec l e) = omega arith

elements_rise : (t : List Instance) (k i : ℕ) (es : List PlainElement) → FormsRise k k (flat_map (element_forms t i) es)
elements_rise t k i [] = omega arith
elements_rise t k i (e ∷ es) = rise_on k k k (element_forms t i e) (flat_map (element_forms t i) es) (element_rises t k i e) (elements_rise t k i es)

pub forms_rise : (t : List Instance) (k i : ℕ) (rest : List Instance) → FormsRise k (k + length (over_instances items_here i rest)) (forms_from t k i rest)
forms_rise t k i [] = omega arith
forms_rise t k i (at ∷ rest) =
    let more = k + length (items_here i at) in
    let z : more + length (over_instances items_here (i + 1) rest) ≡ k + length (items_here i at ++ over_instances items_here (i + 1) rest) =
    let l = length-append (items_here i at) (over_instances items_here (i + 1) rest) in omega arith in
    rise_on k more (k + length (items_here i at ++ over_instances items_here (i + 1) rest)) (forms_here t k i at) (forms_from t more (i + 1) rest)
    (rise_on k more more (body_forms t k (items_here i at)) (flat_map (element_forms t i) at.module.elements) (bodies_rise t k (items_here i at)) (elements_rise t more i at.module.elements))
    (subst (λ n. FormsRise more n (forms_from t more (i + 1) rest)) z (forms_rise t more (i + 1) rest))

out_below : (k n m : ℕ) (xs : List ℕ) → RisesTo k n xs → m < k → is_in xs m ≡ false
out_below k n m [] h l = refl
out_below k n m (x ∷ xs) h l = let f = h.0 in or_none (x == m) (is_in xs m) (apart x m (omega arith)) (out_below (suc x) n m xs h.1 (omega arith))
  where
    apart : (x m : ℕ) → m < x → (x == m) ≡ false
    apart x m l = by (x == m) refl
      where
        by : (b : Bool) → (x == m) ≡ b → (x == m) ≡ false
        by false e = e
        by true e = let s : x ≡ m = eqb-true x m e in absurd (omega arith)

    or_none : (a b : Bool) → a ≡ false → b ≡ false → (a || b) ≡ false
    or_none true b p q = cc
    or_none false b p q = q

pub rises_distinct : (k n : ℕ) (xs : List ℕ) → RisesTo k n xs → are_distinct xs ≡ true
rises_distinct k n [] h = refl
rises_distinct k n (x ∷ xs) h =
    two_true (not (is_in xs x)) (are_distinct xs) (ap not (out_below (suc x) n x xs h.1 (omega arith))) (rises_distinct (suc x) n xs h.1)

pub bodies_apart : (t : List Instance) → are_distinct (body_numbers (forms_from t 0 0 t)) ≡ true
bodies_apart t = rises_distinct 0 (0 + length (origins_of t)) (body_numbers (forms_from t 0 0 t)) (forms_rise t 0 0 t)
