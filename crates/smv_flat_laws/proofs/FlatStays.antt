-- Frozen variables keep their values in rows exactly where they do in the states, and an invariant is false in a row exactly where
-- it is in the state.
use Rattle.std.proofs.Common.{◌≡◌, ℕ, zero, suc, ◌+◌, Bool, true, false, not, ◌&&◌, List, [], ◌∷◌, ◌++◌, map, flat_map, Option, refl, sym, ap, ◌∙◌, subst, arith}
use Rattle.std.specs.List.{slice_get, list_all}
use Rattle.smv_text.specs.declared.tree.Path.{Path}
use Rattle.smv_text.specs.declared.tree.Parameter.{Parameter}
use Rattle.smv_text.specs.declared.tree.VarKind.{VarKind}
use Rattle.smv_text.specs.declared.tree.VarKind.TheVariants as OfVarKind
use Rattle.smv_text.specs.Tree.{Tree, truth, number, literal, name, prefix, chain, choice, cases, select, call, next, set, range, Trees, no_trees, tree, PlainDomain, boolean, members, between, bits, instance, PlainItem, PlainDefinition, PlainAssignment, PlainElement, vars, defines, constants, assigns, init, trans, invar, spec}
use Rattle.smv_meaning.specs.declared.value.Value.{Value}
use Rattle.smv_meaning.specs.Values.{Valuation, is_true, value_same}
use Rattle.smv_meaning.specs.Expressions.{Denotation}
use Rattle.smv_meaning.specs.Instances.{Instance, dotted}
use Rattle.smv_meaning.specs.Names.{parent_of, path_in, found_in, steps_of, dotted_at}
use Rattle.smv_meaning.specs.Meaning.{denoted}
use Rattle.smv_meaning.specs.Checks.{typing}
use Rattle.smv_meaning.specs.Phases.{in_state, element_typing, actuals_typing, type_checks, over_instances, element_invariants, domain_declares_instance}
use Rattle.smv_meaning.specs.Runs.{no_values, is_frozen, element_stays, frozen_stay, is_false_at}
use Rattle.smv_meaning.specs.Settled.{types_in}
use Rattle.smv_meaning.specs.laws.Booleans.{both_true}
use Rattle.smv_meaning.specs.laws.Booleans.{absurd_bool}
use Rattle.smv_laws.proofs.Typable.{split, Holds}
use Rattle.smv_flat.specs.FlatTree.{FlatTree}
use Rattle.smv_items.specs.FlatItems.{Content, variable, definition, actual, Origin, with_content, actual_content, actual_items, domain_content, variable_item, definition_item, element_items, items_here, origins_of, path_of, kind_of, flat_item_of}
use Rattle.smv_flat.specs.FlatForms.{Form, content_form, body_forms, assignment_form, element_forms, forms_here, forms_from, flat_of}
use Rattle.smv_flat.specs.FlatTruth.{Row, form_denotes, kind_stays, items_stay, role_invariant, forms_invariants, is_false_in}
use Rattle.smv_flat_laws.proofs.FlatRows.{AllFrom, all_of, HasContent, HasItems}
use Rattle.smv_flat_laws.proofs.FlatTruths.{Agrees}
use Rattle.smv_flat_laws.proofs.FlatSections.{no_instance, section_is_plain, module_is_plain, AllModules}
use Rattle.smv_text.specs.declared.tree.When.TheVariants.{First}
use Rattle.text_core.proofs.ListLaws.{both_so}
use Rattle.smv_laws.proofs.Rests.{IsRest, rest_more}

-- ---- frozen variables

abbrev pub origin_stays : List Instance → Valuation → Valuation → Origin → Bool
origin_stays t state following m = kind_stays (state (path_of t m)) (following (path_of t m)) (kind_of m.content)

content_stays : (t : List Instance) (state label following other : Valuation) (read more : ℕ → Path → Value) (v w : Value) (x : List ℕ) (c : Content)
    → HasContent t state label read v x c → HasContent t following other more w x c → kind_stays v w (kind_of c) ≡ kind_stays (state x) (following x) (kind_of c)
content_stays t state label following other read more v w x (variable OfVarKind.State d) h g = refl
content_stays t state label following other read more v w x (variable OfVarKind.Input d) h g = refl
content_stays t state label following other read more v w x (variable OfVarKind.Frozen d) h g = ap (λ z. value_same z w) h ∙ ap (value_same (state x)) g
content_stays t state label following other read more v w x (definition j e) h g = refl
content_stays t state label following other read more v w x (actual j e) h g = refl

abbrev StaysSo : List Instance → Valuation → Valuation → Row → Row → ℕ → Origin → Type 0
StaysSo t state following now later k m = kind_stays (now k) (later k) (kind_of m.content) ≡ origin_stays t state following m

items_as : (t : List Instance) (state following : Valuation) (now later : Row) (k : ℕ) (ms : List Origin) → AllFrom (StaysSo t state following now later) k ms
    → items_stay now later k (map (flat_item_of t) ms) ≡ list_all (origin_stays t state following) ms
items_as t state following now later k [] h = refl
items_as t state following now later k (m ∷ ms) h =
    ap (λ b. b && items_stay now later (k + 1) (map (flat_item_of t) ms)) h.0 ∙ ap (λ b. origin_stays t state following m && b) (items_as t state following now later (k + 1) ms h.1)

actual_stays : (t : List Instance) (state following : Valuation) (i j : ℕ) (x : List ℕ) (e : Tree) → list_all (origin_stays t state following) (with_content i x (actual_content j e)) ≡ true
actual_stays t state following i j x (name p q) = refl
actual_stays t state following i j x (truth p c) = refl
actual_stays t state following i j x (number p n) = refl
actual_stays t state following i j x (literal p w) = refl
actual_stays t state following i j x (prefix p sign n c) = refl
actual_stays t state following i j x (chain p c ls) = refl
actual_stays t state following i j x (choice p bs c) = refl
actual_stays t state following i j x (cases p bs) = refl
actual_stays t state following i j x (select p c high low) = refl
actual_stays t state following i j x (call p f cs) = refl
actual_stays t state following i j x (next p c) = refl
actual_stays t state following i j x (set p cs) = refl
actual_stays t state following i j x (range p low high) = refl

actuals_stay : (t : List Instance) (state following : Valuation) (i j : ℕ) (qs : List Parameter) (es : Trees) → list_all (origin_stays t state following) (actual_items i j qs es) ≡ true
actuals_stay t state following i j [] es = refl
actuals_stay t state following i j (q ∷ qs) no_trees = refl
actuals_stay t state following i j (q ∷ qs) (tree e es) =
    both_so (origin_stays t state following) (with_content i q.name (actual_content j e)) (actual_items i j qs es) true true (actual_stays t state following i j q.name e) (actuals_stay t state following i j qs es)

definitions_stay : (t : List Instance) (state following : Valuation) (i : ℕ) (ds : List PlainDefinition) → list_all (origin_stays t state following) (map (definition_item i) ds) ≡ true
definitions_stay t state following i [] = refl
definitions_stay t state following i (d ∷ ds) = definitions_stay t state following i ds

-- a variable that isn't frozen
free_stays : (t : List Instance) (state following : Valuation) (i : ℕ) (kind : VarKind) (x : List ℕ) (d : PlainDomain) → is_frozen kind ≡ false
    → list_all (origin_stays t state following) (with_content i x (domain_content kind d)) ≡ true
free_stays t state following i kind x (instance m es) h = refl
free_stays t state following i OfVarKind.State x boolean h = refl
free_stays t state following i OfVarKind.Input x boolean h = refl
free_stays t state following i OfVarKind.Frozen x boolean h = absurd_bool (sym h)
free_stays t state following i OfVarKind.State x (members ms) h = refl
free_stays t state following i OfVarKind.Input x (members ms) h = refl
free_stays t state following i OfVarKind.Frozen x (members ms) h = absurd_bool (sym h)
free_stays t state following i OfVarKind.State x (between low high) h = refl
free_stays t state following i OfVarKind.Input x (between low high) h = refl
free_stays t state following i OfVarKind.Frozen x (between low high) h = absurd_bool (sym h)
free_stays t state following i OfVarKind.State x (bits n) h = refl
free_stays t state following i OfVarKind.Input x (bits n) h = refl
free_stays t state following i OfVarKind.Frozen x (bits n) h = absurd_bool (sym h)

free_all : (t : List Instance) (state following : Valuation) (i : ℕ) (kind : VarKind) (vs : List PlainItem) → is_frozen kind ≡ false
    → list_all (origin_stays t state following) (flat_map (variable_item i kind) vs) ≡ true
free_all t state following i kind [] h = refl
free_all t state following i kind (v ∷ vs) h =
    both_so (origin_stays t state following) (variable_item i kind v) (flat_map (variable_item i kind) vs) true true (free_stays t state following i kind v.name v.domain h) (free_all t state following i kind vs h)

abbrev keeps : List ℕ → Valuation → Valuation → PlainItem → Bool
keeps path state following v = value_same (state (dotted path v.name)) (following (dotted path v.name))

frozen_stays : (t : List Instance) (state following : Valuation) (i : ℕ) (path x : List ℕ) (d : PlainDomain) → dotted_at t i x ≡ dotted path x → not (domain_declares_instance d) ≡ true
    → list_all (origin_stays t state following) (with_content i x (domain_content OfVarKind.Frozen d)) ≡ value_same (state (dotted path x)) (following (dotted path x))
frozen_stays t state following i path x d e h = by d h
  where
    here : (value_same (state (dotted_at t i x)) (following (dotted_at t i x)) && true) ≡ value_same (state (dotted path x)) (following (dotted path x))
    here = right (value_same (state (dotted_at t i x)) (following (dotted_at t i x))) ∙ ap (λ z. value_same (state z) (following z)) e
      where
        right : (b : Bool) → (b && true) ≡ b
        right true = refl
        right false = refl

    by : (c : PlainDomain) → not (domain_declares_instance c) ≡ true → list_all (origin_stays t state following) (with_content i x (domain_content OfVarKind.Frozen c)) ≡ value_same (state (dotted path x)) (following (dotted path x))
    by boolean g = here
    by (members ms) g = here
    by (between low high) g = here
    by (bits n) g = here
    by (instance m es) g = absurd_bool g

frozen_all : (t : List Instance) (state following : Valuation) (i : ℕ) (path : List ℕ) (vs : List PlainItem) → ((x : List ℕ) → dotted_at t i x ≡ dotted path x) → list_all no_instance vs ≡ true
    → list_all (origin_stays t state following) (flat_map (variable_item i OfVarKind.Frozen) vs) ≡ list_all (keeps path state following) vs
frozen_all t state following i path [] e h = refl
frozen_all t state following i path (v ∷ vs) e h =
    let s = both_true (no_instance v) (list_all no_instance vs) h in
    both_so (origin_stays t state following) (variable_item i OfVarKind.Frozen v) (flat_map (variable_item i OfVarKind.Frozen) vs) (keeps path state following v) (list_all (keeps path state following) vs)
    (frozen_stays t state following i path v.name v.domain (e v.name) s.0) (frozen_all t state following i path vs e s.1)

element_stays_so : (t : List Instance) (state following : Valuation) (i : ℕ) (path : List ℕ) (el : PlainElement) → ((x : List ℕ) → dotted_at t i x ≡ dotted path x) → section_is_plain el ≡ true
    → list_all (origin_stays t state following) (element_items i el) ≡ element_stays path state following el
element_stays_so t state following i path (vars OfVarKind.State items) e h = free_all t state following i OfVarKind.State items refl
element_stays_so t state following i path (vars OfVarKind.Input items) e h = free_all t state following i OfVarKind.Input items refl
element_stays_so t state following i path (vars OfVarKind.Frozen items) e h = frozen_all t state following i path items e h
element_stays_so t state following i path (defines ds) e h = definitions_stay t state following i ds
element_stays_so t state following i path (constants cs) e h = refl
element_stays_so t state following i path (assigns xs) e h = refl
element_stays_so t state following i path (init c) e h = refl
element_stays_so t state following i path (trans c) e h = refl
element_stays_so t state following i path (invar c) e h = refl
element_stays_so t state following i path (spec l c) e h = refl

elements_stay : (t : List Instance) (state following : Valuation) (i : ℕ) (path : List ℕ) (es : List PlainElement) → ((x : List ℕ) → dotted_at t i x ≡ dotted path x) → list_all section_is_plain es ≡ true
    → list_all (origin_stays t state following) (flat_map (element_items i) es) ≡ list_all (element_stays path state following) es
elements_stay t state following i path [] e h = refl
elements_stay t state following i path (el ∷ es) e h =
    let s = both_true (section_is_plain el) (list_all section_is_plain es) h in
    both_so (origin_stays t state following) (element_items i el) (flat_map (element_items i) es) (element_stays path state following el) (list_all (element_stays path state following) es)
    (element_stays_so t state following i path el e s.0) (elements_stay t state following i path es e s.1)

pub rest_path : (t : List Instance) (i : ℕ) (at : Instance) (rest : List Instance) → IsRest t i (at ∷ rest) → (x : List ℕ) → dotted_at t i x ≡ dotted at.path x
rest_path t i at rest h x = let s : i ≡ i + 0 = omega arith in ap (λ (o : Option Instance). dotted (path_in o) x) (ap (slice_get t) s ∙ h 0)

instances_stay : (t : List Instance) (state following : Valuation) (i : ℕ) (rest : List Instance) → IsRest t i rest → AllModules module_is_plain rest
    → list_all (origin_stays t state following) (over_instances items_here i rest) ≡ frozen_stay rest state following
instances_stay t state following i [] r h = refl
instances_stay t state following i (at ∷ rest) r h =
    let s = both_true (module_is_plain at.module) (list_all (λ (a : Instance). module_is_plain a.module) rest) h in
    both_so (origin_stays t state following) (items_here i at) (over_instances items_here (i + 1) rest) (list_all (element_stays at.path state following) at.module.elements) (frozen_stay rest state following)
    (both_so (origin_stays t state following) (actual_items i (parent_of at) at.module.parameters at.actuals) (flat_map (element_items i) at.module.elements) true (list_all (element_stays at.path state following) at.module.elements)
    (actuals_stay t state following i (parent_of at) at.module.parameters at.actuals)
    (elements_stay t state following i at.path at.module.elements (rest_path t i at rest r) s.0))
    (instances_stay t state following (i + 1) rest (rest_more t i at rest r) s.1)

pub stays_same : (t : List Instance) (state label following other : Valuation) (read more : ℕ → Path → Value) (now later : Row) → HasItems t state label read now → HasItems t following other more later
    → AllModules module_is_plain t → items_stay now later 0 (map (flat_item_of t) (origins_of t)) ≡ frozen_stay t state following
stays_same t state label following other read more now later h g p =
    items_as t state following now later 0 (origins_of t)
    (all_of (StaysSo t state following now later) (origins_of t) 0
    (λ n m e. let s : n ≡ zero + n = omega arith in
    subst (λ k. StaysSo t state following now later k m) s (content_stays t state label following other read more (now n) (later n) (path_of t m) m.content (h n m e) (g n m e))))
    ∙ instances_stay t state following 0 t (λ n. let s : zero + n ≡ n = omega arith in ap (slice_get t) s) p

-- ---- invariants

abbrev pub Matches : List Instance → Row → Row → (ℕ → Tree → Denotation) → List FlatTree → List (ℕ × Tree) → Type 0
Matches t now later meant [] [] = Unit {0}
Matches t now later meant [] (y ∷ ys) = ⊥
Matches t now later meant (x ∷ xs) [] = ⊥
Matches t now later meant (x ∷ xs) (y ∷ ys) = (form_denotes (flat_of t) now later x ≡ meant y.0 y.1) × Matches t now later meant xs ys

matches_joined : (t : List Instance) (now later : Row) (meant : ℕ → Tree → Denotation) (xs vs : List FlatTree) (ys ws : List (ℕ × Tree)) → Matches t now later meant xs ys → Matches t now later meant vs ws
    → Matches t now later meant (xs ++ vs) (ys ++ ws)
matches_joined t now later meant [] vs [] ws h g = g
matches_joined t now later meant [] vs (y ∷ ys) ws h g = absurd h
matches_joined t now later meant (x ∷ xs) vs [] ws h g = absurd h
matches_joined t now later meant (x ∷ xs) vs (y ∷ ys) ws h g = (h.0, matches_joined t now later meant xs vs ys ws h.1 g)

append_more : {X : Type 0} (xs ys zs : List X) → xs ++ (ys ++ zs) ≡ (xs ++ ys) ++ zs
append_more [] ys zs = refl
append_more (x ∷ xs) ys zs = ap (λ us. x ∷ us) (append_more xs ys zs)

invariants_joined : (fs gs : List Form) → forms_invariants (fs ++ gs) ≡ forms_invariants fs ++ forms_invariants gs
invariants_joined [] gs = refl
invariants_joined (f ∷ fs) gs = ap (λ us. role_invariant f.role f.body ++ us) (invariants_joined fs gs) ∙ append_more (role_invariant f.role f.body) (forms_invariants fs) (forms_invariants gs)

forms_match : (t : List Instance) (now later : Row) (meant : ℕ → Tree → Denotation) (fs gs : List Form) (ys ws : List (ℕ × Tree)) → Matches t now later meant (forms_invariants fs) ys
    → Matches t now later meant (forms_invariants gs) ws → Matches t now later meant (forms_invariants (fs ++ gs)) (ys ++ ws)
forms_match t now later meant fs gs ys ws h g =
    subst (λ xs. Matches t now later meant xs (ys ++ ws)) (sym (invariants_joined fs gs)) (matches_joined t now later meant (forms_invariants fs) (forms_invariants gs) ys ws h g)

assignments_none : (t : List Instance) (i : ℕ) (xs : List PlainAssignment) → forms_invariants (map (assignment_form t i) xs) ≡ []
assignments_none t i [] = refl
assignments_none t i (x ∷ xs) = assignments_none t i xs

contents_none : (t : List Instance) (k i : ℕ) (c : Content) → forms_invariants (content_form t k i c) ≡ []
contents_none t k i (variable kind d) = refl
contents_none t k i (definition j e) = refl
contents_none t k i (actual j e) = refl

bodies_none : (t : List Instance) (k : ℕ) (ms : List Origin) → forms_invariants (body_forms t k ms) ≡ []
bodies_none t k [] = refl
bodies_none t k (m ∷ ms) =
    invariants_joined (content_form t k m.instance m.content) (body_forms t (k + 1) ms)
    ∙ ap (λ us. us ++ forms_invariants (body_forms t (k + 1) ms)) (contents_none t k m.instance m.content) ∙ bodies_none t (k + 1) ms

element_matches : (t : List Instance) (now later target : Row) (meant : ℕ → Tree → Denotation) (value : ℕ → Path → Value) → Agrees t First now later target meant value
    → (i : ℕ) (el : PlainElement) → Holds (element_typing (types_in true t i) el) → Matches t now later meant (forms_invariants (element_forms t i el)) (element_invariants i el)
element_matches t now later target meant value g i (spec l e) c = (g.formulas i in_state refl refl e (split (typing (types_in true t i) in_state e).checks _ c).0, tt)
element_matches t now later target meant value g i (assigns xs) c = subst (λ us. Matches t now later meant us []) (sym (assignments_none t i xs)) tt
element_matches t now later target meant value g i (vars kind items) c = tt
element_matches t now later target meant value g i (defines ds) c = tt
element_matches t now later target meant value g i (constants cs) c = tt
element_matches t now later target meant value g i (init e) c = tt
element_matches t now later target meant value g i (trans e) c = tt
element_matches t now later target meant value g i (invar e) c = tt

elements_match : (t : List Instance) (now later target : Row) (meant : ℕ → Tree → Denotation) (value : ℕ → Path → Value) → Agrees t First now later target meant value
    → (i : ℕ) (es : List PlainElement) → Holds (flat_map (element_typing (types_in true t i)) es)
    → Matches t now later meant (forms_invariants (flat_map (element_forms t i) es)) (flat_map (element_invariants i) es)
elements_match t now later target meant value g i [] c = tt
elements_match t now later target meant value g i (el ∷ es) c =
    let s = split (element_typing (types_in true t i) el) (flat_map (element_typing (types_in true t i)) es) c in
    forms_match t now later meant (element_forms t i el) (flat_map (element_forms t i) es) (element_invariants i el) (flat_map (element_invariants i) es)
    (element_matches t now later target meant value g i el s.0) (elements_match t now later target meant value g i es s.1)

abbrev invariants_here : ℕ → Instance → List (ℕ × Tree)
invariants_here i at = flat_map (element_invariants i) at.module.elements

pub invariants_match : (t : List Instance) (now later target : Row) (meant : ℕ → Tree → Denotation) (value : ℕ → Path → Value) → Agrees t First now later target meant value
    → (k i : ℕ) (rest : List Instance) → Holds (over_instances (type_checks (types_in true t)) i rest)
    → Matches t now later meant (forms_invariants (forms_from t k i rest)) (over_instances invariants_here i rest)
invariants_match t now later target meant value g k i [] c = tt
invariants_match t now later target meant value g k i (at ∷ rest) c =
    let s = split (type_checks (types_in true t) i at) (over_instances (type_checks (types_in true t)) (i + 1) rest) c in
    let r = split (actuals_typing (types_in true t (parent_of at)) at.actuals) (flat_map (element_typing (types_in true t i)) at.module.elements) s.0 in
    forms_match t now later meant (forms_here t k i at) (forms_from t (k + _) (i + 1) rest) (invariants_here i at) (over_instances invariants_here (i + 1) rest)
    (forms_match t now later meant (body_forms t k (items_here i at)) (flat_map (element_forms t i) at.module.elements) [] (invariants_here i at)
    (subst (λ us. Matches t now later meant us []) (sym (bodies_none t k (items_here i at))) tt) (elements_match t now later target meant value g i at.module.elements r.1))
    (invariants_match t now later target meant value g (k + _) (i + 1) rest s.1)

-- the one of a number
pub match_at : (t : List Instance) (now later : Row) (state : Valuation) (xs : List FlatTree) (ys : List (ℕ × Tree)) (j : ℕ)
    → Matches t now later (λ i e. denoted (found_in t) (steps_of t) i e state no_values no_values) xs ys
    → is_false_in (flat_of t) now later (slice_get xs j) ≡ is_false_at t state (slice_get ys j)
match_at t now later state [] [] j h = refl
match_at t now later state [] (y ∷ ys) j h = absurd h
match_at t now later state (x ∷ xs) [] j h = absurd h
match_at t now later state (x ∷ xs) (y ∷ ys) zero h = ap (λ (d : Denotation). not (is_true d.value)) h.0
match_at t now later state (x ∷ xs) (y ∷ ys) (suc j) h = match_at t now later state xs ys j h.1
