-- What the checks of paths, cycles and types give.
use Rattle.std.proofs.Common.{◌≡◌, ℕ, zero, suc, ◌+◌, ◌<◌, Bool, true, false, not, ◌&&◌, if◌then◌else◌, List, [], ◌∷◌, ◌++◌, map, Option, Some, None, flat_map, refl, sym, ap, ◌∙◌, subst, arith}
use Rattle.std.proofs.lemmas.List.Folds.{list_all-append, list_all-map}
use mathlib.Core.Logic.{◌⊎◌, inl, inr, ⊎_elim}
use Rattle.std.specs.List.{slice_get, list_all}
use Rattle.text_core.specs.declared.place.Place.{Place}
use Rattle.smv_text.specs.declared.tree.Path.{Path}
use Rattle.smv_text.specs.declared.tree.Parameter.{Parameter}
use Rattle.smv_text.specs.declared.tree.VarKind.{VarKind}
use Rattle.smv_text.specs.Tree.{Tree, name, Trees, no_trees, tree, PlainDomain, boolean, members, between, bits, instance, PlainItem, PlainDefinition, PlainAssignment, PlainElement, vars, defines, constants, assigns, init, trans, invar, spec}
use Rattle.smv_text.specs.Heights.{list_of, of_definitions, of_assignments}
use Rattle.smv_meaning.specs.Expressions.{paths_of, tree_paths}
use Rattle.smv_meaning.specs.Instances.{Instance}
use Rattle.smv_meaning.specs.Names.{Local, body_of, of_actual, of_domain, among_items, among_definitions, among_elements, among_parameters, parent_of, Found, variable_at, body_at, instance_at, symbol_of, cyclic, none, found_in, steps_of, path_in, local}
use Rattle.smv_meaning.specs.Meaning.{is_input}
use Rattle.smv_meaning.specs.Types.{is_unmixed, has_width, has_order, domain_type, in_limit}
use Rattle.smv_meaning.specs.Checks.{Check, passes, Position, Named, typing, on_type, domain_checks, variable_type}
use Rattle.smv_meaning.specs.Naming.{in_body, typed_variable, named_found}
use Rattle.smv_meaning.specs.Phases.{over_instances, path_check, path_checks, element_paths, is_something, in_state, in_step, in_assignment, actual_typing, actuals_typing, formula_typing, assigned_typing, element_typing, type_checks, names_in}
use Rattle.smv_meaning.specs.Owed.{HasType}
use Rattle.smv_meaning.specs.Literals.{words_fit}
use Rattle.smv_meaning.specs.Parts.{IsPart, InTrees, InOne, expressions_in, InElements, InActuals, OccursIn}
use Rattle.smv_meaning.specs.Settled.{has_body, Acyclic, types_in, rank_of}
use Rattle.smv_meaning.specs.Checked.{IsChecked, instance_all, all_trees, names_instance}
use Rattle.smv_meaning.specs.laws.Booleans.{both_true, absurd_bool}
use Rattle.smv_laws.proofs.FoundLaws.{Closed, LocalGood, by_name, in_place, there, found_good}
use Rattle.smv_laws.proofs.Cycles.{In, in_all, in_left, in_right}
use Rattle.smv_laws.proofs.Agreeing.{more_paths, paths_before}
use Rattle.smv_laws.proofs.Typable.{TypedPaths, split, has_type, if_type}
use Rattle.smv_laws.proofs.Ranked.{key}
use Rattle.smv_laws.proofs.Settling.{Under, under_more, all_under, body_under, descent, ranking, types_settle_law}
use Rattle.smv_laws.proofs.PartLaws.{Sound, AnyHold, part_sound}

-- ---- the checks of an instance

over_pass : (f : ℕ → Instance → List Check) (n : ℕ) (t : List Instance) (i : ℕ) (at : Instance) → passes (over_instances f n t) ≡ true → slice_get t i ≡ Some at → passes (f (n + i) at) ≡ true
over_pass f n [] i at h e = cc
over_pass f n (a ∷ t) zero at h e =
    let same : a ≡ at = cc in
    let there : n ≡ n + zero = omega arith in
    subst (λ m. passes (f m at) ≡ true) there (subst (λ z. passes (f n z) ≡ true) same (split (f n a) (over_instances f (n + 1) t) h).0)
over_pass f n (a ∷ t) (suc i) at h e =
    let there : n + 1 + i ≡ n + suc i = omega arith in
    subst (λ m. passes (f m at) ≡ true) there (over_pass f (n + 1) t i at (split (f n a) (over_instances f (n + 1) t) h).1 e)

at_pass : (f : ℕ → Instance → List Check) (t : List Instance) (i : ℕ) (at : Instance) → passes (over_instances f 0 t) ≡ true → slice_get t i ≡ Some at → passes (f i at) ≡ true
at_pass f t i at h e = let there : 0 + i ≡ i = omega arith in subst (λ m. passes (f m at) ≡ true) there (over_pass f 0 t i at h e)

-- each path leads to something
abbrev pub Lead : List Instance → ℕ → List Path → Type 0
Lead t i xs = (q : Path) → In q xs → is_something (found_in t i q) ≡ true

lead : (t : List Instance) (i : ℕ) (xs : List Path) → passes (map (path_check (found_in t) i) xs) ≡ true → Lead t i xs
lead t i xs h q g =
    in_all (λ q. is_something (found_in t i q)) q xs (sym (list_all-map (λ (c : Check). c.holds) (path_check (found_in t) i) xs) ∙ h) g

-- ---- a body, or another expression in a place where its checks hold

pub record Placed (t : List Instance) (i : ℕ) (at : Position) (e : Tree) : Type 0 where
  pub paths : Lead t i (paths_of e [])
  pub words : words_fit e ≡ true
  pub checks : passes (typing (types_in true t i) at e).checks ≡ true

-- a body is placed, and a variable has a type
abbrev pub Given : List Instance → Found → Type 0
Given t (body_at i x j e) = Placed t j in_body e
Given t (variable_at x kind d) = HasType (variable_type d)
Given t m = Unit {0}

given_closed : (t : List Instance) → Closed (Given t)
given_closed t = record { instances = λ i. tt; symbols = λ x. tt; circles = tt; missing = tt }

pub four : (a b c d : Bool) → (a && (b && (c && (d && true)))) ≡ true → (((a && b) && c) && d) ≡ true
four true true true true h = refl
four true true true false h = absurd_bool h
four true true false d h = absurd_bool h
four true false c d h = absurd_bool h
four false b c d h = absurd_bool h

variable_has : (p : Place) (d : PlainDomain) → passes (domain_checks p d) ≡ true → HasType (domain_type d) → HasType (variable_type d)
variable_has p d h k = if_type _ (domain_type d) (four (is_unmixed d) (on_type (domain_type d) in_limit) (has_width d) (has_order d) h) k

given_domain : (t : List Instance) (path : List ℕ) (i : ℕ) (x : List ℕ) (kind : VarKind) (p : Place) (d : PlainDomain) → passes (domain_checks p d) ≡ true → LocalGood (Given t) path i x (of_domain kind d)
given_domain t path i x kind p boolean h = variable_has p boolean h refl
given_domain t path i x kind p (members ms) h = variable_has p (members ms) h refl
given_domain t path i x kind p (between low high) h = variable_has p (between low high) h refl
given_domain t path i x kind p (bits n) h = variable_has p (bits n) h refl
given_domain t path i x kind p (instance m actuals) h = tt

given_items : (t : List Instance) (path : List ℕ) (i : ℕ) (kind : VarKind) (items : List PlainItem) (x : List ℕ) (other : Local)
    → passes (flat_map (λ item. domain_checks item.domain_place item.domain) items) ≡ true → LocalGood (Given t) path i x other → LocalGood (Given t) path i x (among_items kind items x other)
given_items t path i kind [] x other h k = k
given_items t path i kind (item ∷ items) x other h k =
    let b = split (domain_checks item.domain_place item.domain) (flat_map (λ (m : PlainItem). domain_checks m.domain_place m.domain) items) h in
    by_name (λ y l. LocalGood (Given t) path i y l) item.name x (of_domain kind item.domain) (among_items kind items x other)
    (λ e. given_domain t path i x kind item.domain_place item.domain b.0) (given_items t path i kind items x other b.1 k)

-- ---- word literals

abbrev Words : List Tree → Type 0
Words es = list_all words_fit es ≡ true

both_words : (e : Tree) (es : List Tree) → Words (e ∷ es) → (words_fit e ≡ true) × Words es
both_words e es f = both_true (words_fit e) (list_all words_fit es) f

both_fit : (xs ys : List Tree) → Words (xs ++ ys) → Words xs × Words ys
both_fit xs ys f = both_true (list_all words_fit xs) (list_all words_fit ys) (sym (list_all-append words_fit xs ys) ∙ f)

pub left_lead : (t : List Instance) (i : ℕ) (xs ys : List Path) → Lead t i (xs ++ ys) → Lead t i xs
left_lead t i xs ys h q g = h q (in_left q xs ys g)

pub right_lead : (t : List Instance) (i : ℕ) (xs ys : List Path) → Lead t i (xs ++ ys) → Lead t i ys
right_lead t i xs ys h q g = h q (in_right q xs ys g)

abbrev names_at : List Instance → ℕ → Path → Named
names_at t i = types_in true t i

given_definitions : (t : List Instance) (path : List ℕ) (i : ℕ) (ds : List PlainDefinition) (x : List ℕ) (other : Local)
    → passes (flat_map (λ d. (typing (names_at t i) in_body d.body).checks) ds) ≡ true → Lead t i (flat_map (λ d. paths_of d.body []) ds) → Words (of_definitions ds)
    → LocalGood (Given t) path i x other → LocalGood (Given t) path i x (among_definitions i ds x other)
given_definitions t path i [] x other h l f k = k
given_definitions t path i (d ∷ ds) x other h l f k =
    let b = split (typing (names_at t i) in_body d.body).checks (flat_map (λ (c : PlainDefinition). (typing (names_at t i) in_body c.body).checks) ds) h in
    let w = both_words d.body (of_definitions ds) f in
    by_name (λ y m. LocalGood (Given t) path i y m) d.name x (body_of i d.body) (among_definitions i ds x other)
    (λ e. record {
      paths = left_lead t i (paths_of d.body []) (flat_map (λ (c : PlainDefinition). paths_of c.body []) ds) l;
      words = w.0;
      checks = b.0;
    })
    (given_definitions t path i ds x other b.1 (right_lead t i (paths_of d.body []) (flat_map (λ (c : PlainDefinition). paths_of c.body []) ds) l) (both_words d.body (of_definitions ds) f).1 k)

given_elements : (t : List Instance) (path : List ℕ) (i : ℕ) (es : List PlainElement) (x : List ℕ) → passes (flat_map (element_typing (names_at t i)) es) ≡ true → Lead t i (flat_map element_paths es)
    → Words (flat_map expressions_in es) → LocalGood (Given t) path i x (among_elements i es x)
given_elements t path i [] x h l f = tt
given_elements t path i (vars kind items ∷ es) x h l f =
    let b = split (element_typing (names_at t i) (vars kind items)) (flat_map (element_typing (names_at t i)) es) h in
    given_items t path i kind items x (among_elements i es x) b.0 (given_elements t path i es x b.1 l f)
given_elements t path i (defines ds ∷ es) x h l f =
    let b = split (element_typing (names_at t i) (defines ds)) (flat_map (element_typing (names_at t i)) es) h in
    let g = both_fit (of_definitions ds) (flat_map expressions_in es) f in
    given_definitions t path i ds x (among_elements i es x) b.0 (left_lead t i (element_paths (defines ds)) (flat_map element_paths es) l) g.0
    (given_elements t path i es x b.1 (right_lead t i (element_paths (defines ds)) (flat_map element_paths es) l) g.1)
given_elements t path i (e ∷ es) x h l f =
    let b = split (element_typing (names_at t i) e) (flat_map (element_typing (names_at t i)) es) h in
    given_elements t path i es x b.1 (right_lead t i (element_paths e) (flat_map element_paths es) l) (both_fit (expressions_in e) (flat_map expressions_in es) f).1

given_actual : (t : List Instance) (path : List ℕ) (i j : ℕ) (x : List ℕ) (e : Tree) (more : List Path) → passes (actual_typing (names_at t j) e) ≡ true → Lead t j (paths_of e more)
    → words_fit e ≡ true → LocalGood (Given t) path i x (of_actual j e)
given_actual t path i j x (name p q) more h l w = tt
given_actual t path i j x e more h l w = record { paths = λ r g. l r (paths_before e more r g); words = w; checks = h }

pub more_lead : (t : List Instance) (i : ℕ) (e : Tree) (more : List Path) → Lead t i (paths_of e more) → Lead t i more
more_lead t i e more h q g = h q (more_paths e more q g)

given_parameters : (t : List Instance) (path : List ℕ) (i j : ℕ) (qs : List Parameter) (es : Trees) (x : List ℕ) (other : Local)
    → passes (actuals_typing (names_at t j) es) ≡ true → Lead t j (tree_paths es []) → Words (list_of es) → LocalGood (Given t) path i x other
    → LocalGood (Given t) path i x (among_parameters j qs es x other)
given_parameters t path i j [] es x other h l f k = k
given_parameters t path i j (q ∷ qs) no_trees x other h l f k = k
given_parameters t path i j (q ∷ qs) (tree e es) x other h l f k =
    let b = split (actual_typing (names_at t j) e) (actuals_typing (names_at t j) es) h in
    let w = both_words e (list_of es) f in
    by_name (λ y m. LocalGood (Given t) path i y m) q.name x (of_actual j e) (among_parameters j qs es x other)
    (λ s. given_actual t path i j x e (tree_paths es []) b.0 l w.0)
    (given_parameters t path i j qs es x other b.1 (more_lead t j e (tree_paths es []) l) (both_words e (list_of es) f).1 k)

-- ---- an instance's checks

pub record Checked (t : List Instance) (i : ℕ) (at : Instance) : Type 0 where
  pub actual_types : passes (actuals_typing (types_in true t (parent_of at)) at.actuals) ≡ true
  pub element_types : passes (flat_map (element_typing (types_in true t i)) at.module.elements) ≡ true
  pub actual_paths : Lead t (parent_of at) (tree_paths at.actuals [])
  pub element_paths_lead : Lead t i (flat_map element_paths at.module.elements)
  pub actual_words : list_all words_fit (list_of at.actuals) ≡ true
  pub element_words : list_all words_fit (flat_map expressions_in at.module.elements) ≡ true

pub checked_at : (t : List Instance) → IsChecked t → all_trees words_fit t ≡ true → (i : ℕ) (at : Instance) → slice_get t i ≡ Some at → Checked t i at
checked_at t c w i at e =
    let types = split (actuals_typing (types_in true t (parent_of at)) at.actuals) (flat_map (element_typing (types_in true t i)) at.module.elements) (at_pass (type_checks (names_in t)) t i at c.types e) in
    let paths = split (map (path_check (found_in t) (parent_of at)) (tree_paths at.actuals [])) (map (path_check (found_in t) i) (flat_map element_paths at.module.elements)) (at_pass (path_checks (found_in t)) t i at c.paths e) in
    let words = both_true (list_all words_fit (list_of at.actuals)) (list_all words_fit (flat_map expressions_in at.module.elements)) (there (instance_all words_fit) t i at w e) in
    record {
      actual_types = types.0;
      element_types = types.1;
      actual_paths = lead t (parent_of at) (tree_paths at.actuals []) paths.0;
      element_paths_lead = lead t i (flat_map element_paths at.module.elements) paths.1;
      actual_words = words.0;
      element_words = words.1;
    }

-- what a name is in its instance is in order
pub local_given : (t : List Instance) → ((i : ℕ) (at : Instance) → slice_get t i ≡ Some at → Checked t i at) → (i : ℕ) (x : List ℕ) → LocalGood (Given t) (path_in (slice_get t i)) i x (local t i x)
local_given t c i x = in_place (Given t) i x (slice_get t i)
    (λ at e.
    let k = c i at e in
    given_parameters t at.path i (parent_of at) at.module.parameters at.actuals x (among_elements i at.module.elements x) k.actual_types k.actual_paths k.actual_words
    (given_elements t at.path i at.module.elements x k.element_types k.element_paths_lead k.element_words))

pub all_given : (t : List Instance) → ((i : ℕ) (at : Instance) → slice_get t i ≡ Some at → Checked t i at) → (i : ℕ) (path : Path) → Given t (found_in t i path)
all_given t c i path = found_good (Given t) (given_closed t) t (local_given t c) i path

-- ---- names have types

pub named_instance : (t : List Instance) (m : Found) → (named_found true (types_in true t) m).is_instance ≡ names_instance m
named_instance t (variable_at x kind d) = refl
named_instance t (body_at i x j e) = refl
named_instance t (instance_at i) = refl
named_instance t (symbol_of x) = refl
named_instance t cyclic = refl
named_instance t none = refl

label_there : (kind : VarKind) (d : PlainDomain) → HasType (variable_type d) → HasType (typed_variable true kind d)
label_there kind d h = by (is_input kind)
  where
    by : (b : Bool) → HasType (if b && not true then None else variable_type d)
    by true = h
    by false = h

typed_names : (t : List Instance) (a : Acyclic t) → ((i : ℕ) (path : Path) → Given t (found_in t i path))
    → (n i : ℕ) (path : Path) → Under t (rank_of t) n (found_in t i path) → 0 < n → is_something (found_in t i path) ≡ true → (types_in true t i path).is_instance ≡ false → HasType (types_in true t i path).type
typed_names t a g zero i path u p s f = absurd (omega arith)
typed_names t a g (suc n) i path u p s f =
    let e = types_settle_law t a true i path in
    subst (λ (m : Named). HasType m.type) (sym e)
    (by (found_in t i path) (g i path) u s (sym (named_instance t (found_in t i path)) ∙ sym (ap (λ (m : Named). m.is_instance) e) ∙ f) (λ j q v w r b. typed_names t a g n j q v w r b))
  where
    by : (m : Found) → Given t m → Under t (rank_of t) (suc n) m → is_something m ≡ true → names_instance m ≡ false
        → ((j : ℕ) (q : Path) → Under t (rank_of t) n (found_in t j q) → 0 < n → is_something (found_in t j q) ≡ true → (types_in true t j q).is_instance ≡ false → HasType (types_in true t j q).type)
        → HasType (named_found true (types_in true t) m).type
    by (variable_at x kind d) h v r b ih = label_there kind d h
    by (body_at k x j c) h v r b ih =
        let less = v.0 in
        let above = (ranking t a).positive (key k x) (ap has_body v.1) in
        has_type (types_in true t j) in_body c []
        (λ q i f. ih j q (under_more t (rank_of t) (rank_of t (key k x)) n (omega arith) (found_in t j q) (body_under t (rank_of t) (descent t (rank_of t) (ranking t a)) k x j c v.1 q i)) (omega arith) (h.paths q i) f)
        h.words h.checks
    by (instance_at k) h v r b ih = absurd_bool (sym b)
    by (symbol_of x) h v r b ih = refl
    by cyclic h v r b ih = absurd v
    by none h v r b ih = absurd_bool r

pub all_typed : (t : List Instance) (a : Acyclic t) → ((i : ℕ) (path : Path) → Given t (found_in t i path))
    → (i : ℕ) (path : Path) → is_something (found_in t i path) ≡ true → (types_in true t i path).is_instance ≡ false → HasType (types_in true t i path).type
all_typed t a g i path s f = typed_names t a g (steps_of t) i path (all_under t (rank_of t) (ranking t a) i path) (omega arith) s f

-- ---- expressions of an instance

-- an expression with sound checks, or the name of something, as an actual may be
abbrev pub SoundOrName : List Instance → ℕ → Tree → Type 0
SoundOrName t i e = Sound (types_in true t i) e ⊎ ((p : Place) × (x : Path) × (e ≡ name p x) × (is_something (found_in t i x) ≡ true))

-- names have types wherever they lead to something
abbrev pub AllTyped : List Instance → Type 0
AllTyped t = (i : ℕ) (path : Path) → is_something (found_in t i path) ≡ true → (types_in true t i path).is_instance ≡ false → HasType (types_in true t i path).type

typed_paths : (t : List Instance) (i : ℕ) (xs : List Path) → AllTyped t → Lead t i xs → TypedPaths (types_in true t i) xs
typed_paths t i xs g l q h f = g i q (l q h) f

part_of : (t : List Instance) (i : ℕ) (x : Tree) → AllTyped t → Lead t i (paths_of x []) → words_fit x ≡ true → AnyHold (types_in true t i) x → (e : Tree) → IsPart e x
    → SoundOrName t i e
part_of t i x g l w k e h = inl (part_sound (types_in true t i) x [] (typed_paths t i (paths_of x []) g l) w k e h)

in_definitions : (t : List Instance) (i : ℕ) (ds : List PlainDefinition) → AllTyped t → passes (flat_map (λ d. (typing (names_at t i) in_body d.body).checks) ds) ≡ true
    → Lead t i (flat_map (λ d. paths_of d.body []) ds) → Words (of_definitions ds) → (e : Tree) → InOne e (of_definitions ds) → SoundOrName t i e
in_definitions t i [] g h l f e k = absurd k
in_definitions t i (d ∷ ds) g h l f e k =
    let b = split (typing (names_at t i) in_body d.body).checks (flat_map (λ (c : PlainDefinition). (typing (names_at t i) in_body c.body).checks) ds) h in
    let w = both_words d.body (of_definitions ds) f in
    ⊎_elim (λ s. part_of t i d.body g (left_lead t i (paths_of d.body []) (flat_map (λ (c : PlainDefinition). paths_of c.body []) ds) l) w.0 (in_body, b.0) e s)
    (λ s. in_definitions t i ds g b.1 (right_lead t i (paths_of d.body []) (flat_map (λ (c : PlainDefinition). paths_of c.body []) ds) l) (both_words d.body (of_definitions ds) f).1 e s) k

first_lead : (t : List Instance) (i : ℕ) (x : Path) (xs : List Path) → Lead t i (x ∷ xs) → Lead t i xs
first_lead t i x xs h q g = h q (inr g)

in_assignments : (t : List Instance) (i : ℕ) (xs : List PlainAssignment) → AllTyped t → passes (flat_map (assigned_typing (names_at t i)) xs) ≡ true
    → Lead t i (flat_map (λ a. a.target ∷ paths_of a.body []) xs) → Words (of_assignments xs) → (e : Tree) → InOne e (of_assignments xs) → SoundOrName t i e
in_assignments t i [] g h l f e k = absurd k
in_assignments t i (a ∷ xs) g h l f e k =
    let b = split (assigned_typing (names_at t i) a) (flat_map (assigned_typing (names_at t i)) xs) h in
    let c = split (typing (names_at t i) (in_assignment a.when) a.body).checks _ b.0 in
    let w = both_words a.body (of_assignments xs) f in
    let own = left_lead t i (a.target ∷ paths_of a.body []) (flat_map (λ (z : PlainAssignment). z.target ∷ paths_of z.body []) xs) l in
    ⊎_elim (λ s. part_of t i a.body g (first_lead t i a.target (paths_of a.body []) own) w.0 (in_assignment a.when, c.0) e s)
    (λ s. in_assignments t i xs g b.1 (right_lead t i (a.target ∷ paths_of a.body []) (flat_map (λ (z : PlainAssignment). z.target ∷ paths_of z.body []) xs) l) (both_words a.body (of_assignments xs) f).1 e s) k

in_formula : (t : List Instance) (i : ℕ) (at : Position) (x : Tree) → AllTyped t → passes (formula_typing (names_at t i) at x) ≡ true → Lead t i (paths_of x []) → Words (x ∷ []) → (e : Tree)
    → InOne e (x ∷ []) → SoundOrName t i e
in_formula t i at x g h l f e k =
    let w = both_words x [] f in
    ⊎_elim (λ s. part_of t i x g l w.0 (at, (split (typing (names_at t i) at x).checks _ h).0) e s) (λ s. absurd s) k

in_element : (t : List Instance) (i : ℕ) (m : PlainElement) → AllTyped t → passes (element_typing (names_at t i) m) ≡ true → Lead t i (element_paths m) → Words (expressions_in m) → (e : Tree)
    → InOne e (expressions_in m) → SoundOrName t i e
in_element t i (vars kind items) g h l f e k = absurd k
in_element t i (defines ds) g h l f e k = in_definitions t i ds g h l f e k
in_element t i (constants names) g h l f e k = absurd k
in_element t i (assigns xs) g h l f e k = in_assignments t i xs g h l f e k
in_element t i (init x) g h l f e k = in_formula t i in_state x g h l f e k
in_element t i (trans x) g h l f e k = in_formula t i in_step x g h l f e k
in_element t i (invar x) g h l f e k = in_formula t i in_state x g h l f e k
in_element t i (spec label x) g h l f e k = in_formula t i in_state x g h l f e k

either_one : (e : Tree) (xs ys : List Tree) → InOne e (xs ++ ys) → InOne e xs ⊎ InOne e ys
either_one e [] ys h = inr h
either_one e (x ∷ xs) ys (inl h) = inl (inl h)
either_one e (x ∷ xs) ys (inr h) = ⊎_elim (λ a. inl (inr a)) (λ b. inr b) (either_one e xs ys h)

in_elements : (t : List Instance) (i : ℕ) (ms : List PlainElement) → AllTyped t → passes (flat_map (element_typing (names_at t i)) ms) ≡ true → Lead t i (flat_map element_paths ms)
    → Words (flat_map expressions_in ms) → (e : Tree) → InOne e (flat_map expressions_in ms) → SoundOrName t i e
in_elements t i [] g h l f e k = absurd k
in_elements t i (m ∷ ms) g h l f e k =
    let b = split (element_typing (names_at t i) m) (flat_map (element_typing (names_at t i)) ms) h in
    let w = both_fit (expressions_in m) (flat_map expressions_in ms) f in
    ⊎_elim (λ s. in_element t i m g b.0 (left_lead t i (element_paths m) (flat_map element_paths ms) l) w.0 e s)
    (λ s. in_elements t i ms g b.1 (right_lead t i (element_paths m) (flat_map element_paths ms) l) w.1 e s) (either_one e (expressions_in m) (flat_map expressions_in ms) k)

in_actual : (t : List Instance) (i : ℕ) (x : Tree) (more : List Path) → AllTyped t → passes (actual_typing (names_at t i) x) ≡ true → Lead t i (paths_of x more) → words_fit x ≡ true
    → (e : Tree) → IsPart e x → SoundOrName t i e
in_actual t i (name p q) more g h l w e k = inr (p, q, k, l q (inl refl))
in_actual t i x more g h l w e k = part_of t i x g (λ r s. l r (paths_before x more r s)) w (in_body, h) e k

in_trees : (t : List Instance) (i : ℕ) (xs : Trees) → AllTyped t → passes (actuals_typing (names_at t i) xs) ≡ true → Lead t i (tree_paths xs []) → Words (list_of xs) → (e : Tree) → InTrees e xs
    → SoundOrName t i e
in_trees t i no_trees g h l f e k = absurd k
in_trees t i (tree x xs) g h l f e k =
    let b = split (actual_typing (names_at t i) x) (actuals_typing (names_at t i) xs) h in
    let w = both_words x (list_of xs) f in
    ⊎_elim (λ s. in_actual t i x (tree_paths xs []) g b.0 l w.0 e s) (λ s. in_trees t i xs g b.1 (more_lead t i x (tree_paths xs []) l) (both_words x (list_of xs) f).1 e s) k

-- where an instance is in the list
actual_at : (i : ℕ) (e : Tree) (t : List Instance) → InActuals i e t → (c : ℕ) × (at : Instance) × (slice_get t c ≡ Some at) × (parent_of at ≡ i) × InTrees e at.actuals
actual_at i e [] h = absurd h
actual_at i e (at ∷ t) (inl h) = (0, at, refl, h.0, h.1)
actual_at i e (at ∷ t) (inr h) = let r = actual_at i e t h in (suc r.0, r.1, r.2, r.3, r.4)

pub stands_sound : (t : List Instance) → AllTyped t → ((i : ℕ) (at : Instance) → slice_get t i ≡ Some at → Checked t i at) → (i : ℕ) (e : Tree) → OccursIn t i e → SoundOrName t i e
stands_sound t g c i e (inl h) = by (slice_get t i) refl h
  where
    by : (o : Option Instance) → slice_get t i ≡ o → InElements e o → SoundOrName t i e
    by None s k = absurd k
    by (Some at) s k = let r = c i at s in in_elements t i at.module.elements g r.element_types r.element_paths_lead r.element_words e k
stands_sound t g c i e (inr h) =
    let r = actual_at i e t h in
    let k = c r.0 r.1 r.2 in
    subst (λ j. SoundOrName t j e) r.3 (in_trees t (parent_of r.1) r.1.actuals g k.actual_types k.actual_paths k.actual_words e r.4)
