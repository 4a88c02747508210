-- The checks of cycles, and a rank of definitions and actuals.
use Rattle.std.proofs.Common.{◌≡◌, ℕ, zero, suc, ◌+◌, ◌<◌, ◌≤◌, Bool, true, false, not, ◌&&◌, ◌||◌, nat_lt, if◌then◌else◌, List, [], ◌∷◌, ◌++◌, map, length, Option, Some, None, bytes_eq, sum_by, flat_map, refl, sym, ap, ◌∙◌, subst, arith}
use Rattle.std.proofs.lemmas.Bool.{ltb-true}
use Rattle.std.proofs.lemmas.Bool.Decides.{Decides-ltb}
use Rattle.std.proofs.lemmas.Slice.Eq.{bytes_eq-Decides}
use Rattle.std.proofs.lemmas.List.{length-append, length-map}
use Rattle.std.proofs.lemmas.List.Folds.{list_all-append}
use Rattle.std.proofs.lemmas.List.Sums.{sum_by-cons}
use mathlib.Core.Logic.{◌⊎◌, inl, inr, ⊎_elim}
use Rattle.std.specs.List.{slice_get, list_all, list_any}
use Rattle.smv_text.specs.declared.tree.Parameter.{Parameter}
use Rattle.smv_text.specs.declared.tree.VarKind.{VarKind}
use Rattle.smv_text.specs.Tree.{Trees, no_trees, tree, PlainDomain, boolean, members, between, bits, instance, PlainItem, PlainDefinition, PlainElement, vars, defines}
use Rattle.smv_meaning.specs.Instances.{Instance}
use Rattle.smv_meaning.specs.Names.{Local, alias, body_of, variable_of, inner, nothing, of_actual, of_domain, among_items, among_definitions, among_elements, among_parameters, parent_of, local_in, local, Found, instance_at, look, definitions_in, trees_in, bodies_in, steps_of}
use Rattle.smv_meaning.specs.Expressions.{paths_of}
use Rattle.smv_meaning.specs.Checks.{Check, passes}
use Rattle.smv_meaning.specs.Phases.{Body, body_same, body_here, from_instance, path_bodies, referred, refers, reaches, actual_cycles, element_cycles, cycle_checks, over_instances}
use Rattle.smv_meaning.specs.Settled.{Acyclic, has_body, cycle_checks_of, IsRank, RankedIsAcyclic, CyclesAreChecked, AcyclicIsRanked, rank_of}
use Rattle.smv_meaning.specs.laws.Booleans.{or_true, absurd_bool}
use Rattle.smv_laws.proofs.Cycles.{In, any_in, in_all, all_in, in_left, in_right, in_either, in_flat, same_is, Within, chain_falls, chain_most}

-- ---- the definitions and actuals of a model

abbrev pub key : ℕ → List ℕ → Body
key i x = (i, x)

abbrev pub actual_keys : ℕ → List Parameter → Trees → List Body
actual_keys i [] es = []
actual_keys i (q ∷ qs) no_trees = []
actual_keys i (q ∷ qs) (tree e es) = key i q.name ∷ actual_keys i qs es

abbrev pub element_keys : ℕ → PlainElement → List Body
element_keys i (defines ds) = map (λ d. key i d.name) ds
element_keys i e = []

abbrev pub keys_in : ℕ → Instance → List Body
keys_in i at = actual_keys i at.module.parameters at.actuals ++ flat_map (element_keys i) at.module.elements

abbrev pub keys_of : List Instance → List Body
keys_of t = over_instances keys_in 0 t

name_is : (i : ℕ) (y x : List ℕ) → bytes_eq y x ≡ true → key i x ≡ key i y
name_is i y x h = ap (key i) (sym ((bytes_eq-Decides y x).0 h))

if_body : (b : Bool) (l m : Local) → has_body (if b then l else m) ≡ true → ((b ≡ true) × (has_body l ≡ true)) ⊎ (has_body m ≡ true)
if_body true l m h = inl (refl, h)
if_body false l m h = inr h

domain_is_none : (kind : VarKind) (d : PlainDomain) → has_body (of_domain kind d) ≡ false
domain_is_none kind boolean = refl
domain_is_none kind (members ms) = refl
domain_is_none kind (between low high) = refl
domain_is_none kind (bits n) = refl
domain_is_none kind (instance m actuals) = refl

past_items : (kind : VarKind) (items : List PlainItem) (x : List ℕ) (other : Local) → has_body (among_items kind items x other) ≡ true → has_body other ≡ true
past_items kind [] x other h = h
past_items kind (item ∷ items) x other h =
    ⊎_elim (λ s. absurd_bool (sym (domain_is_none kind item.domain) ∙ s.1)) (λ s. past_items kind items x other s)
    (if_body (bytes_eq item.name x) (of_domain kind item.domain) (among_items kind items x other) h)

in_definitions : (i : ℕ) (ds : List PlainDefinition) (x : List ℕ) (other : Local) → has_body (among_definitions i ds x other) ≡ true
    → In (key i x) (map (λ d. key i d.name) ds) ⊎ (has_body other ≡ true)
in_definitions i [] x other h = inr h
in_definitions i (d ∷ ds) x other h =
    ⊎_elim (λ s. inl (inl (name_is i d.name x s.0))) (λ s. ⊎_elim (λ a. inl (inr a)) (λ b. inr b) (in_definitions i ds x other s))
    (if_body (bytes_eq d.name x) (body_of i d.body) (among_definitions i ds x other) h)

in_elements : (i : ℕ) (es : List PlainElement) (x : List ℕ) → has_body (among_elements i es x) ≡ true → In (key i x) (flat_map (element_keys i) es)
in_elements i [] x h = absurd_bool h
in_elements i (vars kind items ∷ es) x h = in_elements i es x (past_items kind items x (among_elements i es x) h)
in_elements i (defines ds ∷ es) x h =
    ⊎_elim (λ s. in_left (key i x) (element_keys i (defines ds)) (flat_map (element_keys i) es) s)
    (λ s. in_right (key i x) (element_keys i (defines ds)) (flat_map (element_keys i) es) (in_elements i es x s)) (in_definitions i ds x (among_elements i es x) h)
in_elements i (e ∷ es) x h = in_elements i es x h

in_parameters : (i j : ℕ) (qs : List Parameter) (es : Trees) (x : List ℕ) (other : Local) → has_body (among_parameters j qs es x other) ≡ true
    → In (key i x) (actual_keys i qs es) ⊎ (has_body other ≡ true)
in_parameters i j [] es x other h = inr h
in_parameters i j (q ∷ qs) no_trees x other h = inr h
in_parameters i j (q ∷ qs) (tree e es) x other h =
    ⊎_elim (λ s. inl (inl (name_is i q.name x s.0))) (λ s. ⊎_elim (λ a. inl (inr a)) (λ b. inr b) (in_parameters i j qs es x other s))
    (if_body (bytes_eq q.name x) (of_actual j e) (among_parameters j qs es x other) h)

in_instance : (i : ℕ) (x : List ℕ) (at : Instance) → has_body (local_in i x (Some at)) ≡ true → In (key i x) (keys_in i at)
in_instance i x at h =
    ⊎_elim (λ s. in_left (key i x) (actual_keys i at.module.parameters at.actuals) (flat_map (element_keys i) at.module.elements) s)
    (λ s. in_right (key i x) (actual_keys i at.module.parameters at.actuals) (flat_map (element_keys i) at.module.elements) (in_elements i at.module.elements x s))
    (in_parameters i (parent_of at) at.module.parameters at.actuals x (among_elements i at.module.elements x) h)

pub over_in : {X : Type 0} (f : ℕ → Instance → List X) (k : X) (n : ℕ) (t : List Instance) (i : ℕ) (at : Instance) → slice_get t i ≡ Some at → In k (f (n + i) at) → In k (over_instances f n t)
over_in f k n [] i at e h = cc
over_in f k n (a ∷ t) zero at e h =
    let same : a ≡ at = cc in
    let there : n + zero ≡ n = omega arith in
    in_left k (f n a) (over_instances f (n + 1) t) (subst (λ m. In k (f m a)) there (subst (λ z. In k (f (n + zero) z)) (sym same) h))
over_in f k n (a ∷ t) (suc i) at e h =
    let there : n + suc i ≡ n + 1 + i = omega arith in
    in_right k (f n a) (over_instances f (n + 1) t) (over_in f k (n + 1) t i at e (subst (λ m. In k (f m at)) there h))

pub in_keys : (t : List Instance) (i : ℕ) (x : List ℕ) → has_body (local t i x) ≡ true → In (key i x) (keys_of t)
in_keys t i x h = by (slice_get t i) refl h
  where
    by : (o : Option Instance) → slice_get t i ≡ o → has_body (local_in i x o) ≡ true → In (key i x) (keys_of t)
    by None e k = absurd_bool k
    by (Some at) e k =
        let there : i ≡ 0 + i = omega arith in over_in keys_in (key i x) 0 t i at e (subst (λ m. In (key i x) (keys_in m at)) there (in_instance i x at k))

-- ---- no more than are counted

actuals_counted : (i : ℕ) (qs : List Parameter) (es : Trees) → length (actual_keys i qs es) ≤ trees_in es
actuals_counted i [] es = omega arith
actuals_counted i (q ∷ qs) no_trees = omega arith
actuals_counted i (q ∷ qs) (tree e es) = let h = actuals_counted i qs es in omega arith

element_counted : (i : ℕ) (e : PlainElement) → length (element_keys i e) ≤ definitions_in e
element_counted i (vars kind items) = omega arith
element_counted i (defines ds) = let h = length-map {A = PlainDefinition} {B = Body} ds (λ d. key i d.name) in omega arith
element_counted i e = omega arith

elements_counted : (i : ℕ) (es : List PlainElement) → length (flat_map (element_keys i) es) ≤ sum_by definitions_in es
elements_counted i [] = omega arith
elements_counted i (e ∷ es) =
    let a = element_counted i e in
    let b = elements_counted i es in
    let c = length-append (element_keys i e) (flat_map (element_keys i) es) in
    let d = sum_by-cons definitions_in e es in
    omega arith

over_counted : (n : ℕ) (t : List Instance) → length (over_instances keys_in n t) ≤ sum_by bodies_in t
over_counted n [] = omega arith
over_counted n (at ∷ t) =
    let a = actuals_counted n at.module.parameters at.actuals in
    let b = elements_counted n at.module.elements in
    let c = length-append (actual_keys n at.module.parameters at.actuals) (flat_map (element_keys n) at.module.elements) in
    let d = over_counted (n + 1) t in
    let e = length-append (keys_in n at) (over_instances keys_in (n + 1) t) in
    let f = sum_by-cons bodies_in at t in
    omega arith

pub keys_counted : (t : List Instance) → length (keys_of t) ≤ sum_by bodies_in t
keys_counted t = over_counted 0 t

-- ---- the tests of the checks are the tests of the keys

test_all : {X Y : Type 0} (p : X → Bool) (q : Y → Bool) (f : ℕ → Instance → List X) (g : ℕ → Instance → List Y) → ((i : ℕ) (at : Instance) → list_all p (f i at) ≡ list_all q (g i at))
    → (n : ℕ) (t : List Instance) → list_all p (over_instances f n t) ≡ list_all q (over_instances g n t)
test_all p q f g h n [] = refl
test_all p q f g h n (at ∷ t) =
    list_all-append p (f n at) (over_instances f (n + 1) t)
    ∙ ap (λ b. b && list_all p (over_instances f (n + 1) t)) (h n at)
    ∙ ap (λ b. list_all q (g n at) && b) (test_all p q f g h (n + 1) t)
    ∙ sym (list_all-append q (g n at) (over_instances g (n + 1) t))

abbrev pub is_clear : List Instance → Body → Bool
is_clear t k = not (reaches (refers t) (steps_of t) k k)

abbrev holds : Check → Bool
holds c = c.holds

actual_tests : (t : List Instance) (i : ℕ) (qs : List Parameter) (es : Trees) → list_all holds (actual_cycles t i qs es) ≡ list_all (is_clear t) (actual_keys i qs es)
actual_tests t i [] es = refl
actual_tests t i (q ∷ qs) no_trees = refl
actual_tests t i (q ∷ qs) (tree e es) = ap (λ b. is_clear t (key i q.name) && b) (actual_tests t i qs es)

definition_tests : (t : List Instance) (i : ℕ) (ds : List PlainDefinition) → list_all holds (element_cycles t i (defines ds)) ≡ list_all (is_clear t) (element_keys i (defines ds))
definition_tests t i [] = refl
definition_tests t i (d ∷ ds) = ap (λ b. is_clear t (key i d.name) && b) (definition_tests t i ds)

element_tests : (t : List Instance) (i : ℕ) (e : PlainElement) → list_all holds (element_cycles t i e) ≡ list_all (is_clear t) (element_keys i e)
element_tests t i (defines ds) = definition_tests t i ds
element_tests t i e = refl

elements_tests : (t : List Instance) (i : ℕ) (es : List PlainElement) → list_all holds (flat_map (element_cycles t i) es) ≡ list_all (is_clear t) (flat_map (element_keys i) es)
elements_tests t i [] = refl
elements_tests t i (e ∷ es) =
    list_all-append holds (element_cycles t i e) (flat_map (element_cycles t i) es)
    ∙ ap (λ b. b && list_all holds (flat_map (element_cycles t i) es)) (element_tests t i e)
    ∙ ap (λ b. list_all (is_clear t) (element_keys i e) && b) (elements_tests t i es)
    ∙ sym (list_all-append (is_clear t) (element_keys i e) (flat_map (element_keys i) es))

instance_tests : (t : List Instance) (i : ℕ) (at : Instance) → list_all holds (cycle_checks t i at) ≡ list_all (is_clear t) (keys_in i at)
instance_tests t i at =
    list_all-append holds (actual_cycles t i at.module.parameters at.actuals) (flat_map (element_cycles t i) at.module.elements)
    ∙ ap (λ b. b && list_all holds (flat_map (element_cycles t i) at.module.elements)) (actual_tests t i at.module.parameters at.actuals)
    ∙ ap (λ b. list_all (is_clear t) (actual_keys i at.module.parameters at.actuals) && b) (elements_tests t i at.module.elements)
    ∙ sym (list_all-append (is_clear t) (actual_keys i at.module.parameters at.actuals) (flat_map (element_keys i) at.module.elements))

pub all_tests : (t : List Instance) → passes (cycle_checks_of t) ≡ list_all (is_clear t) (keys_of t)
all_tests t = test_all holds (is_clear t) (cycle_checks t) keys_in (instance_tests t) 0 t

-- ---- what isn't a body refers to nothing, and what is referred to is one

pub no_reference : (t : List Instance) (f : ℕ → List ℕ → Found) (l : Local) → has_body l ≡ false → referred t f l ≡ []
no_reference t f (alias j path) h = cc
no_reference t f (body_of j e) h = cc
no_reference t f l h = refl

pub reaches_none : (f : Body → List Body) (n : ℕ) (k m : Body) → f k ≡ [] → reaches f n k m ≡ false
unfolding reaches
reaches_none f zero k m e = refl
reaches_none f (suc n) k m e = ap (list_any (λ r. body_same r m || reaches f n r m)) e

here_is : (t : List Instance) (i : ℕ) (x : List ℕ) (k : Body) → In k (body_here i x (local t i x)) → has_body (local t k.0 k.1) ≡ true
here_is t i x k h = by (local t i x) refl h
  where
    at : (l : Local) → local t i x ≡ l → has_body l ≡ true → k ≡ key i x → has_body (local t k.0 k.1) ≡ true
    at l e s same = ap (λ (z : Body). has_body (local t z.0 z.1)) same ∙ ap has_body e ∙ s

    by : (l : Local) → local t i x ≡ l → In k (body_here i x l) → has_body (local t k.0 k.1) ≡ true
    by (alias j path) e (inl s) = at (alias j path) e refl s
    by (alias j path) e (inr s) = absurd s
    by (body_of j b) e (inl s) = at (body_of j b) e refl s
    by (body_of j b) e (inr s) = absurd s
    by (variable_of kind d) e s = absurd s
    by inner e s = absurd s
    by nothing e s = absurd s

in_from : (m : Found) (go : ℕ → List Body) (k : Body) → In k (from_instance m go) → (c : ℕ) × In k (go c)
in_from (instance_at c) go k h = (c, h)
in_from m go k h = absurd h

path_bodies_is : (t : List Instance) (f : ℕ → List ℕ → Found) (i : ℕ) (xs : List (List ℕ)) (k : Body) → In k (path_bodies t f i xs) → has_body (local t k.0 k.1) ≡ true
path_bodies_is t f i [] k h = absurd h
path_bodies_is t f i (x ∷ xs) k h =
    ⊎_elim (λ s. here_is t i x k s) (λ s. let r = in_from (f i x) (λ c. path_bodies t f c xs) k s in path_bodies_is t f r.0 xs k r.1)
    (in_either k (body_here i x (local t i x)) (from_instance (f i x) (λ c. path_bodies t f c xs)) h)

pub referred_is : (t : List Instance) (f : ℕ → List ℕ → Found) (l : Local) (k : Body) → In k (referred t f l) → (has_body l ≡ true) × (has_body (local t k.0 k.1) ≡ true)
referred_is t f (alias j path) k h = (refl, path_bodies_is t f j path.names k h)
referred_is t f (body_of j e) k h = let r = in_flat (λ q. path_bodies t f j q.names) k (paths_of e []) h in (refl, path_bodies_is t f j r.0.names k r.2)
referred_is t f (variable_of kind d) k h = absurd h
referred_is t f inner k h = absurd h
referred_is t f nothing k h = absurd h

pub within_keys : (t : List Instance) → Within (refers t) (keys_of t)
within_keys t k m h = let r = referred_is t (look t (steps_of t)) (local t k.0 k.1) m h in (in_keys t k.0 k.1 r.0, in_keys t m.0 m.1 r.1)

-- ---- the laws

not_clear : (b : Bool) → not b ≡ true → b ≡ false
not_clear true h = cc
not_clear false h = refl

clear : (b : Bool) → b ≡ false → not b ≡ true
clear true h = cc
clear false h = refl

passed_acyclic : (t : List Instance) → passes (cycle_checks_of t) ≡ true → Acyclic t
passed_acyclic t h k = by (has_body (local t k.0 k.1)) refl
  where
    by : (b : Bool) → has_body (local t k.0 k.1) ≡ b → reaches (refers t) (steps_of t) k k ≡ false
    by true e = not_clear (reaches (refers t) (steps_of t) k k) (in_all (is_clear t) k (keys_of t) (sym (all_tests t) ∙ h) (in_keys t k.0 k.1 e))
    by false e = reaches_none (refers t) (steps_of t) k k (no_reference t (look t (steps_of t)) (local t k.0 k.1) e)

pub cycles_are_checked_law : CyclesAreChecked
cycles_are_checked_law t =
    (passed_acyclic t, λ a. all_tests t ∙ all_in (is_clear t) (keys_of t) (λ k i. clear (reaches (refers t) (steps_of t) k k) (a k)))

reaches_lower : (t : List Instance) (rank : Body → ℕ) → IsRank t rank → (n : ℕ) (k m : Body) → reaches (refers t) n k m ≡ true → rank m < rank k
unfolding reaches
reaches_lower t rank h zero k m e = absurd_bool e
reaches_lower t rank h (suc n) k m e =
    let r = any_in (λ r. body_same r m || reaches (refers t) n r m) (refers t k) e in
    let less = ltb-true (rank r.0) (rank k) (in_all (λ z. nat_lt (rank z) (rank k)) r.0 (refers t k) (h k) r.1) in
    ⊎_elim (λ s. subst (λ z. rank z < rank k) (same_is r.0 m s) less) (λ s. let below = reaches_lower t rank h n r.0 m s in omega arith)
    (or_true (body_same r.0 m) (reaches (refers t) n r.0 m) r.2)

pub ranked_is_acyclic_law : RankedIsAcyclic
ranked_is_acyclic_law t rank h k = by (reaches (refers t) (steps_of t) k k) refl
  where
    by : (b : Bool) → reaches (refers t) (steps_of t) k k ≡ b → reaches (refers t) (steps_of t) k k ≡ false
    by true e = let l = reaches_lower t rank h (steps_of t) k k e in absurd (omega arith)
    by false e = e

pub acyclic_falls : (t : List Instance) → Acyclic t → (k m : Body) → In m (refers t k) → rank_of t m < rank_of t k
acyclic_falls t a k m h =
    let one : steps_of t ≡ suc (sum_by bodies_in t) = omega arith in
    chain_falls (refers t) (keys_of t) (sum_by bodies_in t) (within_keys t) (over_counted 0 t) (λ z. subst (λ n. reaches (refers t) n z z ≡ false) one (a z)) k m h

pub acyclic_is_ranked_law : AcyclicIsRanked
acyclic_is_ranked_law t a = (
  (λ k. all_in (λ m. nat_lt (rank_of t m) (rank_of t k)) (refers t k) (λ m i. (Decides-ltb (rank_of t m) (rank_of t k)).1 (acyclic_falls t a k m i))),
  (λ k. let h = chain_most (refers t) (sum_by bodies_in t) k in omega arith),
)
