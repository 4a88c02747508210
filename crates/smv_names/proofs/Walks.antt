-- The walk over the modules meets the instances of the model in their order.
use Rattle.std.proofs.Common.{◌≡◌, ℕ, zero, suc, ◌+◌, ◌-◌, ◌<◌, ◌≤◌, List, [], ◌∷◌, ◌++◌, map, length, Option, Some, None, append_assoc, append-nil, length-append, refl, sym, ap, ◌∙◌, subst, arith}
use Rattle.std.specs.Prelude.{slice_get, flat_map}
use Rattle.std.specs.Borrow.{Bor}
use Rattle.smv_names.specs.View.{names_above}
use Rattle.std.proofs.lemmas.List.{length-map}
use Rattle.text_core.specs.declared.place.Place.{Place}
use Rattle.smv_text.specs.declared.tree.Module.{Module}
use Rattle.smv_text.specs.View.{plain_module}
use Rattle.smv_text.specs.declared.tree.Parameter.{Parameter}
use Rattle.smv_text.specs.Tree.{PlainDomain, instance, PlainItem, PlainDefinition, PlainElement, vars, defines, PlainModule, PlainSource}
use Rattle.smv_meaning.specs.Instances.{Instance, dotted, module_named, placed, child_in, child_of, with_child, grow_items, grow_elements, grow, main_name, main_instance, grown_from, instances_of, module_and_above, modules_above}
use Rattle.smv_meaning.specs.Checks.{first_failing}
use Rattle.smv_meaning.specs.Phases.{Declared, element_declares, declared_in, declared_checks, counted_all, declaration_checks}
use Rattle.smv_names.specs.Visits.{Visit, placed_visits, domain_visits, item_visits, declared_visits, visits, visit_checks}

-- each instance is met with its module, its path and the modules above it
abbrev pub Matches : List Instance → ℕ → List Instance → List Visit → Type 0
Matches all i [] [] = Unit {0}
Matches all i [] (v ∷ vs) = ⊥
Matches all i (at ∷ t) [] = ⊥
Matches all i (at ∷ t) (v ∷ vs) = (at.module ≡ v.module) × (at.path ≡ v.path) × (modules_above (length all) all (Some i) ≡ v.above) × Matches all (i + 1) t vs

matches_append : (all : List Instance) (i j : ℕ) (s t : List Instance) (vs ws : List Visit) → j ≡ i + length s → Matches all i s vs → Matches all j t ws → Matches all i (s ++ t) (vs ++ ws)
matches_append all i j [] t [] ws e h k = subst (λ n. Matches all n t ws) (omega (arith, e)) k
matches_append all i j [] t (v ∷ vs) ws e h k = absurd h
matches_append all i j (at ∷ s) t [] ws e h k = absurd h
matches_append all i j (at ∷ s) t (v ∷ vs) ws e h k = (h.0, h.1, h.2, matches_append all (i + 1) j s t vs ws (omega (arith, e)) h.3 k)

matches_checks : (ms : List PlainModule) (all : List Instance) (i met : ℕ) (t : List Instance) (vs : List Visit) → Matches all i t vs → declaration_checks ms all i met t ≡ visit_checks ms met vs
matches_checks ms all i met [] [] h = refl
matches_checks ms all i met [] (v ∷ vs) h = absurd h
matches_checks ms all i met (at ∷ t) [] h = absurd h
matches_checks ms all i met (at ∷ t) (v ∷ vs) h =
    let e : declared_checks ms (modules_above (length all) all (Some i)) at.path [] met (declared_in at.module) ≡ declared_checks ms v.above v.path [] met (declared_in v.module) =
    ap (λ a. declared_checks ms a at.path [] met (declared_in at.module)) h.2 ∙ ap (λ p. declared_checks ms v.above p [] met (declared_in at.module)) h.1
    ∙ ap (λ m. declared_checks ms v.above v.path [] met (declared_in m)) h.0 in
    let f = matches_checks ms all (i + 1) (counted_all met (declared_in at.module)) t vs h.3 in
    ap (λ cs. cs ++ declaration_checks ms all (i + 1) (counted_all met (declared_in at.module)) t) e
    ∙ ap (λ cs. declared_checks ms v.above v.path [] met (declared_in v.module) ++ cs) (f ∙ ap (λ m. visit_checks ms (counted_all met (declared_in m)) vs) h.0)

-- the modules above an instance, however many steps there are beyond these
abbrev pub AreAbove : List Instance → Option ℕ → List (List ℕ) → Type 0
AreAbove all o above = (n : ℕ) → length above ≤ n → modules_above n all o ≡ above

-- the list grows by instances that the walk meets
abbrev pub Grows : List (List ℕ) → Option ℕ → List Instance → List Instance → List Visit → Type 0
Grows above o t g vs = (new : List Instance) × (g ≡ t ++ new) × ((all more : List Instance) → all ≡ g ++ more → AreAbove all o above → Matches all (length t) new vs)

stays : (above : List (List ℕ)) (o : Option ℕ) (t : List Instance) → Grows above o t t []
stays above o t = ([], sym (append-nil t), λ all more e h. tt)

both : (above : List (List ℕ)) (o : Option ℕ) (t u g : List Instance) (vs ws : List Visit) → Grows above o t u vs → Grows above o u g ws → Grows above o t g (vs ++ ws)
both above o t u g vs ws a b = (
  a.0 ++ b.0,
  b.1 ∙ ap (λ l. l ++ b.0) a.1 ∙ append_assoc t a.0 b.0,
  λ all more e h.
      matches_append all (length t) (length u) a.0 b.0 vs ws (ap length a.1 ∙ length-append t a.0)
      (a.2 all (b.0 ++ more) (e ∙ ap (λ l. l ++ more) b.1 ∙ append_assoc u b.0 more) h)
      (b.2 all more e h),
)

longer : (above : List (List ℕ)) (o : Option ℕ) (t g : List Instance) (vs : List Visit) → Grows above o t g vs → length t ≤ length g
longer above o t g vs a = omega (arith, ap length a.1 ∙ length-append t a.0)

-- the modules above the children of an instance that stands last
stands : (t new more all : List Instance) (at : Instance) → all ≡ (t ++ at ∷ []) ++ more → slice_get all (length t) ≡ Some at
stands [] new more all at e = ap (λ l. slice_get l 0) e
stands (x ∷ t) new more all at e = ap (λ l. slice_get l (suc (length t))) e ∙ stands t new more ((t ++ at ∷ []) ++ more) at refl

unroll : (n : ℕ) (all : List Instance) (i : ℕ) (at : Instance) → 0 < n → slice_get all i ≡ Some at → modules_above n all (Some i) ≡ at.module.name ∷ modules_above (n - 1) all at.parent
unroll zero all i at h e = absurd (omega (arith, h))
unroll (suc n) all i at h e = ap (module_and_above (modules_above n all)) e ∙ ap (λ m. at.module.name ∷ modules_above m all at.parent) (omega arith)

above_child : (t more all : List Instance) (at : Instance) (above : List (List ℕ)) → all ≡ (t ++ at ∷ []) ++ more → AreAbove all at.parent above → AreAbove all (Some (length t)) (at.module.name ∷ above)
above_child t more all at above e h n l =
    unroll n all (length t) at (omega (arith, l)) (stands t [] more all at e) ∙ ap (λ a. at.module.name ∷ a) (h (n - 1) (omega (arith, l)))

-- ---- an instance with all below it, given that for fewer levels

abbrev pub Below : ℕ → List PlainModule → Type 0
Below n ms = (at : Instance) (t : List Instance) (above : List (List ℕ)) → length above ≤ length t → Grows above at.parent t (grow n ms at t) (visits n ms above at.path at.module)

domain_grows : (n : ℕ) (ms : List PlainModule) → Below n ms → (i : ℕ) (path x : List ℕ) (above : List (List ℕ)) (d : PlainDomain) (t : List Instance) → length above ≤ length t
    → Grows above (Some i) t (with_child (grow n ms) (child_in ms i path x d) t) (domain_visits (visits n ms above) ms (dotted path x) d)
domain_grows n ms b i path x above (instance m actuals) t h = of_module (module_named ms m)
  where
    of_module : (o : Option PlainModule) → Grows above (Some i) t (with_child (grow n ms) (placed i path x actuals o) t) (placed_visits (visits n ms above) (dotted path x) o)
    of_module None = stays above (Some i) t
    of_module (Some m) = b (record { parent = Some i; name = x; path = dotted path x; «module» = m; actuals = actuals }) t above h
domain_grows n ms b i path x above d t h = stays above (Some i) t

items_grow : (n : ℕ) (ms : List PlainModule) → Below n ms → (i : ℕ) (path : List ℕ) (above : List (List ℕ)) (items : List PlainItem) (t : List Instance) → length above ≤ length t
    → Grows above (Some i) t (grow_items (grow n ms) ms i path items t) (declared_visits (visits n ms above) ms path (map (λ q. record { name = q.name; place = q.place; item = Some q }) items))
items_grow n ms b i path above [] t h = stays above (Some i) t
items_grow n ms b i path above (q ∷ items) t h =
    let first = domain_grows n ms b i path q.name above q.domain t h in
    both above (Some i) t (with_child (grow n ms) (child_of ms i path q) t) (grow_items (grow n ms) ms i path items (with_child (grow n ms) (child_of ms i path q) t))
    (item_visits (visits n ms above) ms path (Some q)) (declared_visits (visits n ms above) ms path (map (λ q. record { name = q.name; place = q.place; item = Some q }) items))
    first (items_grow n ms b i path above items (with_child (grow n ms) (child_of ms i path q) t)
    (omega (arith, h, longer above (Some i) t (with_child (grow n ms) (child_of ms i path q) t) (item_visits (visits n ms above) ms path (Some q)) first)))

visits_append : (f : List ℕ → PlainModule → List Visit) (ms : List PlainModule) (path : List ℕ) (ds es : List Declared) → declared_visits f ms path (ds ++ es) ≡ declared_visits f ms path ds ++ declared_visits f ms path es
visits_append f ms path [] es = refl
visits_append f ms path (d ∷ ds) es =
    ap (λ l. item_visits f ms path d.item ++ l) (visits_append f ms path ds es) ∙ sym (append_assoc (item_visits f ms path d.item) (declared_visits f ms path ds) (declared_visits f ms path es))

no_definitions : (f : List ℕ → PlainModule → List Visit) (ms : List PlainModule) (path : List ℕ) (ds : List PlainDefinition) → declared_visits f ms path (map (λ d. record { name = d.name; place = d.place; item = None }) ds) ≡ []
no_definitions f ms path [] = refl
no_definitions f ms path (d ∷ ds) = no_definitions f ms path ds

no_parameters : (f : List ℕ → PlainModule → List Visit) (ms : List PlainModule) (path : List ℕ) (qs : List Parameter) → declared_visits f ms path (map (λ q. record { name = q.name; place = q.place; item = None }) qs) ≡ []
no_parameters f ms path [] = refl
no_parameters f ms path (q ∷ qs) = no_parameters f ms path qs

elements_grow : (n : ℕ) (ms : List PlainModule) → Below n ms → (i : ℕ) (path : List ℕ) (above : List (List ℕ)) (es : List PlainElement) (t : List Instance) → length above ≤ length t
    → Grows above (Some i) t (grow_elements (grow n ms) ms i path es t) (declared_visits (visits n ms above) ms path (flat_map element_declares es))
elements_grow n ms b i path above [] t h = stays above (Some i) t
elements_grow n ms b i path above (vars kind items ∷ es) t h =
    let f = visits n ms above in
    let ds = map (λ (q : PlainItem). record { name = q.name; place = q.place; item = Some q }) items in
    let u = grow_items (grow n ms) ms i path items t in
    let first = items_grow n ms b i path above items t h in
    subst (Grows above (Some i) t (grow_elements (grow n ms) ms i path es u)) (sym (visits_append f ms path ds (flat_map element_declares es)))
    (both above (Some i) t u (grow_elements (grow n ms) ms i path es u) (declared_visits f ms path ds) (declared_visits f ms path (flat_map element_declares es)) first
    (elements_grow n ms b i path above es u (omega (arith, h, longer above (Some i) t u (declared_visits f ms path ds) first))))
elements_grow n ms b i path above (defines ds ∷ es) t h =
    let f = visits n ms above in
    let qs = map (λ (d : PlainDefinition). record { name = d.name; place = d.place; item = None }) ds in
    subst (Grows above (Some i) t (grow_elements (grow n ms) ms i path es t))
    (sym (visits_append f ms path qs (flat_map element_declares es) ∙ ap (λ l. l ++ declared_visits f ms path (flat_map element_declares es)) (no_definitions f ms path ds)))
    (elements_grow n ms b i path above es t h)
elements_grow n ms b i path above (e ∷ es) t h = elements_grow n ms b i path above es t h

grows : (n : ℕ) (ms : List PlainModule) → Below n ms
unfolding grow visits
grows zero ms at t above h = stays above at.parent t
grows (suc n) ms at t above h =
    let i = length t in
    let u = t ++ at ∷ [] in
    let g = grow_elements (grow n ms) ms i at.path at.module.elements u in
    let own = at.module.name ∷ above in
    let f = visits n ms own in
    let qs : List Declared = map (λ (q : Parameter). record { name = q.name; place = q.place; item = None }) at.module.parameters in
    let rest = elements_grow n ms (grows n ms) i at.path own at.module.elements u (omega (arith, h, length-append t (at ∷ []))) in
    let e : declared_visits f ms at.path (flat_map element_declares at.module.elements) ≡ declared_visits f ms at.path (declared_in at.module) =
    sym (visits_append f ms at.path qs (flat_map element_declares at.module.elements) ∙ ap (λ l. l ++ declared_visits f ms at.path (flat_map element_declares at.module.elements)) (no_parameters f ms at.path at.module.parameters)) in (
      at ∷ rest.0,
      rest.1 ∙ append_assoc t (at ∷ []) rest.0,
      λ all more s a.
          let p : all ≡ (t ++ at ∷ []) ++ (rest.0 ++ more) = s ∙ ap (λ l. l ++ more) rest.1 ∙ append_assoc u rest.0 more in
          let c = above_child t (rest.0 ++ more) all at above p a in (
            refl,
            refl,
            c (length all) (omega (arith, h, ap length p, length-append u (rest.0 ++ more), length-append t (at ∷ []))),
            subst (λ j. Matches all j rest.0 (declared_visits f ms at.path (declared_in at.module))) (length-append t (at ∷ []))
                (subst (Matches all (length u) rest.0) e (rest.2 all more s c)),
          ),
    )

-- the walk from main
abbrev pub walk_from : List PlainModule → Option PlainModule → List Visit
walk_from ms None = []
walk_from ms (Some m) = visits (length ms) ms [] [] m

from_main : (ms : List PlainModule) (o : Option PlainModule) → Matches (grown_from ms o) 0 (grown_from ms o) (walk_from ms o)
from_main ms None = tt
from_main ms (Some m) =
    let g = grows (length ms) ms (main_instance m) [] [] (omega arith) in
    subst (λ l. Matches (grow (length ms) ms (main_instance m) []) 0 l (visits (length ms) ms [] [] m)) (sym g.1)
    (g.2 (grow (length ms) ms (main_instance m) []) [] (sym (append-nil _)) (λ n h. none_above n))
  where
    none_above : (n : ℕ) → modules_above n (grow (length ms) ms (main_instance m) []) None ≡ []
    none_above zero = refl
    none_above (suc n) = refl

pub walk_is : (source : PlainSource) (o : Option PlainModule) → o ≡ module_named source.modules main_name
    → declaration_checks source.modules (instances_of source) 0 1 (instances_of source) ≡ visit_checks source.modules 1 (walk_from source.modules o)
walk_is source o e = matches_checks source.modules (instances_of source) 0 1 (instances_of source) (walk_from source.modules o)
    (subst (λ p. Matches (instances_of source) 0 (instances_of source) (walk_from source.modules p)) (sym e) (from_main source.modules (module_named source.modules main_name)))

-- the walk from main, as the code begins it
pub walked : (list table : List Module) (end : Place) (n : ℕ) (m : PlainModule) (above : List (Bor (List ℕ))) → table ≡ list → above ≡ [] → n ≡ length table → Some m ≡ module_named (map plain_module table) main_name
    → (let source : PlainSource = record { modules = map plain_module list; end = end } in first_failing (declaration_checks source.modules (instances_of source) 0 1 (instances_of source)))
    ≡ first_failing (visit_checks (map plain_module table) 1 (visits n (map plain_module table) (names_above above) [] m))
walked list table end n m above same empty e h =
    let ms = map plain_module table in
    ap (λ l. let source : PlainSource = record { modules = map plain_module l; end = end } in first_failing (declaration_checks source.modules (instances_of source) 0 1 (instances_of source))) (sym same)
    ∙ ap first_failing (walk_is (record { modules = ms; end = end }) (Some m) h)
    ∙ ap (λ k. first_failing (visit_checks ms 1 (visits k ms [] [] m))) (length-map table plain_module ∙ sym e)
    ∙ ap (λ a. first_failing (visit_checks ms 1 (visits n ms (names_above a) [] m))) (sym empty)
