-- The names of an accepted model's items, definitions and actuals differ in each instance.
use Rattle.std.proofs.Common.{◌≡◌, ◌≢◌, ℕ, zero, suc, ◌+◌, ◌<◌, Bool, true, false, ◌&&◌, ◌==◌, if◌then◌else◌, cond, List, [], ◌∷◌, ◌++◌, map, flat_map, position, Some, option_map, bytes_eq, refl, sym, ap, ◌∙◌, subst, arith}
use Rattle.std.specs.List.{slice_get, AllByRecursion}
use Rattle.std.proofs.lemmas.List.{map-append}
use Rattle.std.proofs.lemmas.Bool.{eq-eqb, eqb-true}
use Rattle.std.proofs.lemmas.Slice.Eq.{bytes_eq-Decides}
use Rattle.smv_text.specs.declared.tree.Parameter.{Parameter}
use Rattle.smv_text.specs.declared.tree.VarKind.{VarKind}
use Rattle.smv_text.specs.Tree.{Tree, truth, number, literal, name, prefix, chain, choice, cases, select, call, next, set, range, Trees, no_trees, tree, PlainDomain, boolean, members, between, bits, instance, PlainItem, PlainDefinition, PlainElement, vars, defines, constants, assigns, init, trans, invar, spec}
use Rattle.smv_meaning.specs.Instances.{Instance}
use Rattle.smv_meaning.specs.Names.{Local, body_of, of_actual, of_domain, among_items, among_definitions, among_elements, among_parameters, parent_of, local_in, local}
use Rattle.smv_meaning.specs.Phases.{Body, body_same, Declared, element_declares, declared_in, over_instances, parameter_declared, item_declared, definition_declared}
use Rattle.smv_items.specs.FlatItems.{Content, variable, definition, actual, Origin, with_content, actual_content, actual_items, domain_content, variable_item, definition_item, element_items, items_here, origins_of, is_body}
use Rattle.smv_items.specs.laws.OriginLemmas.{own_here}
use Rattle.smv_items.specs.laws.Differing.{all_weaker, all_unmapped, all_with, holds_at, differ_joined, differ_front, differ_back, differ_across, Within, none_left, kept, within_joined, none_within, all_within, differ_within}
use Rattle.smv_items.specs.laws.Declarations.{name_of, DiffersInside, of_origin, of_declared, actuals_within, elements_within, here_within}
use Rattle.name_maps.proofs.FreshNames.{AllDiffer, Lacks, all_joined, tells_apart}
use Rattle.smv_laws.proofs.Cycles.{same_is, same_self}
use Rattle.smv_laws.proofs.Ranked.{key, actual_keys, element_keys, keys_in, keys_of}
use Rattle.smv_laws.proofs.OrderLaws.{place}
use Rattle.smv_flat_laws.proofs.FlatPlaces.{position_cons}
use Rattle.smv_flat_laws.proofs.FlatFound.{is_body_of, both, bytes_self}

-- ---- what an item's name stands for in its instance

-- a definition or an actual is the body of its name
abbrev pub IsLocal : Local → Content → Type 0
IsLocal l (variable kind d) = Unit {0}
IsLocal l (definition j e) = l ≡ body_of j e
IsLocal l (actual j e) = l ≡ body_of j e

abbrev LocalAs : (List ℕ → Local) → Origin → Type 0
LocalAs g m = IsLocal (g m.name) m.content

abbrev own_name : ℕ → List ℕ → List ℕ
own_name i x = x

-- where two readings of names agree on the items' names
passed_on : (f g : List ℕ → Local) (Q : List ℕ → Type 0) (ms : List Origin) → ((x : List ℕ) → Q x → g x ≡ f x) → AllByRecursion (λ m. Q m.name) ms → AllByRecursion (LocalAs f) ms → AllByRecursion (LocalAs g) ms
passed_on f g Q ms h named l =
    all_with (λ m. Q m.name) (LocalAs f) (LocalAs g) (λ m q k. subst (λ y. IsLocal y m.content) (sym (h m.name q)) k) ms named l

-- a name that none of them has
past_parameters : (j : ℕ) (qs : List Parameter) (es : Trees) (x : List ℕ) (other : Local) → Lacks (map name_of (map parameter_declared qs)) x → among_parameters j qs es x other ≡ other
past_parameters j [] es x other n = refl
past_parameters j (q ∷ qs) no_trees x other n = refl
past_parameters j (q ∷ qs) (tree e es) x other n =
    ap (λ b. if b then of_actual j e else among_parameters j qs es x other) (tells_apart q.name x n.0) ∙ past_parameters j qs es x other n.1

past_definitions : (i : ℕ) (ds : List PlainDefinition) (x : List ℕ) (other : Local) → Lacks (map name_of (map definition_declared ds)) x → among_definitions i ds x other ≡ other
past_definitions i [] x other n = refl
past_definitions i (d ∷ ds) x other n = ap (λ b. if b then body_of i d.body else among_definitions i ds x other) (tells_apart d.name x n.0) ∙ past_definitions i ds x other n.1

past_items : (kind : VarKind) (items : List PlainItem) (x : List ℕ) (other : Local) → Lacks (map name_of (map item_declared items)) x → among_items kind items x other ≡ other
past_items kind [] x other n = refl
past_items kind (v ∷ items) x other n = ap (λ b. if b then of_domain kind v.domain else among_items kind items x other) (tells_apart v.name x n.0) ∙ past_items kind items x other n.1

actual_here : (g : List ℕ → Local) (i j : ℕ) (x : List ℕ) (e : Tree) → g x ≡ of_actual j e → AllByRecursion (LocalAs g) (with_content i x (actual_content j e))
actual_here g i j x (name p q) h = tt
actual_here g i j x (truth p b) h = (h, tt)
actual_here g i j x (number p n) h = (h, tt)
actual_here g i j x (literal p w) h = (h, tt)
actual_here g i j x (prefix p sign n e) h = (h, tt)
actual_here g i j x (chain p e ls) h = (h, tt)
actual_here g i j x (choice p bs e) h = (h, tt)
actual_here g i j x (cases p bs) h = (h, tt)
actual_here g i j x (select p e high low) h = (h, tt)
actual_here g i j x (call p f es) h = (h, tt)
actual_here g i j x (next p e) h = (h, tt)
actual_here g i j x (set p es) h = (h, tt)
actual_here g i j x (range p low high) h = (h, tt)

actuals_local : (i j : ℕ) (qs : List Parameter) (es : Trees) (other : List ℕ → Local) → AllDiffer (map name_of (map parameter_declared qs)) → AllByRecursion (LocalAs (λ x. among_parameters j qs es x (other x))) (actual_items i j qs es)
actuals_local i j [] es other d = tt
actuals_local i j (q ∷ qs) no_trees other d = tt
actuals_local i j (q ∷ qs) (tree e es) other d =
    let f : List ℕ → Local = λ x. among_parameters j qs es x (other x) in
    let g : List ℕ → Local = λ x. among_parameters j (q ∷ qs) (tree e es) x (other x) in
    let named = all_unmapped (λ x. x ≢ q.name) (of_origin own_name) (actual_items i j qs es) (all_within (λ x. x ≢ q.name) (actuals_within own_name i j qs es) d.0) in
    all_joined (LocalAs g) (with_content i q.name (actual_content j e)) (actual_items i j qs es)
    (actual_here g i j q.name e (ap (λ b. if b then of_actual j e else f q.name) (bytes_self q.name)))
    (passed_on f g (λ x. x ≢ q.name) (actual_items i j qs es) (λ x n. ap (λ b. if b then of_actual j e else f x) (tells_apart q.name x (λ s. n (sym s)))) named (actuals_local i j qs es other d.1))

definitions_local : (i : ℕ) (ds : List PlainDefinition) (other : List ℕ → Local) → AllDiffer (map name_of (map definition_declared ds)) → AllByRecursion (LocalAs (λ x. among_definitions i ds x (other x))) (map (definition_item i) ds)
definitions_local i [] other d = tt
definitions_local i (c ∷ ds) other d =
    let f : List ℕ → Local = λ x. among_definitions i ds x (other x) in
    let g : List ℕ → Local = λ x. among_definitions i (c ∷ ds) x (other x) in
    let named = defined_lack i c.name ds d.0 in (
      ap (λ b. if b then body_of i c.body else f c.name) (bytes_self c.name),
      passed_on f g (λ x. x ≢ c.name) (map (definition_item i) ds) (λ x n. ap (λ b. if b then body_of i c.body else f x) (tells_apart c.name x (λ s. n (sym s)))) named (definitions_local i ds other d.1),
    )
  where
    defined_lack : (i : ℕ) (x : List ℕ) (ds : List PlainDefinition) → Lacks (map name_of (map definition_declared ds)) x → AllByRecursion (λ m. m.name ≢ x) (map (definition_item i) ds)
    defined_lack i x [] n = tt
    defined_lack i x (c ∷ ds) n = (n.0, defined_lack i x ds n.1)

variables_local : (g : List ℕ → Local) (i : ℕ) (kind : VarKind) (items : List PlainItem) → AllByRecursion (LocalAs g) (flat_map (variable_item i kind) items)
variables_local g i kind [] = tt
variables_local g i kind (v ∷ items) = all_joined (LocalAs g) (variable_item i kind v) (flat_map (variable_item i kind) items) (by v.domain) (variables_local g i kind items)
  where
    by : (d : PlainDomain) → AllByRecursion (LocalAs g) (with_content i v.name (domain_content kind d))
    by boolean = (tt, tt)
    by (members ms) = (tt, tt)
    by (between low high) = (tt, tt)
    by (bits n) = (tt, tt)
    by (instance m es) = tt

elements_local : (i : ℕ) (es : List PlainElement) → AllDiffer (map name_of (flat_map element_declares es)) → AllByRecursion (LocalAs (among_elements i es)) (flat_map (element_items i) es)
elements_local i [] d = tt
elements_local i (vars kind items ∷ es) d =
    let front = map name_of (map item_declared items) in
    let back = map name_of (flat_map element_declares es) in
    let split : AllDiffer (front ++ back) = subst (λ (l : List (List ℕ)). AllDiffer l) (map-append name_of (element_declares (vars kind items)) (flat_map element_declares es)) d in
    let g = among_elements i (vars kind items ∷ es) in
    all_joined (LocalAs g) (flat_map (variable_item i kind) items) (flat_map (element_items i) es) (variables_local g i kind items)
    (passed_on (among_elements i es) g (λ x. Lacks front x) (flat_map (element_items i) es) (λ x n. past_items kind items x (among_elements i es x) n)
    (all_unmapped (λ x. Lacks front x) (of_origin own_name) (flat_map (element_items i) es) (all_within (λ x. Lacks front x) (elements_within own_name i es) (differ_across front back split)))
    (elements_local i es (differ_back front back split)))
elements_local i (defines ds ∷ es) d =
    let front = map name_of (map definition_declared ds) in
    let back = map name_of (flat_map element_declares es) in
    let split : AllDiffer (front ++ back) = subst (λ (l : List (List ℕ)). AllDiffer l) (map-append name_of (element_declares (defines ds)) (flat_map element_declares es)) d in
    let g = among_elements i (defines ds ∷ es) in
    all_joined (LocalAs g) (map (definition_item i) ds) (flat_map (element_items i) es) (definitions_local i ds (among_elements i es) (differ_front front back split))
    (passed_on (among_elements i es) g (λ x. Lacks front x) (flat_map (element_items i) es) (λ x n. past_definitions i ds x (among_elements i es x) n)
    (all_unmapped (λ x. Lacks front x) (of_origin own_name) (flat_map (element_items i) es) (all_within (λ x. Lacks front x) (elements_within own_name i es) (differ_across front back split)))
    (elements_local i es (differ_back front back split)))
elements_local i (constants cs ∷ es) d = elements_local i es d
elements_local i (assigns xs ∷ es) d = elements_local i es d
elements_local i (init e ∷ es) d = elements_local i es d
elements_local i (trans e ∷ es) d = elements_local i es d
elements_local i (invar e ∷ es) d = elements_local i es d
elements_local i (spec l e ∷ es) d = elements_local i es d

instance_local : (i : ℕ) (at : Instance) → DiffersInside at → AllByRecursion (LocalAs (λ x. local_in i x (Some at))) (items_here i at)
instance_local i at d =
    let j = parent_of at in
    let qs = at.module.parameters in
    let es = at.module.elements in
    let front = map name_of (map parameter_declared qs) in
    let back = map name_of (flat_map element_declares es) in
    let split : AllDiffer (front ++ back) = subst (λ (l : List (List ℕ)). AllDiffer l) (map-append name_of (map parameter_declared qs) (flat_map element_declares es)) d in
    let g : List ℕ → Local = λ x. local_in i x (Some at) in
    all_joined (LocalAs g) (actual_items i j qs at.actuals) (flat_map (element_items i) es) (actuals_local i j qs at.actuals (among_elements i es) (differ_front front back split))
    (passed_on (among_elements i es) g (λ x. Lacks front x) (flat_map (element_items i) es) (λ x n. past_parameters j qs at.actuals x (among_elements i es x) n)
    (all_unmapped (λ x. Lacks front x) (of_origin own_name) (flat_map (element_items i) es) (all_within (λ x. Lacks front x) (elements_within own_name i es) (differ_across front back split)))
    (elements_local i es (differ_back front back split)))

abbrev IsOwn : List Instance → Origin → Type 0
IsOwn t m = IsLocal (local t m.instance m.name) m.content

all_local : (t : List Instance) (n : ℕ) (rest : List Instance) → ((a : ℕ) → slice_get t (n + a) ≡ slice_get rest a) → AllByRecursion DiffersInside rest → AllByRecursion (IsOwn t) (over_instances items_here n rest)
all_local t n [] h d = tt
all_local t n (at ∷ rest) h d =
    let z : n + 0 ≡ n = omega arith in
    let here : slice_get t n ≡ Some at = subst (λ i. slice_get t i ≡ Some at) z (h 0) in
    all_joined (IsOwn t) (items_here n at) (over_instances items_here (n + 1) rest)
    (all_with (λ m. m.instance ≡ n) (LocalAs (λ x. local_in n x (Some at))) (IsOwn t)
    (λ m o l. subst (λ y. IsLocal y m.content) (ap (local_in n m.name) (sym here) ∙ ap (λ i. local_in i m.name (slice_get t i)) (sym o)) l) (items_here n at) (own_here n at) (instance_local n at d.0))
    (all_local t (n + 1) rest (λ a. let s : n + suc a ≡ (n + 1) + a = omega arith in subst (λ i. slice_get t i ≡ slice_get rest a) s (h (suc a))) d.1)

pub item_local : (t : List Instance) → AllByRecursion DiffersInside t → (k : ℕ) (m : Origin) → slice_get (origins_of t) k ≡ Some m → IsLocal (local t m.instance m.name) m.content
item_local t d k m h = holds_at (IsOwn t) (origins_of t) k m (all_local t 0 t (λ a. let z : a ≡ 0 + a = omega arith in ap (slice_get t) (sym z)) d) h

-- ---- declarations by instance and name

abbrev declared_keys : ℕ → Instance → List Body
declared_keys i at = map (of_declared key i) (declared_in at.module)

keyed_lack : (i : ℕ) (x : List ℕ) (ds : List Declared) → Lacks (map name_of ds) x → Lacks (map (of_declared key i) ds) (key i x)
keyed_lack i x [] n = tt
keyed_lack i x (d ∷ ds) n = ((λ e. n.0 (ap (λ (k : Body). k.1) e)), keyed_lack i x ds n.1)

keyed_differ : (i : ℕ) (ds : List Declared) → AllDiffer (map name_of ds) → AllDiffer (map (of_declared key i) ds)
keyed_differ i [] h = tt
keyed_differ i (d ∷ ds) h = (keyed_lack i d.name ds h.0, keyed_differ i ds h.1)

keyed_at : (i : ℕ) (ds : List Declared) → AllByRecursion (λ (k : Body). k.0 ≡ i) (map (of_declared key i) ds)
keyed_at i [] = tt
keyed_at i (d ∷ ds) = (refl, keyed_at i ds)

later_above : (i n : ℕ) → i < n → (t : List Instance) → AllByRecursion (λ (k : Body). i < k.0) (over_instances declared_keys n t)
later_above i n l [] = tt
later_above i n l (at ∷ t) =
    all_joined (λ (k : Body). i < k.0) (declared_keys n at) (over_instances declared_keys (n + 1) t)
    (all_weaker (λ (k : Body). k.0 ≡ n) (λ (k : Body). i < k.0) (λ k e. omega (arith, l, e)) (declared_keys n at) (keyed_at n (declared_in at.module))) (later_above i (n + 1) (omega (arith, l)) t)

above_lack : (i : ℕ) (k : Body) → k.0 ≡ i → (ks : List Body) → AllByRecursion (λ (m : Body). i < m.0) ks → Lacks ks k
above_lack i k e ks h = all_weaker (λ (m : Body). i < m.0) (λ (m : Body). m ≢ k) (λ m l s. let f = ap (λ (b : Body). b.0) s in absurd (omega (arith, l, e, f))) ks h

declared_differ : (n : ℕ) (t : List Instance) → AllByRecursion DiffersInside t → AllDiffer (over_instances declared_keys n t)
declared_differ n [] d = tt
declared_differ n (at ∷ t) d =
    let later = over_instances declared_keys (n + 1) t in
    differ_joined (declared_keys n at) later (keyed_differ n (declared_in at.module) d.0) (declared_differ (n + 1) t d.1)
    (all_weaker (λ (k : Body). k.0 ≡ n) (λ (k : Body). Lacks later k) (λ k e. above_lack n k e later (later_above n (n + 1) (omega arith) t)) (declared_keys n at) (keyed_at n (declared_in at.module)))

-- ---- items by instance and name

items_within : (n : ℕ) (t : List Instance) → Within (map (of_origin key) (over_instances items_here n t)) (over_instances declared_keys n t)
items_within n [] = none_left
items_within n (at ∷ t) =
    subst (λ (l : List Body). Within l (over_instances declared_keys n (at ∷ t))) (sym (map-append (of_origin key) (items_here n at) (over_instances items_here (n + 1) t)))
    (within_joined (here_within key n at) (items_within (n + 1) t))

pub items_differ : (t : List Instance) → AllByRecursion DiffersInside t → AllDiffer (map (of_origin key) (origins_of t))
items_differ t d = differ_within (items_within 0 t) (declared_differ 0 t d)

and_both : (a b : Bool) → a ≡ true → b ≡ true → (a && b) ≡ true
and_both true b h g = g
and_both false b h g = cc

body_itself : (m : Origin) → is_body m.content ≡ true → is_body_of m.instance m.name m ≡ true
body_itself m h = and_both (is_body m.content) ((m.instance == m.instance) && bytes_eq m.name m.name) h (and_both (m.instance == m.instance) (bytes_eq m.name m.name) (eq-eqb m.instance m.instance refl) (bytes_self m.name))

pub body_key : (i : ℕ) (x : List ℕ) (m : Origin) → is_body_of i x m ≡ true → of_origin key m ≡ key i x
body_key i x m h =
    let a = both (is_body m.content) ((m.instance == i) && bytes_eq m.name x) h in
    let b = both (m.instance == i) (bytes_eq m.name x) a.1 in
    ap (λ n. key n m.name) (eqb-true m.instance i b.0) ∙ ap (key i) ((bytes_eq-Decides m.name x).0 b.1)

-- a definition or an actual is the only item of its instance and its name
pub placed_at : (ms : List Origin) → AllDiffer (map (of_origin key) ms) → (k : ℕ) (m : Origin) → slice_get ms k ≡ Some m → is_body m.content ≡ true → position (is_body_of m.instance m.name) ms ≡ Some k
placed_at [] d k m h b = cc
placed_at (o ∷ ms) d zero m h b =
    let same : m ≡ o = cc in
    let holds : is_body_of m.instance m.name o ≡ true = subst (λ z. is_body_of m.instance m.name z ≡ true) same (body_itself m b) in
    position_cons (is_body_of m.instance m.name) o ms ∙ ap (λ t. if t then Some 0 else option_map suc (position (is_body_of m.instance m.name) ms)) holds
placed_at (o ∷ ms) d (suc k) m h b =
    let p = is_body_of m.instance m.name in
    position_cons p o ms ∙ ap (λ t. if t then Some 0 else option_map suc (position p ms)) (apart (p o) refl) ∙ ap (option_map suc) (placed_at ms d.1 k m h b)
  where
    apart : (t : Bool) → is_body_of m.instance m.name o ≡ t → is_body_of m.instance m.name o ≡ false
    apart false e = e
    apart true e =
        let n = holds_at (λ z. of_origin key z ≢ of_origin key o) ms k m (all_unmapped (λ (y : Body). y ≢ of_origin key o) (of_origin key) ms d.0) h in
        absurd (n (sym (body_key m.instance m.name o e)))

-- ---- definitions and actuals by instance and name

actual_keys_within : (i : ℕ) (qs : List Parameter) (es : Trees) → Within (actual_keys i qs es) (map (of_declared key i) (map parameter_declared qs))
actual_keys_within i [] es = none_left
actual_keys_within i (q ∷ qs) no_trees = none_within (map (of_declared key i) (map parameter_declared (q ∷ qs)))
actual_keys_within i (q ∷ qs) (tree e es) = kept (key i q.name) (actual_keys i qs es) (map (of_declared key i) (map parameter_declared qs)) (actual_keys_within i qs es)

definition_keys_within : (i : ℕ) (ds : List PlainDefinition) → Within (map (λ d. key i d.name) ds) (map (of_declared key i) (map definition_declared ds))
definition_keys_within i [] = none_left
definition_keys_within i (d ∷ ds) = kept (key i d.name) (map (λ (c : PlainDefinition). key i c.name) ds) (map (of_declared key i) (map definition_declared ds)) (definition_keys_within i ds)

element_keys_within : (i : ℕ) (e : PlainElement) → Within (element_keys i e) (map (of_declared key i) (element_declares e))
element_keys_within i (vars kind items) = none_within (map (of_declared key i) (map item_declared items))
element_keys_within i (defines ds) = definition_keys_within i ds
element_keys_within i (constants cs) = none_left
element_keys_within i (assigns xs) = none_left
element_keys_within i (init e) = none_left
element_keys_within i (trans e) = none_left
element_keys_within i (invar e) = none_left
element_keys_within i (spec l e) = none_left

elements_keys_within : (i : ℕ) (es : List PlainElement) → Within (flat_map (element_keys i) es) (map (of_declared key i) (flat_map element_declares es))
elements_keys_within i [] = none_left
elements_keys_within i (e ∷ es) =
    subst (λ (l : List Body). Within (element_keys i e ++ flat_map (element_keys i) es) l) (sym (map-append (of_declared key i) (element_declares e) (flat_map element_declares es)))
    (within_joined (element_keys_within i e) (elements_keys_within i es))

keys_here_within : (i : ℕ) (at : Instance) → Within (keys_in i at) (declared_keys i at)
keys_here_within i at =
    subst (λ (l : List Body). Within (keys_in i at) l) (sym (map-append (of_declared key i) (map parameter_declared at.module.parameters) (flat_map element_declares at.module.elements)))
    (within_joined (actual_keys_within i at.module.parameters at.actuals) (elements_keys_within i at.module.elements))

keys_within : (n : ℕ) (t : List Instance) → Within (over_instances keys_in n t) (over_instances declared_keys n t)
keys_within n [] = none_left
keys_within n (at ∷ t) = within_joined (keys_here_within n at) (keys_within (n + 1) t)

pub keys_differ : (t : List Instance) → AllByRecursion DiffersInside t → AllDiffer (keys_of t)
keys_differ t d = differ_within (keys_within 0 t) (declared_differ 0 t d)

-- each stands at its own place
pub place_once : (ks : List Body) → AllDiffer ks → (b : ℕ) (k : Body) → slice_get ks b ≡ Some k → place ks k ≡ b
place_once [] d b k h = cc
place_once (x ∷ ks) d zero k h =
    let same : k ≡ x = cc in
    ap (λ t. cond t 0 (1 + place ks k)) (subst (λ z. body_same x z ≡ true) (sym same) (same_self x))
place_once (x ∷ ks) d (suc b) k h = ap (λ t. cond t 0 (1 + place ks k)) (apart (body_same x k) refl) ∙ (let r = place_once ks d.1 b k h in omega (arith, r))
  where
    apart : (t : Bool) → body_same x k ≡ t → body_same x k ≡ false
    apart false e = e
    apart true e = absurd (holds_at (λ (y : Body). y ≢ x) ks b k d.0 h (sym (same_is x k e)))
