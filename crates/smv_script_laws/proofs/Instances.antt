-- What holds of the expressions of a model's modules holds of those of its instances, and all that is charged for the instances is at
-- most the model's weight.
use Rattle.std.proofs.Common.{◌≡◌, ℕ, zero, suc, ◌+◌, ◌≤◌, Bool, true, false, List, [], ◌∷◌, ◌++◌, length, Option, Some, None, refl, arith}
use Rattle.std.specs.Prelude.{bytes_eq, if◌then◌else◌}
use Rattle.std.specs.List.{AllByRecursion}
use Rattle.smv_text.specs.Tree.{Tree as Expression, Trees as Expressions, PlainDomain, boolean, members, between, bits, instance, PlainItem, PlainElement, vars, defines, constants, assigns, init, trans, invar, spec, PlainModule, PlainSource}
use Rattle.smv_meaning.specs.Instances.{Instance, module_named, placed, child_in, child_of, with_child, grow_items, grow_elements, grow, main_instance, grown_from, main_name, instances_of, weight_of}
use Rattle.smv_script_laws.proofs.Measures.{fewest_parts}
use Rattle.smv_script_laws.proofs.Charges.{all_append, domain_actuals, items_actuals, element_actuals, module_charge, EachPart, DomainEach, ItemsEach, ElementEach, ModuleEach, Weighs}
use Rattle.smv_items.specs.laws.Counting.{tokens, total, total_append, total_is}

abbrev ModuleFits : (Expression → Type 0) → PlainModule → Type 0
ModuleFits P m = Weighs m × ModuleEach P m

pub record InstanceFits (P : Expression → Type 0) (at : Instance) : Type 0 where
  pub weighs : Weighs at.module
  pub body : ModuleEach P at.module
  pub given : EachPart P at.actuals

abbrev pub charges : List Instance → ℕ
charges t = total (λ at. module_charge at.module + fewest_parts at.actuals) t

-- the list grew by instances that are charged so much more than their tokens
record Grown (P : Expression → Type 0) (t u : List Instance) (more : ℕ) : Type 0 where
  fits : AllByRecursion (InstanceFits P) u
  weighs : charges u + tokens t ≤ (charges t + more) + tokens u

same_list : (P : Expression → Type 0) (t : List Instance) (n : ℕ) → AllByRecursion (InstanceFits P) t → Grown P t t n
same_list P t n h = record { fits = h; weighs = omega arith }

then_grown : (P : Expression → Type 0) (t u v : List Instance) (m n : ℕ) → Grown P t u m → Grown P u v n → Grown P t v (m + n)
then_grown P t u v m n a b = record { fits = b.fits; weighs = omega (arith, a.weighs, b.weighs) }

none_grown : (P : Expression → Type 0) (t u : List Instance) (n : ℕ) → Grown P t u n → Grown P t u (0 + n)
none_grown P t u n a = record { fits = a.fits; weighs = omega (arith, a.weighs) }

abbrev Keeps : (Expression → Type 0) → (Instance → List Instance → List Instance) → Type 0
Keeps P g = (at : Instance) (t : List Instance) → InstanceFits P at → AllByRecursion (InstanceFits P) t → Grown P t (g at t) (fewest_parts at.actuals)

-- ---- one declaration

abbrev ChildFits : (Expression → Type 0) → Expressions → Option Instance → Type 0
ChildFits P es None = Unit {0}
ChildFits P es (Some at) = InstanceFits P at × (fewest_parts at.actuals ≡ fewest_parts es)

placed_fits : (P : Expression → Type 0) (i : ℕ) (path x m : List ℕ) (es : Expressions) (ms : List PlainModule) → AllByRecursion (ModuleFits P) ms → EachPart P es
    → ChildFits P es (placed i path x es (module_named ms m))
placed_fits P i path x m es [] h k = tt
placed_fits P i path x m es (p ∷ ms) h k = by (placed_fits P i path x m es ms h.1 k) (bytes_eq p.name m)
  where
    by : ChildFits P es (placed i path x es (module_named ms m)) → (b : Bool) → ChildFits P es (placed i path x es (if b then Some p else module_named ms m))
    by ih true = (record { weighs = h.0.0; body = h.0.1; given = k }, refl)
    by ih false = ih

child_grown : (P : Expression → Type 0) (g : Instance → List Instance → List Instance) → Keeps P g → (es : Expressions) (o : Option Instance) → ChildFits P es o → (t : List Instance) → AllByRecursion (InstanceFits P) t
    → Grown P t (with_child g o t) (fewest_parts es)
child_grown P g k es None c t h = same_list P t (fewest_parts es) h
child_grown P g k es (Some at) c t h =
    let r = k at t c.0 h in
    let e = c.1 in
    record { fits = r.fits; weighs = omega (arith, r.weighs, e) }

domain_grown : (P : Expression → Type 0) (g : Instance → List Instance → List Instance) → Keeps P g → (ms : List PlainModule) → AllByRecursion (ModuleFits P) ms → (i : ℕ) (path x : List ℕ) (d : PlainDomain)
    → DomainEach P d → (t : List Instance) → AllByRecursion (InstanceFits P) t → Grown P t (with_child g (child_in ms i path x d) t) (domain_actuals d)
domain_grown P g k ms p i path x (instance m es) o t h = child_grown P g k es (placed i path x es (module_named ms m)) (placed_fits P i path x m es ms p o) t h
domain_grown P g k ms p i path x boolean o t h = same_list P t 0 h
domain_grown P g k ms p i path x (members xs) o t h = same_list P t 0 h
domain_grown P g k ms p i path x (between low high) o t h = same_list P t 0 h
domain_grown P g k ms p i path x (bits n) o t h = same_list P t 0 h

-- ---- all declarations

items_grown : (P : Expression → Type 0) (g : Instance → List Instance → List Instance) → Keeps P g → (ms : List PlainModule) → AllByRecursion (ModuleFits P) ms → (i : ℕ) (path : List ℕ) (items : List PlainItem)
    → ItemsEach P items → (t : List Instance) → AllByRecursion (InstanceFits P) t → Grown P t (grow_items g ms i path items t) (items_actuals items)
items_grown P g k ms p i path [] o t h = same_list P t 0 h
items_grown P g k ms p i path (v ∷ items) o t h =
    let a = domain_grown P g k ms p i path v.name v.domain o.0 t h in
    let b = items_grown P g k ms p i path items o.1 (with_child g (child_of ms i path v) t) a.fits in
    then_grown P t (with_child g (child_of ms i path v) t) _ (domain_actuals v.domain) (items_actuals items) a b

elements_grown : (P : Expression → Type 0) (g : Instance → List Instance → List Instance) → Keeps P g → (ms : List PlainModule) → AllByRecursion (ModuleFits P) ms → (i : ℕ) (path : List ℕ) (es : List PlainElement)
    → AllByRecursion (ElementEach P) es → (t : List Instance) → AllByRecursion (InstanceFits P) t → Grown P t (grow_elements g ms i path es t) (total element_actuals es)
elements_grown P g k ms p i path [] o t h = same_list P t 0 h
elements_grown P g k ms p i path (vars kind items ∷ es) o t h =
    let a = items_grown P g k ms p i path items o.0 t h in
    let b = elements_grown P g k ms p i path es o.1 (grow_items g ms i path items t) a.fits in
    then_grown P t (grow_items g ms i path items t) _ (items_actuals items) (total element_actuals es) a b
elements_grown P g k ms p i path (defines ds ∷ es) o t h = none_grown P t _ (total element_actuals es) (elements_grown P g k ms p i path es o.1 t h)
elements_grown P g k ms p i path (constants cs ∷ es) o t h = none_grown P t _ (total element_actuals es) (elements_grown P g k ms p i path es o.1 t h)
elements_grown P g k ms p i path (assigns xs ∷ es) o t h = none_grown P t _ (total element_actuals es) (elements_grown P g k ms p i path es o.1 t h)
elements_grown P g k ms p i path (init e ∷ es) o t h = none_grown P t _ (total element_actuals es) (elements_grown P g k ms p i path es o.1 t h)
elements_grown P g k ms p i path (trans e ∷ es) o t h = none_grown P t _ (total element_actuals es) (elements_grown P g k ms p i path es o.1 t h)
elements_grown P g k ms p i path (invar e ∷ es) o t h = none_grown P t _ (total element_actuals es) (elements_grown P g k ms p i path es o.1 t h)
elements_grown P g k ms p i path (spec l e ∷ es) o t h = none_grown P t _ (total element_actuals es) (elements_grown P g k ms p i path es o.1 t h)

-- ---- all instances

grow_keeps : (P : Expression → Type 0) (ms : List PlainModule) → AllByRecursion (ModuleFits P) ms → (n : ℕ) → Keeps P (grow n ms)
unfolding grow
grow_keeps P ms p zero at t e h = same_list P t (fewest_parts at.actuals) h
grow_keeps P ms p (suc n) at t e h =
    let u = t ++ at ∷ [] in
    let r = elements_grown P (grow n ms) (grow_keeps P ms p n) ms p (length t) at.path at.module.elements e.body u (all_append (InstanceFits P) t (at ∷ []) h (e, tt)) in
    let c = total_append (λ (x : Instance). module_charge x.module + fewest_parts x.actuals) t (at ∷ []) in
    let d = total_append (λ (x : Instance). x.module.tokens) t (at ∷ []) in
    let w = e.weighs in
    record { fits = r.fits; weighs = omega (arith, r.weighs, c, d, w) }

record SourceFits (P : Expression → Type 0) (t : List Instance) : Type 0 where
  fits : AllByRecursion (InstanceFits P) t
  weighs : charges t ≤ tokens t

named_fits : (P : Expression → Type 0) (ms all : List PlainModule) (m : List ℕ) → AllByRecursion (ModuleFits P) all → AllByRecursion (ModuleFits P) ms → SourceFits P (grown_from all (module_named ms m))
named_fits P [] all m p h = record { fits = tt; weighs = omega arith }
named_fits P (q ∷ ms) all m p h = by (named_fits P ms all m p h.1) (bytes_eq q.name m)
  where
    by : SourceFits P (grown_from all (module_named ms m)) → (b : Bool) → SourceFits P (grown_from all (if b then Some q else module_named ms m))
    by ih true =
        let r = grow_keeps P all p (length all) (main_instance q) [] (record { weighs = h.0.0; body = h.0.1; given = tt }) tt in
        record { fits = r.fits; weighs = omega (arith, r.weighs) }
    by ih false = ih

pub source_fits : (P : Expression → Type 0) (source : PlainSource) → AllByRecursion (λ m. Weighs m × ModuleEach P m) source.modules → AllByRecursion (InstanceFits P) (instances_of source)
source_fits P source h = (named_fits P source.modules source.modules main_name h h).fits

pub charges_weigh : (P : Expression → Type 0) (source : PlainSource) → AllByRecursion (λ m. Weighs m × ModuleEach P m) source.modules → charges (instances_of source) ≤ weight_of source
charges_weigh P source h =
    let w = (named_fits P source.modules source.modules main_name h h).weighs in
    let e = total_is (λ (x : Instance). x.module.tokens) (instances_of source) in
    omega (arith, w, e)
