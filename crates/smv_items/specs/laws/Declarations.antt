-- The declarations of an instance, of which the names of its items are some. Those of an accepted model's instances differ.
use Rattle.std.proofs.Common.{◌≡◌, ◌≢◌, ℕ, ◌+◌, Bool, true, false, not, ◌&&◌, ◌||◌, nat_le, nat_lt, List, [], ◌∷◌, ◌++◌, map, length, Option, Some, None, bytes_eq, refl, sym, ◌∙◌, subst, subst₂}
use Rattle.std.specs.List.{AllByRecursion, flat_map}
use Rattle.std.proofs.lemmas.List.{map-append}
use Rattle.std.proofs.lemmas.List.Folds.{list_all-append}
use Rattle.smv_text.specs.declared.tree.Parameter.{Parameter}
use Rattle.smv_text.specs.declared.tree.VarKind.{VarKind}
use Rattle.smv_text.specs.Tree.{Trees, no_trees, tree, PlainItem, PlainDefinition, PlainElement, vars, defines, constants, assigns, init, trans, invar, spec, PlainModule, PlainSource}
use Rattle.smv_meaning.specs.Instances.{Instance, dotted, is_one_of, instances_of, modules_above}
use Rattle.smv_meaning.specs.Names.{parent_of}
use Rattle.smv_meaning.specs.Checks.{Check, check, passes}
use Rattle.smv_meaning.specs.Phases.{Declared, element_declares, declared_in, declares_instance, longest_path, most_instances, item_checks, counted, declared_checks, counted_all, declaration_checks, module_checks, size_checks, later_checks, invariants_in, IsAccepted, parameter_declared, item_declared, definition_declared}
use Rattle.smv_meaning.specs.laws.Booleans.{both_true}
use Rattle.smv_items.specs.FlatItems.{Content, Origin, with_content, actual_content, actual_items, domain_content, variable_item, definition_item, element_items, items_here}
use Rattle.smv_items.specs.laws.Differing.{all_weaker, apart_told, Within, none_left, kept, passed, within_joined, none_within}
use Rattle.name_maps.proofs.FreshNames.{AllDiffer, Lacks}
use Rattle.text_core.proofs.Truths.{not_true}

-- ---- declarations

abbrev pub name_of : Declared → List ℕ
name_of d = d.name

abbrev pub declared_names : PlainModule → List (List ℕ)
declared_names m = map name_of (declared_in m)

-- the declarations of its module differ
abbrev pub DiffersInside : Instance → Type 0
DiffersInside at = AllDiffer (declared_names at.module)

either_false : (a b : Bool) → (a || b) ≡ false → (a ≡ false) × (b ≡ false)
either_false true b h = cc
either_false false b h = (refl, h)

pub one_of_lacks : (xs : List (List ℕ)) (x : List ℕ) → is_one_of xs x ≡ false → Lacks xs x
one_of_lacks [] x h = tt
one_of_lacks (y ∷ ys) x h = let p = either_false (bytes_eq y x) (is_one_of ys x) h in (apart_told y x p.0, one_of_lacks ys x p.1)

-- ---- the checks of declarations

halves : (xs ys : List Check) → passes (xs ++ ys) ≡ true → (passes xs ≡ true) × (passes ys ≡ true)
halves xs ys h = both_true (passes xs) (passes ys) (sym (list_all-append (λ (c : Check). c.holds) xs ys) ∙ h)

-- a name that isn't among those seen before, with one more
not_seen : (x : List ℕ) (seen : List (List ℕ)) (y : List ℕ) → Lacks (x ∷ seen) y → y ≢ x
not_seen x seen y h e = h.0 (sym e)

record AreNew (seen names : List (List ℕ)) : Type 0 where
  pub unseen : AllByRecursion (λ x. Lacks seen x) names
  pub differ : AllDiffer names

declared_new : (ms : List PlainModule) (above : List (List ℕ)) (path : List ℕ) (seen : List (List ℕ)) (met : ℕ) (ds : List Declared)
    → passes (declared_checks ms above path seen met ds) ≡ true → AreNew seen (map name_of ds)
declared_new ms above path seen met [] h = record { unseen = tt; differ = tt }
declared_new ms above path seen met (d ∷ ds) h =
    let rest = declared_checks ms above path (d.name ∷ seen) (counted met d) ds in
    let own = check 28 d.place (nat_le (length (dotted path d.name)) longest_path && (not (declares_instance d.item) || nat_le (met + 1) most_instances)) in
    let a = both_true (not (is_one_of seen d.name)) (passes (item_checks ms above d.item ++ own ∷ rest)) h in
    let b = halves (item_checks ms above d.item) (own ∷ rest) a.1 in
    let c = both_true own.holds (passes rest) b.1 in
    let r = declared_new ms above path (d.name ∷ seen) (counted met d) ds c.1 in
    record {
      unseen = (one_of_lacks seen d.name (not_true (is_one_of seen d.name) a.0), all_weaker (λ x. Lacks (d.name ∷ seen) x) (λ x. Lacks seen x) (λ x k. k.1) (map name_of ds) r.unseen);
      differ = (all_weaker (λ x. Lacks (d.name ∷ seen) x) (λ x. x ≢ d.name) (not_seen d.name seen) (map name_of ds) r.unseen, r.differ);
    }

-- the names that each instance declares differ where the checks of declarations hold
pub all_declared : (ms : List PlainModule) (all : List Instance) (i met : ℕ) (t : List Instance) → passes (declaration_checks ms all i met t) ≡ true → AllByRecursion DiffersInside t
all_declared ms all i met [] h = tt
all_declared ms all i met (at ∷ t) h =
    let here = declared_checks ms (modules_above (length all) all (Some i)) at.path [] met (declared_in at.module) in
    let a = halves here (declaration_checks ms all (i + 1) (counted_all met (declared_in at.module)) t) h in
    ((declared_new ms (modules_above (length all) all (Some i)) at.path [] met (declared_in at.module) a.0).differ, all_declared ms all (i + 1) (counted_all met (declared_in at.module)) t a.1)

pub accepted_differ : (source : PlainSource) (needed : ℕ) → IsAccepted source needed → AllByRecursion DiffersInside (instances_of source)
accepted_differ source needed h =
    let t = instances_of source in
    let first = module_checks source in
    let declared = declaration_checks source.modules t 0 1 t in
    let a = halves (first ++ declared ++ size_checks source ++ later_checks t) (check 27 source.end (nat_lt needed (length (invariants_in t))) ∷ []) h in
    let b = halves (first ++ declared ++ size_checks source) (later_checks t) a.0 in
    let c = halves (first ++ declared) (size_checks source) b.0 in
    all_declared source.modules t 0 1 t (halves first declared c.0).1

-- ---- the items of an instance are among its declarations, whatever is made of their instance and their names

-- what is made of an item, and of a declaration of the instance
abbrev pub of_origin : {X : Type 0} → (ℕ → List ℕ → X) → Origin → X
of_origin f m = f m.instance m.name

abbrev pub of_declared : {X : Type 0} → (ℕ → List ℕ → X) → ℕ → Declared → X
of_declared f i d = f i d.name

maybe_within : {X : Type 0} (f : ℕ → List ℕ → X) (i : ℕ) (x : List ℕ) (o : Option Content) → Within (map (of_origin f) (with_content i x o)) (f i x ∷ [])
maybe_within f i x None = passed (f i x) [] [] none_left
maybe_within f i x (Some c) = kept (f i x) [] [] none_left

pub actuals_within : {X : Type 0} (f : ℕ → List ℕ → X) (i j : ℕ) (qs : List Parameter) (es : Trees) → Within (map (of_origin f) (actual_items i j qs es)) (map (of_declared f i) (map parameter_declared qs))
actuals_within f i j [] es = none_left
actuals_within f i j (q ∷ qs) no_trees = none_within (map (of_declared f i) (map parameter_declared (q ∷ qs)))
actuals_within {X = X} f i j (q ∷ qs) (tree e es) =
    subst (λ (l : List X). Within l (map (of_declared f i) (map parameter_declared (q ∷ qs)))) (sym (map-append (of_origin f) (with_content i q.name (actual_content j e)) (actual_items i j qs es)))
    (within_joined (maybe_within f i q.name (actual_content j e)) (actuals_within f i j qs es))

pub variables_within : {X : Type 0} (f : ℕ → List ℕ → X) (i : ℕ) (kind : VarKind) (items : List PlainItem) → Within (map (of_origin f) (flat_map (variable_item i kind) items)) (map (of_declared f i) (map item_declared items))
variables_within f i kind [] = none_left
variables_within {X = X} f i kind (v ∷ items) =
    subst (λ (l : List X). Within l (map (of_declared f i) (map item_declared (v ∷ items)))) (sym (map-append (of_origin f) (variable_item i kind v) (flat_map (variable_item i kind) items)))
    (within_joined (maybe_within f i v.name (domain_content kind v.domain)) (variables_within f i kind items))

pub definitions_within : {X : Type 0} (f : ℕ → List ℕ → X) (i : ℕ) (ds : List PlainDefinition) → Within (map (of_origin f) (map (definition_item i) ds)) (map (of_declared f i) (map definition_declared ds))
definitions_within f i [] = none_left
definitions_within f i (d ∷ ds) = kept (f i d.name) (map (of_origin f) (map (definition_item i) ds)) (map (of_declared f i) (map definition_declared ds)) (definitions_within f i ds)

element_within : {X : Type 0} (f : ℕ → List ℕ → X) (i : ℕ) (e : PlainElement) → Within (map (of_origin f) (element_items i e)) (map (of_declared f i) (element_declares e))
element_within f i (vars kind items) = variables_within f i kind items
element_within f i (defines ds) = definitions_within f i ds
element_within f i (constants cs) = none_left
element_within f i (assigns xs) = none_left
element_within f i (init e) = none_left
element_within f i (trans e) = none_left
element_within f i (invar e) = none_left
element_within f i (spec o e) = none_left

pub elements_within : {X : Type 0} (f : ℕ → List ℕ → X) (i : ℕ) (es : List PlainElement) → Within (map (of_origin f) (flat_map (element_items i) es)) (map (of_declared f i) (flat_map element_declares es))
elements_within f i [] = none_left
elements_within f i (e ∷ es) =
    subst₂ Within (sym (map-append (of_origin f) (element_items i e) (flat_map (element_items i) es))) (sym (map-append (of_declared f i) (element_declares e) (flat_map element_declares es)))
    (within_joined (element_within f i e) (elements_within f i es))

pub here_within : {X : Type 0} (f : ℕ → List ℕ → X) (i : ℕ) (at : Instance) → Within (map (of_origin f) (items_here i at)) (map (of_declared f i) (declared_in at.module))
here_within f i at =
    subst₂ Within (sym (map-append (of_origin f) (actual_items i (parent_of at) at.module.parameters at.actuals) (flat_map (element_items i) at.module.elements)))
    (sym (map-append (of_declared f i) (map parameter_declared at.module.parameters) (flat_map element_declares at.module.elements)))
    (within_joined (actuals_within f i (parent_of at) at.module.parameters at.actuals) (elements_within f i at.module.elements))
