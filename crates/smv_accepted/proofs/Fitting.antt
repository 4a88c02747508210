-- A state or a label is of the declared types exactly where it gives each item of a variable a value of its type.
use Rattle.std.proofs.Common.{◌≡◌, ℕ, zero, ◌+◌, Bool, true, false, not, ◌&&◌, ◌||◌, List, [], ◌∷◌, map, flat_map, Option, Some, refl, ap, ◌∙◌, arith}
use Rattle.std.specs.List.{slice_get, list_all}
use Rattle.smv_text.specs.declared.tree.Parameter.{Parameter}
use Rattle.smv_text.specs.declared.tree.VarKind.{VarKind}
use Rattle.smv_text.specs.Tree.{Tree, truth, number, literal, name, prefix, chain, choice, cases, select, call, next, set, range, Trees, no_trees, tree, PlainDomain, boolean, members, between, bits, instance, PlainItem, PlainDefinition, PlainElement, vars, defines, constants, assigns, init, trans, invar, spec}
use Rattle.smv_meaning.specs.Values.{Valuation, is_of_type}
use Rattle.smv_meaning.specs.Instances.{Instance, dotted}
use Rattle.smv_meaning.specs.Names.{parent_of, path_in, dotted_at}
use Rattle.smv_meaning.specs.Phases.{over_instances}
use Rattle.smv_meaning.specs.Runs.{domain_fits, is_fit, element_fits, values_fit}
use Rattle.smv_items.specs.FlatItems.{Content, variable, definition, actual, Origin, with_content, actual_content, actual_items, domain_content, variable_item, definition_item, element_items, items_here, origins_of, path_of}
use Rattle.text_core.proofs.Truths.{and_true}
use Rattle.text_core.proofs.ListLaws.{both_so}
use Rattle.smv_laws.proofs.Rests.{IsRest, rest_more}

abbrev pub content_fits : (VarKind → Bool) → Valuation → List ℕ → Content → Bool
content_fits picked values x (variable kind d) = not (picked kind) || is_of_type d (values x)
content_fits picked values x (definition j e) = true
content_fits picked values x (actual j e) = true

abbrev pub origin_fits : (VarKind → Bool) → List Instance → Valuation → Origin → Bool
origin_fits picked t values m = content_fits picked values (path_of t m) m.content

or_true : (b : Bool) → true ≡ (b || true)
or_true true = refl
or_true false = refl

shared : (a b c : Bool) → ((a || b) && (a || c)) ≡ (a || (b && c))
shared true b c = refl
shared false b c = refl

module _ (picked : VarKind → Bool) (t : List Instance) (values : Valuation) where
  actual_fits : (i j : ℕ) (x : List ℕ) (e : Tree) → list_all (origin_fits picked t values) (with_content i x (actual_content j e)) ≡ true
  actual_fits i j x (name p q) = refl
  actual_fits i j x (truth p c) = refl
  actual_fits i j x (number p n) = refl
  actual_fits i j x (literal p w) = refl
  actual_fits i j x (prefix p sign n c) = refl
  actual_fits i j x (chain p c ls) = refl
  actual_fits i j x (choice p bs c) = refl
  actual_fits i j x (cases p bs) = refl
  actual_fits i j x (select p c high low) = refl
  actual_fits i j x (call p f cs) = refl
  actual_fits i j x (next p c) = refl
  actual_fits i j x (set p cs) = refl
  actual_fits i j x (range p low high) = refl

  actuals_fit : (i j : ℕ) (qs : List Parameter) (es : Trees) → list_all (origin_fits picked t values) (actual_items i j qs es) ≡ true
  actuals_fit i j [] es = refl
  actuals_fit i j (q ∷ qs) no_trees = refl
  actuals_fit i j (q ∷ qs) (tree e es) =
      both_so (origin_fits picked t values) (with_content i q.name (actual_content j e)) (actual_items i j qs es) true true (actual_fits i j q.name e) (actuals_fit i j qs es)

  definitions_fit : (i : ℕ) (ds : List PlainDefinition) → list_all (origin_fits picked t values) (map (definition_item i) ds) ≡ true
  definitions_fit i [] = refl
  definitions_fit i (d ∷ ds) = definitions_fit i ds

  variable_fits : (i : ℕ) (path : List ℕ) (kind : VarKind) (x : List ℕ) (d : PlainDomain) → dotted_at t i x ≡ dotted path x
      → list_all (origin_fits picked t values) (with_content i x (domain_content kind d)) ≡ (not (picked kind) || domain_fits d (values (dotted path x)))
  variable_fits i path kind x d e = by d
    where
      here : (c : PlainDomain) → ((not (picked kind) || is_of_type c (values (dotted_at t i x))) && true) ≡ (not (picked kind) || is_of_type c (values (dotted path x)))
      here c = and_true (not (picked kind) || is_of_type c (values (dotted_at t i x))) ∙ ap (λ y. not (picked kind) || is_of_type c (values y)) e

      by : (c : PlainDomain) → list_all (origin_fits picked t values) (with_content i x (domain_content kind c)) ≡ (not (picked kind) || domain_fits c (values (dotted path x)))
      by boolean = here boolean
      by (members ms) = here (members ms)
      by (between low high) = here (between low high)
      by (bits n) = here (bits n)
      by (instance m es) = or_true (not (picked kind))

  variables_fit : (i : ℕ) (path : List ℕ) (kind : VarKind) (vs : List PlainItem) → ((x : List ℕ) → dotted_at t i x ≡ dotted path x)
      → list_all (origin_fits picked t values) (flat_map (variable_item i kind) vs) ≡ (not (picked kind) || list_all (is_fit path values) vs)
  variables_fit i path kind [] e = or_true (not (picked kind))
  variables_fit i path kind (v ∷ vs) e =
      both_so (origin_fits picked t values) (variable_item i kind v) (flat_map (variable_item i kind) vs) _ _ (variable_fits i path kind v.name v.domain (e v.name)) (variables_fit i path kind vs e)
      ∙ shared (not (picked kind)) (is_fit path values v) (list_all (is_fit path values) vs)

  element_fits_so : (i : ℕ) (path : List ℕ) (el : PlainElement) → ((x : List ℕ) → dotted_at t i x ≡ dotted path x) → list_all (origin_fits picked t values) (element_items i el) ≡ element_fits picked path values el
  element_fits_so i path (vars kind items) e = variables_fit i path kind items e
  element_fits_so i path (defines ds) e = definitions_fit i ds
  element_fits_so i path (constants cs) e = refl
  element_fits_so i path (assigns xs) e = refl
  element_fits_so i path (init c) e = refl
  element_fits_so i path (trans c) e = refl
  element_fits_so i path (invar c) e = refl
  element_fits_so i path (spec l c) e = refl

  elements_fit : (i : ℕ) (path : List ℕ) (es : List PlainElement) → ((x : List ℕ) → dotted_at t i x ≡ dotted path x)
      → list_all (origin_fits picked t values) (flat_map (element_items i) es) ≡ list_all (element_fits picked path values) es
  elements_fit i path [] e = refl
  elements_fit i path (el ∷ es) e =
      both_so (origin_fits picked t values) (element_items i el) (flat_map (element_items i) es) _ _ (element_fits_so i path el e) (elements_fit i path es e)

pub rest_first : (t : List Instance) (i : ℕ) (at : Instance) (rest : List Instance) → IsRest t i (at ∷ rest) → slice_get t i ≡ Some at
rest_first t i at rest h = let s : i ≡ i + 0 = omega arith in ap (slice_get t) s ∙ h 0

pub rest_all : (t : List Instance) → IsRest t 0 t
rest_all t n = let s : zero + n ≡ n = omega arith in ap (slice_get t) s

rest_path : (t : List Instance) (i : ℕ) (at : Instance) (rest : List Instance) → IsRest t i (at ∷ rest) → (x : List ℕ) → dotted_at t i x ≡ dotted at.path x
rest_path t i at rest h x = ap (λ (o : Option Instance). dotted (path_in o) x) (rest_first t i at rest h)

instances_fit : (picked : VarKind → Bool) (t : List Instance) (values : Valuation) (i : ℕ) (rest : List Instance) → IsRest t i rest
    → list_all (origin_fits picked t values) (over_instances items_here i rest) ≡ values_fit picked rest values
instances_fit picked t values i [] r = refl
instances_fit picked t values i (at ∷ rest) r =
    both_so (origin_fits picked t values) (items_here i at) (over_instances items_here (i + 1) rest) (list_all (element_fits picked at.path values) at.module.elements) (values_fit picked rest values)
    (both_so (origin_fits picked t values) (actual_items i (parent_of at) at.module.parameters at.actuals) (flat_map (element_items i) at.module.elements) true (list_all (element_fits picked at.path values) at.module.elements)
    (actuals_fit picked t values i (parent_of at) at.module.parameters at.actuals) (elements_fit picked t values i at.path at.module.elements (rest_path t i at rest r)))
    (instances_fit picked t values (i + 1) rest (rest_more t i at rest r))

pub values_fit_so : (picked : VarKind → Bool) (t : List Instance) (values : Valuation) → list_all (origin_fits picked t values) (origins_of t) ≡ values_fit picked t values
values_fit_so picked t values = instances_fit picked t values 0 t (rest_all t)
