-- The script of a model has one query for each invariant, in their order.
use Rattle.std.proofs.Common.{subst, ◌≡◌, ℕ, zero, suc, ◌+◌, ◌<◌, List, [], ◌∷◌, ◌++◌, Some, map, length, length-append, refl, sym, ap, ◌∙◌, arith}
use Rattle.std.specs.Prelude.{flat_map, slice_get}
use Rattle.smv_text.specs.Tree.{PlainElement, vars, defines, constants, assigns, init, trans, invar, spec}
use Rattle.smv_meaning.specs.Instances.{Instance}
use Rattle.smv_meaning.specs.Phases.{element_invariants, invariants_in, over_instances}
use Rattle.smv_text.specs.Tree.{PlainAssignment}
use Rattle.smv_items.specs.FlatItems.{Content, variable, definition, actual, Origin, items_here}
use Rattle.smv_flat.specs.FlatForms.{Form, content_form, body_forms, assignment_form, element_forms, forms_here, forms_from, forms_of}
use Rattle.smv_flat.specs.FlatTree.{FlatTree}
use Rattle.smv_flat.specs.FlatTruth.{role_invariant, forms_invariants}
use Rattle.smv_script.specs.Script.{queries_from}
use Rattle.smv_text.specs.Tree.{PlainSource}
use Rattle.smv_meaning.specs.Instances.{instances_of}
use Rattle.smv_script_laws.specs.RunLaws.{HasQueries}
use Rattle.moxi_scripts.specs.Script.{query_of}

-- ---- counts

counted : List Form → ℕ
counted fs = length (forms_invariants fs)

counted_joined : (xs ys : List Form) → counted (xs ++ ys) ≡ counted xs + counted ys
unfolding counted
counted_joined [] ys = omega arith
counted_joined (f ∷ fs) ys =
    let rest = counted_joined fs ys in
    let left = length-append (role_invariant f.role f.body) (forms_invariants fs) in
    let both = length-append (role_invariant f.role f.body) (forms_invariants (fs ++ ys)) in
    omega (arith, rest, left, both)

none_counts : counted [] ≡ 0
unfolding counted
none_counts = refl

content_counts : (t : List Instance) (k i : ℕ) (c : Content) → counted (content_form t k i c) ≡ 0
unfolding counted
content_counts t k i (variable kind d) = refl
content_counts t k i (definition j e) = refl
content_counts t k i (actual j e) = refl

bodies_count : (t : List Instance) (k : ℕ) (ms : List Origin) → counted (body_forms t k ms) ≡ 0
bodies_count t k [] = none_counts
bodies_count t k (m ∷ ms) =
    omega (arith, counted_joined (content_form t k m.instance m.content) (body_forms t (k + 1) ms), content_counts t k m.instance m.content, bodies_count t (k + 1) ms)

assignments_count : (t : List Instance) (i : ℕ) (xs : List PlainAssignment) → counted (map (assignment_form t i) xs) ≡ 0
unfolding counted
assignments_count t i [] = refl
assignments_count t i (a ∷ xs) = assignments_count t i xs

element_counts : (t : List Instance) (i : ℕ) (e : PlainElement) → counted (element_forms t i e) ≡ length (element_invariants i e)
unfolding counted
element_counts t i (vars kind items) = refl
element_counts t i (defines ds) = refl
element_counts t i (constants names) = refl
element_counts t i (assigns xs) = assignments_count t i xs
element_counts t i (init e) = refl
element_counts t i (trans e) = refl
element_counts t i (invar e) = refl
element_counts t i (spec label e) = refl

elements_count : (t : List Instance) (i : ℕ) (es : List PlainElement) → counted (flat_map (element_forms t i) es) ≡ length (flat_map (element_invariants i) es)
elements_count t i [] = none_counts
elements_count t i (e ∷ es) =
    omega (
      arith,
      counted_joined (element_forms t i e) (flat_map (element_forms t i) es),
      element_counts t i e,
      elements_count t i es,
      length-append (element_invariants i e) (flat_map (element_invariants i) es),
    )

instances_count : (t : List Instance) (k i : ℕ) (rest : List Instance)
    → counted (forms_from t k i rest) ≡ length (over_instances (λ i at. flat_map (element_invariants i) at.module.elements) i rest)
instances_count t k i [] = none_counts
instances_count t k i (at ∷ rest) =
    let here = counted_joined (body_forms t k (items_here i at)) (flat_map (element_forms t i) at.module.elements) in
    let all = counted_joined (forms_here t k i at) (forms_from t (k + length (items_here i at)) (i + 1) rest) in
    omega (
      arith,
      here,
      all,
      bodies_count t k (items_here i at),
      elements_count t i at.module.elements,
      instances_count t (k + length (items_here i at)) (i + 1) rest,
      length-append (flat_map (element_invariants i) at.module.elements) (over_instances (λ i at. flat_map (element_invariants i) at.module.elements) (i + 1) rest),
    )

-- as many invariants are in the flat form as in the model
invariants_count : (t : List Instance) → length (forms_invariants (forms_of t)) ≡ length (invariants_in t)
unfolding counted
invariants_count t = instances_count t 0 0 t

-- ---- queries

queries_count : (i : ℕ) (es : List FlatTree) → length (queries_from i es) ≡ length es
queries_count i [] = refl
queries_count i (e ∷ es) = ap suc (queries_count (i + 1) es)

-- the query of this number
query_at : (i j : ℕ) (es : List FlatTree) → j < length es → slice_get (queries_from i es) j ≡ Some (query_of (i + j))
query_at i j [] h = absurd (omega (arith, h))
query_at i zero (e ∷ es) h = ap (λ n. Some (query_of n)) (omega arith)
query_at i (suc j) (e ∷ es) h = query_at (i + 1) j es (omega (arith, h)) ∙ ap (λ n. Some (query_of n)) (omega arith)

pub has_queries_law : (source : PlainSource) → HasQueries source
has_queries_law source =
    let es = forms_invariants (forms_of (instances_of source)) in
    let long = invariants_count (instances_of source) in
    record {
      counted = queries_count 0 es ∙ long;
      each = λ j h. query_at 0 j es (subst (λ n. j < n) (sym long) h) ∙ ap (λ n. Some (query_of n)) (omega arith);
    }
