-- In the rows of states and labels of the declared types each formula of an accepted model's flat form is evaluated safely.
use Rattle.std.proofs.Common.{◌≡◌, ℕ, ◌+◌, zero, suc, true, false, List, [], ◌∷◌, ◌++◌, map, length, flat_map, Some, IsTrue, refl, sym, ap, subst, arith}
use mathlib.Core.Logic.{inl, inr, ⊎_elim}
use Rattle.std.specs.List.{slice_get, AllByRecursion}
use Rattle.smv_text.specs.declared.tree.Path.{Path}
use Rattle.smv_text.specs.declared.tree.Parameter.{Parameter}
use Rattle.smv_text.specs.declared.tree.VarKind.{VarKind}
use Rattle.smv_text.specs.Heights.{of_definitions, of_assignments}
use Rattle.smv_text.specs.Tree.{Tree, truth, number, literal, name, prefix, chain, choice, cases, select, call, next, set, range, Trees, no_trees, tree, PlainDomain, boolean, members, between, bits, instance, PlainItem, PlainDefinition, PlainAssignment, PlainElement, vars, defines, constants, assigns, init, trans, invar, spec}
use Rattle.smv_meaning.specs.declared.value.Value.{Value}
use Rattle.smv_meaning.specs.Values.{Valuation}
use Rattle.smv_meaning.specs.Instances.{Instance, instances_of}
use Rattle.smv_meaning.specs.Names.{parent_of}
use Rattle.smv_meaning.specs.Checks.{Position}
use Rattle.smv_meaning.specs.Naming.{in_body}
use Rattle.smv_meaning.specs.Phases.{in_state, in_step, in_assignment}
use Rattle.smv_meaning.specs.Runs.{state_fits, label_fits}
use Rattle.smv_meaning.specs.Safety.{Safe}
use Rattle.smv_meaning.specs.Literals.{words_fit}
use Rattle.smv_meaning.specs.Parts.{IsPart, InTrees, InOne, expressions_in, InElements, InActuals, OccursIn}
use Rattle.smv_meaning.specs.Settled.{values_in, types_in}
use Rattle.smv_meaning.specs.Checked.{IsChecked, all_trees}
use Rattle.smv_laws.proofs.SafeLaws.{safe}
use Rattle.smv_laws.proofs.Ranked.{cycles_are_checked_law}
use Rattle.smv_laws.proofs.SafeExpressions.{accepted_is_checked_law, expressions_have_types_law}
use Rattle.smv_laws.proofs.ValueLaws.{paths_lie_law}
use Rattle.smv_items.specs.FlatItems.{Content, variable, definition, actual, Origin, with_content, actual_content, actual_items, domain_content, variable_item, definition_item, element_items, items_here, symbols_of, leaf_in}
use Rattle.smv_flat.specs.FlatForms.{Form, flat_in, content_form, body_forms, assignment_form, element_forms, forms_here, forms_from, flat_of}
use Rattle.smv_flat.specs.FlatTruth.{Row, symbol_value, IsRow}
use Rattle.smv_flat_laws.proofs.FlatSame.{reads}
use Rattle.smv_flat_laws.proofs.FlatRows.{row_values}
use Rattle.smv_flat_evaluation.specs.FlatSafety.{FlatSafe, FormsAreSafe}
use Rattle.smv_flat_evaluation.proofs.SafeFlat.{leaf_safe, flat_safe}

-- ---- one expression

abbrev pub FlatFine : List Instance → Row → Row → ℕ → Position → Tree → Type 0
FlatFine t now later i at e = FlatSafe (symbol_value (symbols_of t)) now later (flat_in t i at e)

expression_safe : (t : List Instance) → IsChecked t → IsTrue (all_trees words_fit t) → (state label following other : Valuation)
    → IsTrue (state_fits t state) → IsTrue (label_fits t label) → IsTrue (state_fits t following) → IsTrue (label_fits t other)
    → (now later : Row) → IsRow (flat_of t) state label now → IsRow (flat_of t) following other later
    → (i : ℕ) (at : Position) (e : Tree) → OccursIn t i e → FlatFine t now later i at e
expression_safe t checked words state label following other a b c d now later this then i at e stands =
    ⊎_elim
    (λ typed.
    let s : Safe (λ x. Unit {0}) (λ x. Unit {0}) (values_in t state label i) (values_in t following other i) e =
    safe (types_in true t i) (values_in t state label i) (values_in t following other i) (λ x. Unit {0}) (λ x. Unit {0})
    (λ x. paths_lie_law t true state label a (λ y. b) i x) (λ x. paths_lie_law t true following other c (λ y. d) i x) (λ x y. tt) (λ x y. tt) typed.0 e typed.1 in
    flat_safe (symbol_value (symbols_of t)) now later (types_in true t i) (leaf_in t i) (λ x. Unit {0}) (λ x. Unit {0}) at false e
    (subst (λ (f : Path → Value). Safe (λ x. Unit {0}) (λ x. Unit {0}) f (reads (symbol_value (symbols_of t)) now later (leaf_in t i) true) e) (sym (same now state label this))
    (subst (λ (g : Path → Value). Safe (λ x. Unit {0}) (λ x. Unit {0}) (values_in t state label i) g e) (sym (same later following other then)) s)))
    (λ named. subst (λ z. FlatFine t now later i at z) (sym named.2) (leaf_safe (symbol_value (symbols_of t)) now later _ false (leaf_in t i named.1)))
    (expressions_have_types_law t checked words i e stands)
  where
    same : (row : Row) (s l : Valuation) → IsRow (flat_of t) s l row → (λ x. reads (symbol_value (symbols_of t)) row row (leaf_in t i) false x) ≡ values_in t s l i
    same row s l r = λ j x. row_values t ((cycles_are_checked_law t).0 checked.cycles) s l row r i x j

-- ---- what is in a model

own_part : (e : Tree) → IsPart e e
own_part (truth p b) = refl
own_part (number p n) = refl
own_part (literal p w) = refl
own_part (name p x) = refl
own_part (prefix p sign n x) = inl refl
own_part (chain p x ls) = inl refl
own_part (choice p bs x) = inl refl
own_part (cases p bs) = inl refl
own_part (select p x high low) = inl refl
own_part (call p f xs) = inl refl
own_part (next p x) = inl refl
own_part (set p xs) = inl refl
own_part (range p low high) = refl

one_front : (e : Tree) (xs ys : List Tree) → InOne e xs → InOne e (xs ++ ys)
one_front e [] ys h = absurd h
one_front e (x ∷ xs) ys (inl h) = inl h
one_front e (x ∷ xs) ys (inr h) = inr (one_front e xs ys h)

one_behind : (e : Tree) (xs ys : List Tree) → InOne e ys → InOne e (xs ++ ys)
one_behind e [] ys h = h
one_behind e (x ∷ xs) ys h = inr (one_behind e xs ys h)

all_on : {X : Type 0} (P : X → Type 0) (xs ys : List X) → AllByRecursion P xs → AllByRecursion P ys → AllByRecursion P (xs ++ ys)
all_on P [] ys a b = b
all_on P (x ∷ xs) ys a b = (a.0, all_on P xs ys a.1 b)

in_actuals : (t : List Instance) (n : ℕ) (at : Instance) (e : Tree) → slice_get t n ≡ Some at → InTrees e at.actuals → InActuals (parent_of at) e t
in_actuals [] n at e h g = cc
in_actuals (a ∷ t) zero at e h g =
    let same : a ≡ at = cc in inl (ap parent_of same, subst (λ (z : Instance). InTrees e z.actuals) (sym same) g)
in_actuals (a ∷ t) (suc n) at e h g = inr (in_actuals t n at e h g)

-- ---- formulas

-- each expression that is in an instance is safe there
abbrev pub AllFine : List Instance → Row → Row → Type 0
AllFine t now later = (i : ℕ) (at : Position) (e : Tree) → OccursIn t i e → FlatFine t now later i at e

abbrev pub FormFine : List Instance → Row → Row → Form → Type 0
FormFine t now later f = FlatSafe (symbol_value (symbols_of t)) now later f.body

abbrev pub ContentStands : List Instance → Content → Type 0
ContentStands t (variable kind d) = Unit {0}
ContentStands t (definition j e) = OccursIn t j e
ContentStands t (actual j e) = OccursIn t j e

abbrev pub OriginStands : List Instance → Origin → Type 0
OriginStands t m = ContentStands t m.content

bodies_fine : (t : List Instance) (now later : Row) → AllFine t now later → (k : ℕ) (ms : List Origin) → AllByRecursion (OriginStands t) ms → AllByRecursion (FormFine t now later) (body_forms t k ms)
bodies_fine t now later h k [] s = tt
bodies_fine t now later h k (m ∷ ms) s =
    all_on (FormFine t now later) (content_form t k m.instance m.content) (body_forms t (k + 1) ms) (by m.content s.0) (bodies_fine t now later h (k + 1) ms s.1)
  where
    by : (c : Content) → ContentStands t c → AllByRecursion (FormFine t now later) (content_form t k m.instance c)
    by (variable kind d) g = tt
    by (definition j e) g = (h j in_body e g, tt)
    by (actual j e) g = (h j in_body e g, tt)

actuals_stand : (t : List Instance) (i j : ℕ) (qs : List Parameter) (es : Trees) → ((e : Tree) → InTrees e es → OccursIn t j e) → AllByRecursion (OriginStands t) (actual_items i j qs es)
actuals_stand t i j [] es h = tt
actuals_stand t i j (q ∷ qs) no_trees h = tt
actuals_stand t i j (q ∷ qs) (tree e es) h =
    all_on (OriginStands t) (with_content i q.name (actual_content j e)) (actual_items i j qs es) (by e (h e (inl (own_part e)))) (actuals_stand t i j qs es (λ x g. h x (inr g)))
  where
    by : (e : Tree) → OccursIn t j e → AllByRecursion (OriginStands t) (with_content i q.name (actual_content j e))
    by (name p x) g = tt
    by (truth p b) g = (g, tt)
    by (number p n) g = (g, tt)
    by (literal p w) g = (g, tt)
    by (prefix p sign n x) g = (g, tt)
    by (chain p x ls) g = (g, tt)
    by (choice p bs x) g = (g, tt)
    by (cases p bs) g = (g, tt)
    by (select p x high low) g = (g, tt)
    by (call p f xs) g = (g, tt)
    by (next p x) g = (g, tt)
    by (set p xs) g = (g, tt)
    by (range p low high) g = (g, tt)

variables_stand : (t : List Instance) (i : ℕ) (kind : VarKind) (items : List PlainItem) → AllByRecursion (OriginStands t) (flat_map (variable_item i kind) items)
variables_stand t i kind [] = tt
variables_stand t i kind (v ∷ items) = all_on (OriginStands t) (variable_item i kind v) (flat_map (variable_item i kind) items) (by v.domain) (variables_stand t i kind items)
  where
    by : (d : PlainDomain) → AllByRecursion (OriginStands t) (with_content i v.name (domain_content kind d))
    by boolean = (tt, tt)
    by (members ms) = (tt, tt)
    by (between low high) = (tt, tt)
    by (bits n) = (tt, tt)
    by (instance m es) = tt

definitions_stand : (t : List Instance) (i : ℕ) (ds : List PlainDefinition) → ((e : Tree) → InOne e (of_definitions ds) → OccursIn t i e) → AllByRecursion (OriginStands t) (map (definition_item i) ds)
definitions_stand t i [] h = tt
definitions_stand t i (d ∷ ds) h = (h d.body (inl (own_part d.body)), definitions_stand t i ds (λ e g. h e (inr g)))

element_stands : (t : List Instance) (i : ℕ) (m : PlainElement) → ((e : Tree) → InOne e (expressions_in m) → OccursIn t i e) → AllByRecursion (OriginStands t) (element_items i m)
element_stands t i (vars kind items) h = variables_stand t i kind items
element_stands t i (defines ds) h = definitions_stand t i ds h
element_stands t i (constants cs) h = tt
element_stands t i (assigns xs) h = tt
element_stands t i (init e) h = tt
element_stands t i (trans e) h = tt
element_stands t i (invar e) h = tt
element_stands t i (spec l e) h = tt

elements_stand : (t : List Instance) (i : ℕ) (ms : List PlainElement) → ((e : Tree) → InOne e (flat_map expressions_in ms) → OccursIn t i e)
    → AllByRecursion (OriginStands t) (flat_map (element_items i) ms)
elements_stand t i [] h = tt
elements_stand t i (m ∷ ms) h =
    all_on (OriginStands t) (element_items i m) (flat_map (element_items i) ms) (element_stands t i m (λ e g. h e (one_front e (expressions_in m) (flat_map expressions_in ms) g)))
    (elements_stand t i ms (λ e g. h e (one_behind e (expressions_in m) (flat_map expressions_in ms) g)))

assignments_fine : (t : List Instance) (now later : Row) → AllFine t now later → (i : ℕ) (xs : List PlainAssignment) → ((e : Tree) → InOne e (of_assignments xs) → OccursIn t i e)
    → AllByRecursion (FormFine t now later) (map (assignment_form t i) xs)
assignments_fine t now later h i [] g = tt
assignments_fine t now later h i (a ∷ xs) g =
    (h i (in_assignment a.when) a.body (g a.body (inl (own_part a.body))), assignments_fine t now later h i xs (λ e k. g e (inr k)))

element_fine : (t : List Instance) (now later : Row) → AllFine t now later → (i : ℕ) (m : PlainElement) → ((e : Tree) → InOne e (expressions_in m) → OccursIn t i e)
    → AllByRecursion (FormFine t now later) (element_forms t i m)
element_fine t now later h i (vars kind items) g = tt
element_fine t now later h i (defines ds) g = tt
element_fine t now later h i (constants cs) g = tt
element_fine t now later h i (assigns xs) g = assignments_fine t now later h i xs g
element_fine t now later h i (init e) g = (h i in_state e (g e (inl (own_part e))), tt)
element_fine t now later h i (trans e) g = (h i in_step e (g e (inl (own_part e))), tt)
element_fine t now later h i (invar e) g = (h i in_state e (g e (inl (own_part e))), tt)
element_fine t now later h i (spec l e) g = (h i in_state e (g e (inl (own_part e))), tt)

elements_fine : (t : List Instance) (now later : Row) → AllFine t now later → (i : ℕ) (ms : List PlainElement) → ((e : Tree) → InOne e (flat_map expressions_in ms) → OccursIn t i e)
    → AllByRecursion (FormFine t now later) (flat_map (element_forms t i) ms)
elements_fine t now later h i [] g = tt
elements_fine t now later h i (m ∷ ms) g =
    all_on (FormFine t now later) (element_forms t i m) (flat_map (element_forms t i) ms)
    (element_fine t now later h i m (λ e k. g e (one_front e (expressions_in m) (flat_map expressions_in ms) k)))
    (elements_fine t now later h i ms (λ e k. g e (one_behind e (expressions_in m) (flat_map expressions_in ms) k)))

forms_fine : (t : List Instance) (now later : Row) → AllFine t now later → (k i : ℕ) (rest : List Instance) → ((n : ℕ) (at : Instance) → slice_get rest n ≡ Some at → slice_get t (i + n) ≡ Some at)
    → AllByRecursion (FormFine t now later) (forms_from t k i rest)
forms_fine t now later h k i [] g = tt
forms_fine t now later h k i (at ∷ rest) g =
    let zeroed : i + 0 ≡ i = omega arith in
    let there : slice_get t i ≡ Some at = subst (λ n. slice_get t n ≡ Some at) zeroed (g 0 at refl) in
    let own : (e : Tree) → InOne e (flat_map expressions_in at.module.elements) → OccursIn t i e = λ e s. inl (subst (InElements e) (sym there) s) in
    let P = FormFine t now later in
    let more = k + length (items_here i at) in
    all_on P (forms_here t k i at) (forms_from t more (i + 1) rest)
    (all_on P (body_forms t k (items_here i at)) (flat_map (element_forms t i) at.module.elements)
    (bodies_fine t now later h k (items_here i at)
    (all_on (OriginStands t) (actual_items i (parent_of at) at.module.parameters at.actuals) (flat_map (element_items i) at.module.elements)
    (actuals_stand t i (parent_of at) at.module.parameters at.actuals (λ e s. inr (in_actuals t i at e there s)))
    (elements_stand t i at.module.elements own)))
    (elements_fine t now later h i at.module.elements own))
    (forms_fine t now later h more (i + 1) rest (λ n a s. let r : i + suc n ≡ (i + 1) + n = omega arith in subst (λ m. slice_get t m ≡ Some a) r (g (suc n) a s)))

pub forms_are_safe_law : FormsAreSafe
forms_are_safe_law source needed accepted words state label following other a b c d now later this then =
    let t = instances_of source in
    forms_fine t now later
    (expression_safe t (accepted_is_checked_law source needed accepted) words state label following other a b c d now later this then) 0 0 t
    (λ n at s. let r : n ≡ 0 + n = omega arith in subst (λ m. slice_get t m ≡ Some at) r s)
