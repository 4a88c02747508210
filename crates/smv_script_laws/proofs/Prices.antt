-- What is paid for the items and the forms of a flat form is at most what is charged for its instances.
use Rattle.std.proofs.Common.{◌≡◌, ℕ, ◌+◌, ◌*◌, ◌≤◌, List, [], ◌∷◌, ◌++◌, map, length, arith}
use Rattle.std.specs.Prelude.{flat_map}
use Rattle.std.specs.List.{AllByRecursion}
use Rattle.smv_text.specs.declared.tree.VarKind.{VarKind}
use Rattle.smv_text.specs.declared.tree.Parameter.{Parameter}
use Rattle.smv_text.specs.Tree.{Tree as Expression, truth, number, literal, name, prefix, chain, choice, cases, select, call, next, set, range, Trees as Expressions, no_trees as no_expressions, tree as expression, PlainDomain, boolean, members, between, bits, instance, PlainItem, PlainDefinition, PlainAssignment, PlainElement, vars, defines, constants, assigns, init, trans, invar, spec}
use Rattle.smv_meaning.specs.Instances.{Instance}
use Rattle.smv_meaning.specs.Names.{parent_of}
use Rattle.smv_meaning.specs.Checks.{Position}
use Rattle.smv_meaning.specs.Naming.{in_body}
use Rattle.smv_meaning.specs.Phases.{over_instances, in_state, in_step, in_assignment}
use Rattle.smv_items.specs.FlatItems.{Content, variable, definition, actual, Origin, with_content, actual_content, actual_items, domain_content, variable_item, definition_item, element_items, items_here, PlainFlatItem, flat_item_of, leaf_in}
use Rattle.smv_flat.specs.declared.forms.Role.{Role}
use Rattle.smv_flat.specs.declared.forms.Role.TheVariants.{Body, Assign, Init, Trans, Invar, Invariant}
use Rattle.smv_flat.specs.FlatForms.{Form, flat_in, content_form, body_forms, element_forms, assignment_form, number_or_first, forms_here, forms_from, flat_of}
use Rattle.smv_script_laws.proofs.Measures.{fewest, fewest_parts}
use Rattle.smv_script_laws.proofs.Chains.{Sized}
use Rattle.smv_script_laws.proofs.Charges.{all_append, domain_charge, item_charge, declared_charge, stated_charge, EachPart, ElementEach}
use Rattle.smv_script_laws.proofs.Instances.{InstanceFits, charges}
use Rattle.smv_items.specs.laws.Counting.{total, total_append}

-- ---- what is charged for where an item comes from

abbrev content_charge : Content → ℕ
content_charge (variable kind d) = 3 + domain_charge d
content_charge (definition j e) = 1 + fewest e
content_charge (actual j e) = 1 + fewest e

abbrev origins_charge : List Origin → ℕ
origins_charge os = total (λ (o : Origin). content_charge o.content) os

abbrev ContentEach : (Expression → Type 0) → Content → Type 0
ContentEach P (variable kind d) = Unit {0}
ContentEach P (definition j e) = P e
ContentEach P (actual j e) = P e

abbrev OriginsEach : (Expression → Type 0) → List Origin → Type 0
OriginsEach P os = AllByRecursion (λ (o : Origin). ContentEach P o.content) os

origins_append : (xs ys : List Origin) → origins_charge (xs ++ ys) ≡ origins_charge xs + origins_charge ys
origins_append xs ys = total_append (λ (o : Origin). content_charge o.content) xs ys

each_append : (P : Expression → Type 0) (xs ys : List Origin) → OriginsEach P xs → OriginsEach P ys → OriginsEach P (xs ++ ys)
each_append P xs ys p q = all_append (λ (o : Origin). ContentEach P o.content) xs ys p q

-- ---- the items of an instance

actual_charge : (i j : ℕ) (x : List ℕ) (e : Expression) → origins_charge (with_content i x (actual_content j e)) ≤ 1 + fewest e
actual_charge i j x (name p path) = omega arith
actual_charge i j x (truth p b) = omega arith
actual_charge i j x (number p n) = omega arith
actual_charge i j x (literal p w) = omega arith
actual_charge i j x (prefix p sign n e) = omega arith
actual_charge i j x (chain p e ls) = omega arith
actual_charge i j x (choice p bs e) = omega arith
actual_charge i j x (cases p bs) = omega arith
actual_charge i j x (select p e high low) = omega arith
actual_charge i j x (call p f es) = omega arith
actual_charge i j x (next p e) = omega arith
actual_charge i j x (set p es) = omega arith
actual_charge i j x (range p low high) = omega arith

actual_each : (P : Expression → Type 0) (i j : ℕ) (x : List ℕ) (e : Expression) → P e → OriginsEach P (with_content i x (actual_content j e))
actual_each P i j x (name p path) h = tt
actual_each P i j x (truth p b) h = (h, tt)
actual_each P i j x (number p n) h = (h, tt)
actual_each P i j x (literal p w) h = (h, tt)
actual_each P i j x (prefix p sign n e) h = (h, tt)
actual_each P i j x (chain p e ls) h = (h, tt)
actual_each P i j x (choice p bs e) h = (h, tt)
actual_each P i j x (cases p bs) h = (h, tt)
actual_each P i j x (select p e high low) h = (h, tt)
actual_each P i j x (call p f es) h = (h, tt)
actual_each P i j x (next p e) h = (h, tt)
actual_each P i j x (set p es) h = (h, tt)
actual_each P i j x (range p low high) h = (h, tt)

actuals_charge : (i j : ℕ) (qs : List Parameter) (es : Expressions) → origins_charge (actual_items i j qs es) ≤ fewest_parts es
actuals_charge i j [] es = omega arith
actuals_charge i j (q ∷ qs) no_expressions = omega arith
actuals_charge i j (q ∷ qs) (expression e es) =
    let a = actual_charge i j q.name e in
    let r = actuals_charge i j qs es in
    let c = origins_append (with_content i q.name (actual_content j e)) (actual_items i j qs es) in
    omega (arith, a, r, c)

actuals_each : (P : Expression → Type 0) (i j : ℕ) (qs : List Parameter) (es : Expressions) → EachPart P es → OriginsEach P (actual_items i j qs es)
actuals_each P i j [] es h = tt
actuals_each P i j (q ∷ qs) no_expressions h = tt
actuals_each P i j (q ∷ qs) (expression e es) h = each_append P (with_content i q.name (actual_content j e)) (actual_items i j qs es) (actual_each P i j q.name e h.0) (actuals_each P i j qs es h.1)

domain_paid : (i : ℕ) (kind : VarKind) (x : List ℕ) (d : PlainDomain) → origins_charge (with_content i x (domain_content kind d)) ≤ 3 + domain_charge d
domain_paid i kind x boolean = omega arith
domain_paid i kind x (members ms) = omega arith
domain_paid i kind x (between low high) = omega arith
domain_paid i kind x (bits n) = omega arith
domain_paid i kind x (instance m es) = omega arith

domain_each : (P : Expression → Type 0) (i : ℕ) (kind : VarKind) (x : List ℕ) (d : PlainDomain) → OriginsEach P (with_content i x (domain_content kind d))
domain_each P i kind x boolean = (tt, tt)
domain_each P i kind x (members ms) = (tt, tt)
domain_each P i kind x (between low high) = (tt, tt)
domain_each P i kind x (bits n) = (tt, tt)
domain_each P i kind x (instance m es) = tt

variables_charge : (i : ℕ) (kind : VarKind) (items : List PlainItem) → origins_charge (flat_map (variable_item i kind) items) ≤ total item_charge items
variables_charge i kind [] = omega arith
variables_charge i kind (v ∷ items) =
    let a = domain_paid i kind v.name v.domain in
    let r = variables_charge i kind items in
    let c = origins_append (variable_item i kind v) (flat_map (variable_item i kind) items) in
    omega (arith, a, r, c)

variables_each : (P : Expression → Type 0) (i : ℕ) (kind : VarKind) (items : List PlainItem) → OriginsEach P (flat_map (variable_item i kind) items)
variables_each P i kind [] = tt
variables_each P i kind (v ∷ items) = each_append P (variable_item i kind v) (flat_map (variable_item i kind) items) (domain_each P i kind v.name v.domain) (variables_each P i kind items)

definitions_charge : (i : ℕ) (ds : List PlainDefinition) → origins_charge (map (definition_item i) ds) ≤ total (λ d. 1 + fewest d.body) ds
definitions_charge i [] = omega arith
definitions_charge i (d ∷ ds) = let r = definitions_charge i ds in omega (arith, r)

definitions_each : (P : Expression → Type 0) (i : ℕ) (ds : List PlainDefinition) → AllByRecursion (λ d. P d.body) ds → OriginsEach P (map (definition_item i) ds)
definitions_each P i [] h = tt
definitions_each P i (d ∷ ds) h = (h.0, definitions_each P i ds h.1)

element_charge : (i : ℕ) (e : PlainElement) → origins_charge (element_items i e) ≤ declared_charge e
element_charge i (vars kind items) = variables_charge i kind items
element_charge i (defines ds) = definitions_charge i ds
element_charge i (constants names) = omega arith
element_charge i (assigns xs) = omega arith
element_charge i (init e) = omega arith
element_charge i (trans e) = omega arith
element_charge i (invar e) = omega arith
element_charge i (spec label e) = omega arith

element_each : (P : Expression → Type 0) (i : ℕ) (e : PlainElement) → ElementEach P e → OriginsEach P (element_items i e)
element_each P i (vars kind items) h = variables_each P i kind items
element_each P i (defines ds) h = definitions_each P i ds h
element_each P i (constants names) h = tt
element_each P i (assigns xs) h = tt
element_each P i (init e) h = tt
element_each P i (trans e) h = tt
element_each P i (invar e) h = tt
element_each P i (spec label e) h = tt

elements_charge : (i : ℕ) (es : List PlainElement) → origins_charge (flat_map (element_items i) es) ≤ total declared_charge es
elements_charge i [] = omega arith
elements_charge i (e ∷ es) =
    let a = element_charge i e in
    let r = elements_charge i es in
    let c = origins_append (element_items i e) (flat_map (element_items i) es) in
    omega (arith, a, r, c)

elements_each : (P : Expression → Type 0) (i : ℕ) (es : List PlainElement) → AllByRecursion (ElementEach P) es → OriginsEach P (flat_map (element_items i) es)
elements_each P i [] h = tt
elements_each P i (e ∷ es) h = each_append P (element_items i e) (flat_map (element_items i) es) (element_each P i e h.0) (elements_each P i es h.1)

here_charge : (i : ℕ) (at : Instance) → origins_charge (items_here i at) ≤ fewest_parts at.actuals + total declared_charge at.module.elements
here_charge i at =
    let a = actuals_charge i (parent_of at) at.module.parameters at.actuals in
    let b = elements_charge i at.module.elements in
    let c = origins_append (actual_items i (parent_of at) at.module.parameters at.actuals) (flat_map (element_items i) at.module.elements) in
    omega (arith, a, b, c)

here_each : (P : Expression → Type 0) (i : ℕ) (at : Instance) → InstanceFits P at → OriginsEach P (items_here i at)
here_each P i at f =
    each_append P (actual_items i (parent_of at) at.module.parameters at.actuals) (flat_map (element_items i) at.module.elements)
    (actuals_each P i (parent_of at) at.module.parameters at.actuals f.given) (elements_each P i at.module.elements f.body)

-- ---- prices of items and forms

pub record IsPriced (t : List Instance) (ip : PlainFlatItem → ℕ) (fp : Form → ℕ) : Type 0 where
  pub variables : (i : ℕ) (x : List ℕ) (kind : VarKind) (d : PlainDomain) → ip (flat_item_of t (record { instance = i; name = x; content = variable kind d })) ≤ 3 * (3 + domain_charge d)
  pub definitions : (i : ℕ) (x : List ℕ) (j : ℕ) (e : Expression) → ip (flat_item_of t (record { instance = i; name = x; content = definition j e })) ≤ 3
  pub actuals : (i : ℕ) (x : List ℕ) (j : ℕ) (e : Expression) → ip (flat_item_of t (record { instance = i; name = x; content = actual j e })) ≤ 3
  pub forms : (i : ℕ) (r : Role) (j : ℕ) (at : Position) (e : Expression) → Sized e → fp (record { instance = i; role = r; body = flat_in t j at e }) ≤ 3 * fewest e

content_priced : (t : List Instance) (ip : PlainFlatItem → ℕ) (fp : Form → ℕ) → IsPriced t ip fp → (i : ℕ) (x : List ℕ) (c : Content) → ContentEach Sized c → (k : ℕ)
    → ip (flat_item_of t (record { instance = i; name = x; content = c })) + total fp (content_form t k i c) ≤ 3 * content_charge c
content_priced t ip fp p i x (variable kind d) h k = let a = p.variables i x kind d in omega (arith, a)
content_priced t ip fp p i x (definition j e) h k = let a = p.definitions i x j e in let b = p.forms i (Body k) j in_body e h in omega (arith, a, b)
content_priced t ip fp p i x (actual j e) h k = let a = p.actuals i x j e in let b = p.forms i (Body k) j in_body e h in omega (arith, a, b)

origins_priced : (t : List Instance) (ip : PlainFlatItem → ℕ) (fp : Form → ℕ) → IsPriced t ip fp → (os : List Origin) → OriginsEach Sized os → (k : ℕ)
    → total ip (map (flat_item_of t) os) + total fp (body_forms t k os) ≤ 3 * origins_charge os
origins_priced t ip fp p [] h k = omega arith
origins_priced t ip fp p (o ∷ os) h k =
    let a : ip (flat_item_of t o) + total fp (content_form t k o.instance o.content) ≤ 3 * content_charge o.content = content_priced t ip fp p o.instance o.name o.content h.0 k in
    let r = origins_priced t ip fp p os h.1 (k + 1) in
    let c = total_append fp (content_form t k o.instance o.content) (body_forms t (k + 1) os) in
    omega (arith, a, r, c)

assignments_priced : (t : List Instance) (ip : PlainFlatItem → ℕ) (fp : Form → ℕ) → IsPriced t ip fp → (i : ℕ) (xs : List PlainAssignment) → AllByRecursion (λ a. Sized a.body) xs
    → total fp (map (assignment_form t i) xs) ≤ 3 * total (λ a. fewest a.body) xs
assignments_priced t ip fp p i [] h = omega arith
assignments_priced t ip fp p i (a ∷ xs) h = let b = p.forms i (Assign a.when (number_or_first (leaf_in t i a.target))) i (in_assignment a.when) a.body h.0 in let r = assignments_priced t ip fp p i xs h.1 in omega (arith, b, r)

element_priced : (t : List Instance) (ip : PlainFlatItem → ℕ) (fp : Form → ℕ) → IsPriced t ip fp → (i : ℕ) (e : PlainElement) → ElementEach Sized e → total fp (element_forms t i e) ≤ 3 * stated_charge e
element_priced t ip fp p i (vars kind items) h = omega arith
element_priced t ip fp p i (defines ds) h = omega arith
element_priced t ip fp p i (constants names) h = omega arith
element_priced t ip fp p i (assigns xs) h = assignments_priced t ip fp p i xs h
element_priced t ip fp p i (init e) h = let b = p.forms i Init i in_state e h in omega (arith, b)
element_priced t ip fp p i (trans e) h = let b = p.forms i Trans i in_step e h in omega (arith, b)
element_priced t ip fp p i (invar e) h = let b = p.forms i Invar i in_state e h in omega (arith, b)
element_priced t ip fp p i (spec label e) h = let b = p.forms i Invariant i in_state e h in omega (arith, b)

elements_priced : (t : List Instance) (ip : PlainFlatItem → ℕ) (fp : Form → ℕ) → IsPriced t ip fp → (i : ℕ) (es : List PlainElement) → AllByRecursion (ElementEach Sized) es
    → total fp (flat_map (element_forms t i) es) ≤ 3 * total stated_charge es
elements_priced t ip fp p i [] h = omega arith
elements_priced t ip fp p i (e ∷ es) h =
    let a = element_priced t ip fp p i e h.0 in
    let r = elements_priced t ip fp p i es h.1 in
    let c = total_append fp (element_forms t i e) (flat_map (element_forms t i) es) in
    omega (arith, a, r, c)

mapped_append : {X Y : Type 0} (g : Y → ℕ) (f : X → Y) (xs ys : List X) → total g (map f (xs ++ ys)) ≡ total g (map f xs) + total g (map f ys)
mapped_append g f [] ys = omega arith
mapped_append g f (x ∷ xs) ys = let i = mapped_append g f xs ys in omega (arith, i)

instances_priced : (t : List Instance) (ip : PlainFlatItem → ℕ) (fp : Form → ℕ) → IsPriced t ip fp → (k i : ℕ) (rest : List Instance) → AllByRecursion (InstanceFits Sized) rest
    → total ip (map (flat_item_of t) (over_instances items_here i rest)) + total fp (forms_from t k i rest) ≤ 3 * charges rest
instances_priced t ip fp p k i [] h = omega arith
instances_priced t ip fp p k i (at ∷ rest) h =
    let a = origins_priced t ip fp p (items_here i at) (here_each Sized i at h.0) k in
    let b = elements_priced t ip fp p i at.module.elements h.0.body in
    let r = instances_priced t ip fp p (k + length (items_here i at)) (i + 1) rest h.1 in
    let c = mapped_append ip (flat_item_of t) (items_here i at) (over_instances items_here (i + 1) rest) in
    let d = total_append fp (forms_here t k i at) (forms_from t (k + length (items_here i at)) (i + 1) rest) in
    let e = total_append fp (body_forms t k (items_here i at)) (flat_map (element_forms t i) at.module.elements) in
    let g = here_charge i at in
    omega (arith, a, b, r, c, d, e, g)

pub flat_priced : (t : List Instance) (ip : PlainFlatItem → ℕ) (fp : Form → ℕ) → IsPriced t ip fp → AllByRecursion (InstanceFits Sized) t → total ip (flat_of t).items + total fp (flat_of t).forms ≤ 3 * charges t
flat_priced t ip fp p h = instances_priced t ip fp p 0 0 t h

-- ---- what holds of each form

abbrev pub HoldsOfForms : List Instance → (Expression → Type 0) → (Form → Type 0) → Type 0
HoldsOfForms t P Q = (i : ℕ) (r : Role) (j : ℕ) (at : Position) (e : Expression) → P e → Q (record { instance = i; role = r; body = flat_in t j at e })

content_all : (t : List Instance) (P : Expression → Type 0) (Q : Form → Type 0) → HoldsOfForms t P Q → (k i : ℕ) (c : Content) → ContentEach P c → AllByRecursion Q (content_form t k i c)
content_all t P Q g k i (variable kind d) h = tt
content_all t P Q g k i (definition j e) h = (g i _ j _ e h, tt)
content_all t P Q g k i (actual j e) h = (g i _ j _ e h, tt)

origins_all : (t : List Instance) (P : Expression → Type 0) (Q : Form → Type 0) → HoldsOfForms t P Q → (k : ℕ) (os : List Origin) → OriginsEach P os → AllByRecursion Q (body_forms t k os)
origins_all t P Q g k [] h = tt
origins_all t P Q g k (o ∷ os) h = all_append Q (content_form t k o.instance o.content) (body_forms t (k + 1) os) (content_all t P Q g k o.instance o.content h.0) (origins_all t P Q g (k + 1) os h.1)

assignments_all : (t : List Instance) (P : Expression → Type 0) (Q : Form → Type 0) → HoldsOfForms t P Q → (i : ℕ) (xs : List PlainAssignment) → AllByRecursion (λ a. P a.body) xs → AllByRecursion Q (map (assignment_form t i) xs)
assignments_all t P Q g i [] h = tt
assignments_all t P Q g i (a ∷ xs) h = (g i _ i _ a.body h.0, assignments_all t P Q g i xs h.1)

element_all : (t : List Instance) (P : Expression → Type 0) (Q : Form → Type 0) → HoldsOfForms t P Q → (i : ℕ) (e : PlainElement) → ElementEach P e → AllByRecursion Q (element_forms t i e)
element_all t P Q g i (vars kind items) h = tt
element_all t P Q g i (defines ds) h = tt
element_all t P Q g i (constants names) h = tt
element_all t P Q g i (assigns xs) h = assignments_all t P Q g i xs h
element_all t P Q g i (init e) h = (g i _ i _ e h, tt)
element_all t P Q g i (trans e) h = (g i _ i _ e h, tt)
element_all t P Q g i (invar e) h = (g i _ i _ e h, tt)
element_all t P Q g i (spec label e) h = (g i _ i _ e h, tt)

elements_all : (t : List Instance) (P : Expression → Type 0) (Q : Form → Type 0) → HoldsOfForms t P Q → (i : ℕ) (es : List PlainElement) → AllByRecursion (ElementEach P) es → AllByRecursion Q (flat_map (element_forms t i) es)
elements_all t P Q g i [] h = tt
elements_all t P Q g i (e ∷ es) h = all_append Q (element_forms t i e) (flat_map (element_forms t i) es) (element_all t P Q g i e h.0) (elements_all t P Q g i es h.1)

instances_all : (t : List Instance) (P : Expression → Type 0) (Q : Form → Type 0) → HoldsOfForms t P Q → (k i : ℕ) (rest : List Instance) → AllByRecursion (InstanceFits P) rest → AllByRecursion Q (forms_from t k i rest)
instances_all t P Q g k i [] h = tt
instances_all t P Q g k i (at ∷ rest) h =
    all_append Q (forms_here t k i at) (forms_from t (k + length (items_here i at)) (i + 1) rest)
    (all_append Q (body_forms t k (items_here i at)) (flat_map (element_forms t i) at.module.elements) (origins_all t P Q g k (items_here i at) (here_each P i at h.0)) (elements_all t P Q g i at.module.elements h.0.body))
    (instances_all t P Q g (k + length (items_here i at)) (i + 1) rest h.1)

pub forms_all : (t : List Instance) (P : Expression → Type 0) (Q : Form → Type 0) → HoldsOfForms t P Q → AllByRecursion (InstanceFits P) t → AllByRecursion Q (flat_of t).forms
forms_all t P Q g h = instances_all t P Q g 0 0 t h
