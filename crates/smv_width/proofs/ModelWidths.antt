-- The flat form of a model whose checks hold has the width that the types of the model's expressions give.
use Rattle.std.proofs.Common.{◌≡◌, ℕ, ◌+◌, ◌≤◌, max, true, false, List, [], ◌∷◌, ◌++◌, map, length, Option, Some, None, refl, sym, ap, ◌∙◌, arith}
use Rattle.std.specs.Prelude.{flat_map}
use Rattle.std.specs.List.{list_all}
use Rattle.std.proofs.lemmas.List.{map-append}
use Rattle.std.proofs.lemmas.List.Folds.{list_all-append}
use Rattle.smv_text.specs.declared.tree.VarKind.{VarKind}
use Rattle.smv_text.specs.declared.tree.Parameter.{Parameter}
use Rattle.smv_text.specs.Heights.{list_of, of_definitions, of_assignments}
use Rattle.smv_text.specs.Tree.{Tree, truth, number, literal, name, prefix, chain, choice, cases, select, call, next, set, range, Trees, no_trees, tree, PlainDomain, boolean, members, between, bits, instance, PlainItem, PlainDefinition, PlainAssignment, PlainElement, vars, defines, constants, assigns, init, trans, invar, spec}
use Rattle.smv_meaning.specs.Instances.{Instance, instances_of}
use Rattle.smv_meaning.specs.Names.{parent_of}
use Rattle.smv_meaning.specs.Types.{ExprType}
use Rattle.smv_meaning.specs.Checks.{Position, passes, typing, variable_type}
use Rattle.smv_meaning.specs.Naming.{in_body}
use Rattle.smv_meaning.specs.Phases.{in_state, in_step, in_assignment, over_instances, actual_typing, actuals_typing, formula_typing, assigned_typing, element_typing, type_checks}
use Rattle.smv_meaning.specs.Checked.{instance_all}
use Rattle.smv_meaning.specs.Parts.{expressions_in}
use Rattle.smv_meaning.specs.Settled.{types_in}
use Rattle.smv_meaning.specs.laws.Booleans.{both_true}
use Rattle.smv_laws.proofs.Typable.{split}
use Rattle.smv_laws.proofs.SafeExpressions.{accepted_is_checked_law}
use Rattle.smv_items.specs.FlatItems.{Content, variable, definition, actual, Origin, with_content, actual_content, actual_items, domain_content, variable_item, definition_item, element_items, items_here, leaf_in, content_type, type_or_truth, PlainFlatItem, flat_item_of}
use Rattle.smv_flat.specs.FlatForms.{Form, flat_in, content_form, body_forms, assignment_form, element_forms, forms_here, forms_from}
use Rattle.smv_flat.specs.FlatWidth.{integers_width, node_width, tree_width, items_width, forms_width}
use Rattle.smv_width.specs.SourceWidth.{expression_width, has_operators, greatest, element_widths, actual_width, actual_widths, instance_widths, SameModelWidth}
use Rattle.smv_width.proofs.SourceWidths.{source_node, same_width}
use Rattle.smv_width.proofs.SpelledWidths.{instances_operators}

-- ---- lists

items_append : (xs ys : List PlainFlatItem) → items_width (xs ++ ys) ≡ max (items_width xs) (items_width ys)
items_append [] ys = omega arith
items_append (x ∷ xs) ys = let i : items_width (xs ++ ys) ≡ max (items_width xs) (items_width ys) = items_append xs ys in omega (arith, i)

forms_append : (xs ys : List Form) → forms_width (xs ++ ys) ≡ max (forms_width xs) (forms_width ys)
forms_append [] ys = omega arith
forms_append (x ∷ xs) ys = let i : forms_width (xs ++ ys) ≡ max (forms_width xs) (forms_width ys) = forms_append xs ys in omega (arith, i)

greatest_append : (xs ys : List ℕ) → greatest (xs ++ ys) ≡ max (greatest xs) (greatest ys)
greatest_append [] ys = omega arith
greatest_append (x ∷ xs) ys = let i : greatest (xs ++ ys) ≡ max (greatest xs) (greatest ys) = greatest_append xs ys in omega (arith, i)

crossed : (a b c d : ℕ) → max (max a b) (max c d) ≡ max (max a c) (max b d)
crossed a b c d = omega arith

one_each : (a b : ℕ) → max 1 (max a b) ≡ max (max 1 a) (max 1 b)
one_each a b = omega arith

joined : (a b c d f x y : ℕ) → max 1 (max a c) ≡ max 1 x → max 1 (max b d) ≡ max 1 y → f ≡ max c d → max 1 (max (max a b) f) ≡ max 1 (max x y)
joined a b c d f x y p q e =
    ap (λ n. max 1 (max (max a b) n)) e ∙ ap (max 1) (crossed a b c d) ∙ one_each (max a c) (max b d)
    ∙ ap (λ n. max n (max 1 (max b d))) p ∙ ap (max (max 1 x)) q ∙ sym (one_each x y)

first_joined : (i b e o : ℕ) → max 1 (max i b) ≡ max 1 o → max 1 (max i (max b e)) ≡ max 1 (max o e)
first_joined i b e o p =
    let s : max 1 (max i (max b e)) ≡ max (max 1 (max i b)) e = omega arith in
    let r : max (max 1 o) e ≡ max 1 (max o e) = omega arith in
    s ∙ ap (λ n. max n e) p ∙ r

last_joined : (o b e g : ℕ) → max 1 (max b e) ≡ max 1 g → max 1 (max (max o b) e) ≡ max 1 (max o g)
last_joined o b e g p =
    let s : max 1 (max (max o b) e) ≡ max o (max 1 (max b e)) = omega arith in
    let r : max o (max 1 g) ≡ max 1 (max o g) = omega arith in
    s ∙ ap (max o) p ∙ r

here_joined : (items bodies forms all origins actuals elements x y : ℕ) → max 1 (max items bodies) ≡ max 1 origins → origins ≡ max actuals elements → all ≡ max bodies forms → actuals ≡ x
    → max 1 (max elements forms) ≡ max 1 y → max 1 (max items all) ≡ max 1 (max x y)
here_joined items bodies forms all origins actuals elements x y z m f e h =
    ap (λ n. max 1 (max items n)) f ∙ first_joined items bodies forms origins z ∙ ap (λ n. max 1 (max n forms)) m ∙ last_joined actuals elements forms y h ∙ ap (λ n. max 1 (max n y)) e

-- ---- items and their bodies

abbrev origin_width : List Instance → Content → ℕ
origin_width t (variable kind d) = node_width (variable_type d)
origin_width t (definition j e) = expression_width (types_in true t j) in_body e
origin_width t (actual j e) = expression_width (types_in true t j) in_body e

abbrev origins_width : List Instance → List Origin → ℕ
origins_width t [] = 0
origins_width t (m ∷ ms) = max (origin_width t m.content) (origins_width t ms)

origins_append : (t : List Instance) (xs ys : List Origin) → origins_width t (xs ++ ys) ≡ max (origins_width t xs) (origins_width t ys)
origins_append t [] ys = omega arith
origins_append t (x ∷ xs) ys = let i : origins_width t (xs ++ ys) ≡ max (origins_width t xs) (origins_width t ys) = origins_append t xs ys in omega (arith, i)

abbrev BodySame : List Instance → Content → Type 0
BodySame t (variable kind d) = Unit {0}
BodySame t (definition j e) = tree_width (flat_in t j in_body e) ≡ expression_width (types_in true t j) in_body e
BodySame t (actual j e) = tree_width (flat_in t j in_body e) ≡ expression_width (types_in true t j) in_body e

abbrev BodiesSame : List Instance → List Origin → Type 0
BodiesSame t [] = Unit {0}
BodiesSame t (m ∷ ms) = BodySame t m.content × BodiesSame t ms

bodies_append : (t : List Instance) (xs ys : List Origin) → BodiesSame t xs → BodiesSame t ys → BodiesSame t (xs ++ ys)
bodies_append t [] ys h k = k
bodies_append t (x ∷ xs) ys h k = (h.0, bodies_append t xs ys h.1 k)

type_wide : (o : Option ExprType) → integers_width (type_or_truth o) ≡ node_width o
type_wide None = refl
type_wide (Some t) = refl

content_same : (t : List Instance) (k i : ℕ) (c : Content) → BodySame t c → max 1 (max (integers_width (type_or_truth (content_type t c))) (forms_width (content_form t k i c))) ≡ max 1 (origin_width t c)
content_same t k i (variable kind d) s = let w : integers_width (type_or_truth (variable_type d)) ≡ node_width (variable_type d) = type_wide (variable_type d) in omega (arith, w)
content_same t k i (definition j e) s =
    let w : integers_width (type_or_truth (typing (types_in true t j) in_body e).type) ≡ node_width (typing (types_in true t j) in_body e).type = type_wide (typing (types_in true t j) in_body e).type in
    let o : node_width (typing (types_in true t j) in_body e).type ≤ expression_width (types_in true t j) in_body e = source_node (types_in true t j) in_body e in
    omega (arith, w, o, s)
content_same t k i (actual j e) s =
    let w : integers_width (type_or_truth (typing (types_in true t j) in_body e).type) ≡ node_width (typing (types_in true t j) in_body e).type = type_wide (typing (types_in true t j) in_body e).type in
    let o : node_width (typing (types_in true t j) in_body e).type ≤ expression_width (types_in true t j) in_body e = source_node (types_in true t j) in_body e in
    omega (arith, w, o, s)

bodies_width : (t : List Instance) (k : ℕ) (ms : List Origin) → BodiesSame t ms → max 1 (max (items_width (map (flat_item_of t) ms)) (forms_width (body_forms t k ms))) ≡ max 1 (origins_width t ms)
bodies_width t k [] s = refl
bodies_width t k (m ∷ ms) s =
    let a : max 1 (max (integers_width (type_or_truth (content_type t m.content))) (forms_width (content_form t k m.instance m.content))) ≡ max 1 (origin_width t m.content) = content_same t k m.instance m.content s.0 in
    let b : max 1 (max (items_width (map (flat_item_of t) ms)) (forms_width (body_forms t (k + 1) ms))) ≡ max 1 (origins_width t ms) = bodies_width t (k + 1) ms s.1 in
    let f : forms_width (content_form t k m.instance m.content ++ body_forms t (k + 1) ms) ≡ max (forms_width (content_form t k m.instance m.content)) (forms_width (body_forms t (k + 1) ms)) =
    forms_append (content_form t k m.instance m.content) (body_forms t (k + 1) ms) in
    joined _ _ _ _ _ _ _ a b f

-- ---- actuals

-- an expression in an instance
here_same : (t : List Instance) (i : ℕ) (at : Position) (e : Tree) → has_operators e ≡ true → passes (typing (types_in true t i) at e).checks ≡ true
    → tree_width (flat_in t i at e) ≡ expression_width (types_in true t i) at e
here_same t i at e w h = same_width (types_in true t i) (leaf_in t i) at false e w h

abbrev ActualSame : List Instance → ℕ → List ℕ → ℕ → Tree → Type 0
ActualSame t i x j e = BodiesSame t (with_content i x (actual_content j e)) × (origins_width t (with_content i x (actual_content j e)) ≡ greatest (actual_width (types_in true t j) e))

actual_same : (t : List Instance) (i : ℕ) (x : List ℕ) (j : ℕ) (e : Tree) → has_operators e ≡ true → passes (actual_typing (types_in true t j) e) ≡ true → ActualSame t i x j e
actual_same t i x j (name p y) w h = (tt, refl)
actual_same t i x j (truth p b) w h = ((here_same t j in_body (truth p b) w h, tt), refl)
actual_same t i x j (number p n) w h = ((here_same t j in_body (number p n) w h, tt), refl)
actual_same t i x j (literal p v) w h = ((here_same t j in_body (literal p v) w h, tt), refl)
actual_same t i x j (prefix p sign n e) w h = ((here_same t j in_body (prefix p sign n e) w h, tt), refl)
actual_same t i x j (chain p e ls) w h = ((here_same t j in_body (chain p e ls) w h, tt), refl)
actual_same t i x j (choice p bs e) w h = ((here_same t j in_body (choice p bs e) w h, tt), refl)
actual_same t i x j (cases p bs) w h = ((here_same t j in_body (cases p bs) w h, tt), refl)
actual_same t i x j (select p e high low) w h = ((here_same t j in_body (select p e high low) w h, tt), refl)
actual_same t i x j (call p f es) w h = ((here_same t j in_body (call p f es) w h, tt), refl)
actual_same t i x j (next p e) w h = ((here_same t j in_body (next p e) w h, tt), refl)
actual_same t i x j (set p es) w h = ((here_same t j in_body (set p es) w h, tt), refl)
actual_same t i x j (range p low high) w h = ((here_same t j in_body (range p low high) w h, tt), refl)

actuals_same : (t : List Instance) (i j : ℕ) (qs : List Parameter) (es : Trees) → list_all has_operators (list_of es) ≡ true → passes (actuals_typing (types_in true t j) es) ≡ true
    → BodiesSame t (actual_items i j qs es) × (origins_width t (actual_items i j qs es) ≡ greatest (actual_widths (types_in true t j) qs es))
actuals_same t i j [] es w h = (tt, refl)
actuals_same t i j (q ∷ qs) no_trees w h = (tt, refl)
actuals_same t i j (q ∷ qs) (tree e es) w h =
    let o = both_true (has_operators e) (list_all has_operators (list_of es)) w in
    let k = split (actual_typing (types_in true t j) e) (actuals_typing (types_in true t j) es) h in
    let a = actual_same t i q.name j e o.0 k.0 in
    let b = actuals_same t i j qs es o.1 k.1 in
    let x : origins_width t (with_content i q.name (actual_content j e)) ≡ greatest (actual_width (types_in true t j) e) = a.1 in
    let y : origins_width t (actual_items i j qs es) ≡ greatest (actual_widths (types_in true t j) qs es) = b.1 in
    let m : origins_width t (with_content i q.name (actual_content j e) ++ actual_items i j qs es) ≡ max (origins_width t (with_content i q.name (actual_content j e))) (origins_width t (actual_items i j qs es)) =
    origins_append t (with_content i q.name (actual_content j e)) (actual_items i j qs es) in
    let n : greatest (actual_width (types_in true t j) e ++ actual_widths (types_in true t j) qs es) ≡ max (greatest (actual_width (types_in true t j) e)) (greatest (actual_widths (types_in true t j) qs es)) =
    greatest_append (actual_width (types_in true t j) e) (actual_widths (types_in true t j) qs es) in
    (bodies_append t (with_content i q.name (actual_content j e)) (actual_items i j qs es) a.0 b.0, omega (arith, x, y, m, n))

-- ---- elements

variable_bodies : (t : List Instance) (i : ℕ) (kind : VarKind) (x : List ℕ) (d : PlainDomain)
    → BodiesSame t (with_content i x (domain_content kind d)) × (max 1 (origins_width t (with_content i x (domain_content kind d))) ≡ max 1 (node_width (variable_type d)))
variable_bodies t i kind x boolean = ((tt, tt), refl)
variable_bodies t i kind x (members ms) = ((tt, tt), omega arith)
variable_bodies t i kind x (between low high) = ((tt, tt), omega arith)
variable_bodies t i kind x (bits n) = ((tt, tt), omega arith)
variable_bodies t i kind x (instance m es) = (tt, refl)

variables_same : (t : List Instance) (i : ℕ) (kind : VarKind) (vs : List PlainItem)
    → BodiesSame t (flat_map (variable_item i kind) vs) × (max 1 (origins_width t (flat_map (variable_item i kind) vs)) ≡ max 1 (greatest (map (λ v. node_width (variable_type v.domain)) vs)))
variables_same t i kind [] = (tt, refl)
variables_same t i kind (v ∷ vs) =
    let a = variable_bodies t i kind v.name v.domain in
    let b = variables_same t i kind vs in
    let x : max 1 (origins_width t (variable_item i kind v)) ≡ max 1 (node_width (variable_type v.domain)) = a.1 in
    let y : max 1 (origins_width t (flat_map (variable_item i kind) vs)) ≡ max 1 (greatest (map (λ u. node_width (variable_type u.domain)) vs)) = b.1 in
    let m : origins_width t (variable_item i kind v ++ flat_map (variable_item i kind) vs) ≡ max (origins_width t (variable_item i kind v)) (origins_width t (flat_map (variable_item i kind) vs)) =
    origins_append t (variable_item i kind v) (flat_map (variable_item i kind) vs) in
    (bodies_append t (variable_item i kind v) (flat_map (variable_item i kind) vs) a.0 b.0, omega (arith, x, y, m))

definitions_same : (t : List Instance) (i : ℕ) (ds : List PlainDefinition) → list_all has_operators (of_definitions ds) ≡ true
    → passes (flat_map (λ (d : PlainDefinition). (typing (types_in true t i) in_body d.body).checks) ds) ≡ true
    → BodiesSame t (map (definition_item i) ds) × (origins_width t (map (definition_item i) ds) ≡ greatest (map (λ (d : PlainDefinition). expression_width (types_in true t i) in_body d.body) ds))
definitions_same t i [] w h = (tt, refl)
definitions_same t i (d ∷ ds) w h =
    let o = both_true (has_operators d.body) (list_all has_operators (of_definitions ds)) w in
    let k = split (typing (types_in true t i) in_body d.body).checks (flat_map (λ (x : PlainDefinition). (typing (types_in true t i) in_body x.body).checks) ds) h in
    let b = definitions_same t i ds o.1 k.1 in
    ((here_same t i in_body d.body o.0 k.0, b.0), ap (max (expression_width (types_in true t i) in_body d.body)) b.1)

assignments_same : (t : List Instance) (i : ℕ) (xs : List PlainAssignment) → list_all has_operators (of_assignments xs) ≡ true
    → passes (flat_map (assigned_typing (types_in true t i)) xs) ≡ true
    → forms_width (map (assignment_form t i) xs) ≡ greatest (map (λ (a : PlainAssignment). expression_width (types_in true t i) (in_assignment a.when) a.body) xs)
assignments_same t i [] w h = refl
assignments_same t i (a ∷ xs) w h =
    let names = types_in true t i in
    let o = both_true (has_operators a.body) (list_all has_operators (of_assignments xs)) w in
    let k = split (assigned_typing (types_in true t i) a) (flat_map (assigned_typing (types_in true t i)) xs) h in
    let own : tree_width (flat_in t i (in_assignment a.when) a.body) ≡ expression_width (types_in true t i) (in_assignment a.when) a.body =
    here_same t i (in_assignment a.when) a.body o.0 (split (typing (types_in true t i) (in_assignment a.when) a.body).checks _ k.0).0 in
    let rest : forms_width (map (assignment_form t i) xs) ≡ greatest (map (λ (b : PlainAssignment). expression_width (types_in true t i) (in_assignment b.when) b.body) xs) = assignments_same t i xs o.1 k.1 in
    omega (arith, own, rest)

formula_same : (t : List Instance) (i : ℕ) (at : Position) (e : Tree) → list_all has_operators (e ∷ []) ≡ true → passes (formula_typing (types_in true t i) at e) ≡ true
    → max (tree_width (flat_in t i at e)) 0 ≡ max (expression_width (types_in true t i) at e) 0
formula_same t i at e w h = ap (λ n. max n 0) (here_same t i at e (both_true (has_operators e) true w).0 (split (typing (types_in true t i) at e).checks _ h).0)

abbrev ElementSame : List Instance → ℕ → PlainElement → Type 0
ElementSame t i x = BodiesSame t (element_items i x)
    × (max 1 (max (origins_width t (element_items i x)) (forms_width (element_forms t i x))) ≡ max 1 (greatest (element_widths (types_in true t i) x)))

element_same : (t : List Instance) (i : ℕ) (x : PlainElement) → list_all has_operators (expressions_in x) ≡ true → passes (element_typing (types_in true t i) x) ≡ true → ElementSame t i x
element_same t i (vars kind vs) w h =
    let a = variables_same t i kind vs in
    let y : max 1 (origins_width t (flat_map (variable_item i kind) vs)) ≡ max 1 (greatest (map (λ v. node_width (variable_type v.domain)) vs)) = a.1 in
    (a.0, omega (arith, y))
element_same t i (defines ds) w h =
    let a = definitions_same t i ds w h in
    let y : origins_width t (map (definition_item i) ds) ≡ greatest (map (λ (d : PlainDefinition). expression_width (types_in true t i) in_body d.body) ds) = a.1 in
    (a.0, omega (arith, y))
element_same t i (constants cs) w h = (tt, refl)
element_same t i (assigns xs) w h =
    let y : forms_width (map (assignment_form t i) xs) ≡ greatest (map (λ (a : PlainAssignment). expression_width (types_in true t i) (in_assignment a.when) a.body) xs) = assignments_same t i xs w h in
    (tt, omega (arith, y))
element_same t i (init e) w h = let y : max (tree_width (flat_in t i in_state e)) 0 ≡ max (expression_width (types_in true t i) in_state e) 0 = formula_same t i in_state e w h in (tt, omega (arith, y))
element_same t i (trans e) w h = let y : max (tree_width (flat_in t i in_step e)) 0 ≡ max (expression_width (types_in true t i) in_step e) 0 = formula_same t i in_step e w h in (tt, omega (arith, y))
element_same t i (invar e) w h = let y : max (tree_width (flat_in t i in_state e)) 0 ≡ max (expression_width (types_in true t i) in_state e) 0 = formula_same t i in_state e w h in (tt, omega (arith, y))
element_same t i (spec label e) w h = let y : max (tree_width (flat_in t i in_state e)) 0 ≡ max (expression_width (types_in true t i) in_state e) 0 = formula_same t i in_state e w h in (tt, omega (arith, y))

all_both : (xs ys : List Tree) → list_all has_operators (xs ++ ys) ≡ true → (list_all has_operators xs ≡ true) × (list_all has_operators ys ≡ true)
all_both xs ys h = both_true (list_all has_operators xs) (list_all has_operators ys) (sym (list_all-append has_operators xs ys) ∙ h)

elements_same : (t : List Instance) (i : ℕ) (xs : List PlainElement) → list_all has_operators (flat_map expressions_in xs) ≡ true → passes (flat_map (element_typing (types_in true t i)) xs) ≡ true
    → BodiesSame t (flat_map (element_items i) xs)
    × (max 1 (max (origins_width t (flat_map (element_items i) xs)) (forms_width (flat_map (element_forms t i) xs))) ≡ max 1 (greatest (flat_map (element_widths (types_in true t i)) xs)))
elements_same t i [] w h = (tt, refl)
elements_same t i (x ∷ xs) w h =
    let o = all_both (expressions_in x) (flat_map expressions_in xs) w in
    let k = split (element_typing (types_in true t i) x) (flat_map (element_typing (types_in true t i)) xs) h in
    let a = element_same t i x o.0 k.0 in
    let b = elements_same t i xs o.1 k.1 in
    let p : max 1 (max (origins_width t (element_items i x)) (forms_width (element_forms t i x))) ≡ max 1 (greatest (element_widths (types_in true t i) x)) = a.1 in
    let q : max 1 (max (origins_width t (flat_map (element_items i) xs)) (forms_width (flat_map (element_forms t i) xs))) ≡ max 1 (greatest (flat_map (element_widths (types_in true t i)) xs)) = b.1 in
    let m : origins_width t (element_items i x ++ flat_map (element_items i) xs) ≡ max (origins_width t (element_items i x)) (origins_width t (flat_map (element_items i) xs)) =
    origins_append t (element_items i x) (flat_map (element_items i) xs) in
    let f : forms_width (element_forms t i x ++ flat_map (element_forms t i) xs) ≡ max (forms_width (element_forms t i x)) (forms_width (flat_map (element_forms t i) xs)) =
    forms_append (element_forms t i x) (flat_map (element_forms t i) xs) in
    let g : greatest (element_widths (types_in true t i) x ++ flat_map (element_widths (types_in true t i)) xs) ≡ max (greatest (element_widths (types_in true t i) x)) (greatest (flat_map (element_widths (types_in true t i)) xs)) =
    greatest_append (element_widths (types_in true t i) x) (flat_map (element_widths (types_in true t i)) xs) in (
      bodies_append t (element_items i x) (flat_map (element_items i) xs) a.0 b.0,
      ap (λ n. max 1 (max n (forms_width (element_forms t i x ++ flat_map (element_forms t i) xs)))) m ∙ joined _ _ _ _ _ _ _ p q f ∙ ap (max 1) (sym g),
    )

-- ---- instances

instance_same : (t : List Instance) (k i : ℕ) (at : Instance) → instance_all has_operators at ≡ true → passes (type_checks (types_in true t) i at) ≡ true
    → max 1 (max (items_width (map (flat_item_of t) (items_here i at))) (forms_width (forms_here t k i at))) ≡ max 1 (greatest (instance_widths t i at))
instance_same t k i at w h =
    let o = both_true (list_all has_operators (list_of at.actuals)) (list_all has_operators (flat_map expressions_in at.module.elements)) w in
    let c = split (actuals_typing (types_in true t (parent_of at)) at.actuals) (flat_map (element_typing (types_in true t i)) at.module.elements) h in
    let xs = actual_items i (parent_of at) at.module.parameters at.actuals in
    let a = actuals_same t i (parent_of at) at.module.parameters at.actuals o.0 c.0 in
    let b = elements_same t i at.module.elements o.1 c.1 in
    let x : origins_width t (actual_items i (parent_of at) at.module.parameters at.actuals) ≡ greatest (actual_widths (types_in true t (parent_of at)) at.module.parameters at.actuals) = a.1 in
    let y : max 1 (max (origins_width t (flat_map (element_items i) at.module.elements)) (forms_width (flat_map (element_forms t i) at.module.elements))) ≡ max 1 (greatest (flat_map (element_widths (types_in true t i)) at.module.elements)) = b.1 in
    let s = bodies_append t (actual_items i (parent_of at) at.module.parameters at.actuals) (flat_map (element_items i) at.module.elements) a.0 b.0 in
    let z : max 1 (max (items_width (map (flat_item_of t) (items_here i at))) (forms_width (body_forms t k (items_here i at)))) ≡ max 1 (origins_width t (items_here i at)) = bodies_width t k (items_here i at) s in
    let m : origins_width t (items_here i at) ≡ max (origins_width t (actual_items i (parent_of at) at.module.parameters at.actuals)) (origins_width t (flat_map (element_items i) at.module.elements)) =
    origins_append t (actual_items i (parent_of at) at.module.parameters at.actuals) (flat_map (element_items i) at.module.elements) in
    let f : forms_width (forms_here t k i at) ≡ max (forms_width (body_forms t k (items_here i at))) (forms_width (flat_map (element_forms t i) at.module.elements)) =
    forms_append (body_forms t k (items_here i at)) (flat_map (element_forms t i) at.module.elements) in
    let g : greatest (instance_widths t i at) ≡ max (greatest (actual_widths (types_in true t (parent_of at)) at.module.parameters at.actuals)) (greatest (flat_map (element_widths (types_in true t i)) at.module.elements)) =
    greatest_append (actual_widths (types_in true t (parent_of at)) at.module.parameters at.actuals) (flat_map (element_widths (types_in true t i)) at.module.elements) in
    here_joined _ _ _ _ _ _ _ _ _ z m f x y ∙ ap (max 1) (sym g)

instances_same : (t : List Instance) (k i : ℕ) (rest : List Instance) → list_all (instance_all has_operators) rest ≡ true → passes (over_instances (type_checks (types_in true t)) i rest) ≡ true
    → max 1 (max (items_width (map (flat_item_of t) (over_instances items_here i rest))) (forms_width (forms_from t k i rest))) ≡ max 1 (greatest (over_instances (instance_widths t) i rest))
instances_same t k i [] w h = refl
instances_same t k i (at ∷ rest) w h =
    let o = both_true (instance_all has_operators at) (list_all (instance_all has_operators) rest) w in
    let c = split (type_checks (types_in true t) i at) (over_instances (type_checks (types_in true t)) (i + 1) rest) h in
    let a : max 1 (max (items_width (map (flat_item_of t) (items_here i at))) (forms_width (forms_here t k i at))) ≡ max 1 (greatest (instance_widths t i at)) = instance_same t k i at o.0 c.0 in
    let b : max 1 (max (items_width (map (flat_item_of t) (over_instances items_here (i + 1) rest))) (forms_width (forms_from t (k + length (items_here i at)) (i + 1) rest))) ≡ max 1 (greatest (over_instances (instance_widths t) (i + 1) rest)) =
    instances_same t (k + length (items_here i at)) (i + 1) rest o.1 c.1 in
    let m : items_width (map (flat_item_of t) (items_here i at ++ over_instances items_here (i + 1) rest)) ≡ max (items_width (map (flat_item_of t) (items_here i at))) (items_width (map (flat_item_of t) (over_instances items_here (i + 1) rest))) =
    ap items_width (map-append (flat_item_of t) (items_here i at) (over_instances items_here (i + 1) rest)) ∙ items_append (map (flat_item_of t) (items_here i at)) (map (flat_item_of t) (over_instances items_here (i + 1) rest)) in
    let f : forms_width (forms_here t k i at ++ forms_from t (k + length (items_here i at)) (i + 1) rest) ≡ max (forms_width (forms_here t k i at)) (forms_width (forms_from t (k + length (items_here i at)) (i + 1) rest)) =
    forms_append (forms_here t k i at) (forms_from t (k + length (items_here i at)) (i + 1) rest) in
    let g : greatest (instance_widths t i at ++ over_instances (instance_widths t) (i + 1) rest) ≡ max (greatest (instance_widths t i at)) (greatest (over_instances (instance_widths t) (i + 1) rest)) =
    greatest_append (instance_widths t i at) (over_instances (instance_widths t) (i + 1) rest) in
    ap (λ n. max 1 (max n (forms_width (forms_here t k i at ++ forms_from t (k + length (items_here i at)) (i + 1) rest)))) m ∙ joined _ _ _ _ _ _ _ a b f ∙ ap (max 1) (sym g)

pub same_model_width : SameModelWidth
same_model_width source end xs spelled needed accepted =
    let checked = accepted_is_checked_law source needed accepted in
    instances_same (instances_of source) 0 0 (instances_of source) (instances_operators source xs spelled.0) checked.types
