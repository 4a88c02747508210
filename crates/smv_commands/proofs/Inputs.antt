-- Whether a model has inputs is exposed by what its instances declare.
use Rattle.std.proofs.Common.{◌≡◌, ◌∷◌, [], ◌+◌, ◌||◌, ℕ, Bool, false, List, map, flat_map, refl, ap, ◌∙◌}
use Rattle.std.specs.List.{list_any}
use Rattle.std.proofs.lemmas.List.Folds.{list_any-append}
use Rattle.smv_text.specs.declared.tree.Parameter.{Parameter}
use Rattle.smv_text.specs.declared.tree.VarKind.TheVariants as OfVarKind
use Rattle.smv_text.specs.Tree.{Tree, name, Trees, no_trees, tree, PlainDomain, boolean, members, between, bits, instance, PlainItem, PlainDefinition, PlainElement, vars, defines, constants, assigns, init, trans, invar, spec, PlainSource}
use Rattle.smv_meaning.specs.Instances.{Instance, instances_of}
use Rattle.smv_meaning.specs.Names.{parent_of}
use Rattle.smv_meaning.specs.Phases.{over_instances}
use Rattle.smv_items.specs.FlatItems.{Origin, actual_content, actual_items, definition_item, domain_content, element_items, flat_item_of, items_here, kind_of, origins_of, variable_item, with_content}
use Rattle.smv_trace_text.specs.Texts.{has_inputs, is_input}
use Rattle.smv_commands.specs.SmvLift.{declares_inputs, is_variable, model_has_inputs}

abbrev is_input_origin : Origin → Bool
is_input_origin m = is_input (kind_of m.content)

any_map : (t : List Instance) (xs : List Origin) → has_inputs (map (flat_item_of t) xs) ≡ list_any is_input_origin xs
any_map t [] = refl
any_map t (x ∷ xs) = ap (λ (b : Bool). is_input_origin x || b) (any_map t xs)

-- a parameter is no input
no_actual : (i j : ℕ) (q : Parameter) (e : Tree) → list_any is_input_origin (with_content i q.name (actual_content j e)) ≡ false
no_actual i j q (name p x) = refl
no_actual i j q e = refl

no_actuals : (i j : ℕ) (qs : List Parameter) (es : Trees) → list_any is_input_origin (actual_items i j qs es) ≡ false
no_actuals i j [] es = refl
no_actuals i j (q ∷ qs) no_trees = refl
no_actuals i j (q ∷ qs) (tree e es) =
    list_any-append is_input_origin (with_content i q.name (actual_content j e)) (actual_items i j qs es)
    ∙ ap (λ (b : Bool). b || list_any is_input_origin (actual_items i j qs es)) (no_actual i j q e)
    ∙ no_actuals i j qs es

or_same : {a b c d : Bool} → a ≡ b → c ≡ d → (a || c) ≡ (b || d)
or_same {a} {b} {c} {d} h k = ap (λ (x : Bool). x || c) h ∙ ap (λ (x : Bool). b || x) k

-- a variable of main or of an instance is an input by its kind

input_domain : (i : ℕ) (x : List ℕ) (d : PlainDomain) → list_any is_input_origin (with_content i x (domain_content OfVarKind.Input d)) ≡ is_variable d
input_domain i x boolean = refl
input_domain i x (members ms) = refl
input_domain i x (between low high) = refl
input_domain i x (bits n) = refl
input_domain i x (instance m es) = refl

state_domain : (i : ℕ) (x : List ℕ) (d : PlainDomain) → list_any is_input_origin (with_content i x (domain_content OfVarKind.State d)) ≡ false
state_domain i x boolean = refl
state_domain i x (members ms) = refl
state_domain i x (between low high) = refl
state_domain i x (bits n) = refl
state_domain i x (instance m es) = refl

frozen_domain : (i : ℕ) (x : List ℕ) (d : PlainDomain) → list_any is_input_origin (with_content i x (domain_content OfVarKind.Frozen d)) ≡ false
frozen_domain i x boolean = refl
frozen_domain i x (members ms) = refl
frozen_domain i x (between low high) = refl
frozen_domain i x (bits n) = refl
frozen_domain i x (instance m es) = refl

input_variables : (i : ℕ) (vs : List PlainItem) → list_any is_input_origin (flat_map (variable_item i OfVarKind.Input) vs) ≡ list_any (λ v. is_variable v.domain) vs
input_variables i [] = refl
input_variables i (v ∷ vs) = list_any-append is_input_origin (variable_item i OfVarKind.Input v) (flat_map (variable_item i OfVarKind.Input) vs) ∙ or_same (input_domain i v.name v.domain) (input_variables i vs)

state_variables : (i : ℕ) (vs : List PlainItem) → list_any is_input_origin (flat_map (variable_item i OfVarKind.State) vs) ≡ false
state_variables i [] = refl
state_variables i (v ∷ vs) = list_any-append is_input_origin (variable_item i OfVarKind.State v) (flat_map (variable_item i OfVarKind.State) vs) ∙ or_same (state_domain i v.name v.domain) (state_variables i vs)

frozen_variables : (i : ℕ) (vs : List PlainItem) → list_any is_input_origin (flat_map (variable_item i OfVarKind.Frozen) vs) ≡ false
frozen_variables i [] = refl
frozen_variables i (v ∷ vs) = list_any-append is_input_origin (variable_item i OfVarKind.Frozen v) (flat_map (variable_item i OfVarKind.Frozen) vs) ∙ or_same (frozen_domain i v.name v.domain) (frozen_variables i vs)

definitions_none : (i : ℕ) (ds : List PlainDefinition) → list_any is_input_origin (map (definition_item i) ds) ≡ false
definitions_none i [] = refl
definitions_none i (d ∷ ds) = definitions_none i ds

-- what the elements of a module declare

element_inputs : (i : ℕ) (e : PlainElement) → list_any is_input_origin (element_items i e) ≡ declares_inputs e
element_inputs i (vars OfVarKind.Input vs) = input_variables i vs
element_inputs i (vars OfVarKind.State vs) = state_variables i vs
element_inputs i (vars OfVarKind.Frozen vs) = frozen_variables i vs
element_inputs i (defines ds) = definitions_none i ds
element_inputs i (constants xs) = refl
element_inputs i (assigns xs) = refl
element_inputs i (init e) = refl
element_inputs i (trans e) = refl
element_inputs i (invar e) = refl
element_inputs i (spec label e) = refl

elements_inputs : (i : ℕ) (es : List PlainElement) → list_any is_input_origin (flat_map (element_items i) es) ≡ list_any declares_inputs es
elements_inputs i [] = refl
elements_inputs i (e ∷ es) = list_any-append is_input_origin (element_items i e) (flat_map (element_items i) es) ∙ or_same (element_inputs i e) (elements_inputs i es)

here_inputs : (i : ℕ) (at : Instance) → list_any is_input_origin (items_here i at) ≡ list_any declares_inputs at.module.elements
here_inputs i at =
    list_any-append is_input_origin (actual_items i (parent_of at) at.module.parameters at.actuals) (flat_map (element_items i) at.module.elements)
    ∙ or_same (no_actuals i (parent_of at) at.module.parameters at.actuals) (elements_inputs i at.module.elements)

all_inputs : (i : ℕ) (t : List Instance) → list_any is_input_origin (over_instances items_here i t) ≡ list_any (λ (at : Instance). list_any declares_inputs at.module.elements) t
all_inputs i [] = refl
all_inputs i (at ∷ t) = list_any-append is_input_origin (items_here i at) (over_instances items_here (i + 1) t) ∙ or_same (here_inputs i at) (all_inputs (i + 1) t)

-- the items of a model have inputs where one of its instances declares one
pub items_have_inputs : (source : PlainSource) → has_inputs (map (flat_item_of (instances_of source)) (origins_of (instances_of source))) ≡ model_has_inputs source
items_have_inputs source = any_map (instances_of source) (origins_of (instances_of source)) ∙ all_inputs 0 (instances_of source)
