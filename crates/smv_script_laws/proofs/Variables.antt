-- In the states and labels of a model whose checks hold, each variable has a value of its type.
use Rattle.std.proofs.Common.{◌≡◌, ℕ, zero, ◌+◌, Bool, true, false, not, if◌then◌else◌, List, [], ◌∷◌, map, flat_map, Option, Some, None, refl, sym, ap, subst, arith}
use Rattle.std.specs.Prelude.{slice_get}
use Rattle.std.specs.List.{AllByRecursion, list_all}
use Rattle.text_core.specs.declared.place.Place.{Place}
use Rattle.smv_text.specs.declared.tree.Parameter.{Parameter}
use Rattle.smv_text.specs.declared.tree.VarKind.{VarKind}
use Rattle.smv_text.specs.declared.tree.VarKind.TheVariants as OfVarKind
use Rattle.smv_text.specs.Tree.{Tree, truth, number, literal, name, prefix, chain, choice, cases, select, call, next, set, range, Trees, no_trees, tree, PlainDomain, boolean, members, between, bits, instance, PlainItem, PlainDefinition, PlainElement, vars, defines, constants, assigns, init, trans, invar, spec}
use Rattle.smv_meaning.specs.Values.{Valuation, is_of_type}
use Rattle.smv_meaning.specs.Instances.{Instance, dotted}
use Rattle.smv_meaning.specs.Names.{parent_of, dotted_at}
use Rattle.smv_meaning.specs.Meaning.{is_input}
use Rattle.smv_meaning.specs.Types.{ExprType, is_unmixed, has_width, has_order, domain_type, in_limit}
use Rattle.smv_meaning.specs.Checks.{passes, on_type, domain_checks, variable_type}
use Rattle.smv_meaning.specs.Phases.{over_instances, actuals_typing, element_typing, type_checks}
use Rattle.smv_meaning.specs.Runs.{domain_fits, is_fit, element_fits, state_fits, label_fits}
use Rattle.smv_meaning.specs.Owed.{HasType}
use Rattle.smv_meaning.specs.Settled.{types_in}
use Rattle.smv_meaning.specs.laws.Booleans.{both_true, absurd_bool}
use Rattle.smv_laws.proofs.Typable.{split}
use Rattle.smv_items.specs.FlatItems.{Content, variable, definition, actual, Origin, with_content, actual_content, actual_items, domain_content, variable_item, definition_item, element_items, items_here, origins_of, path_of}
use Rattle.smv_script_laws.proofs.Lists.{all_at}
use Rattle.smv_laws.proofs.CheckedLaws.{four}
use Rattle.smv_script_laws.proofs.Bodies.{all_joined}
use Rattle.smv_flat_laws.proofs.FlatStays.{rest_path}
use Rattle.smv_laws.proofs.Rests.{IsRest, rest_more}

-- a variable's value, in the state, or as an input in the label
abbrev pub value_at : Valuation → Valuation → VarKind → Valuation
value_at state label kind x = if is_input kind then label x else state x

abbrev pub Fits : Valuation → Valuation → List ℕ → Content → Type 0
Fits state label x (variable kind d) = (is_of_type d (value_at state label kind x) ≡ true) × HasType (variable_type d)
Fits state label x (definition j e) = Unit {0}
Fits state label x (actual j e) = Unit {0}

abbrev pub OriginFits : List Instance → Valuation → Valuation → Origin → Type 0
OriginFits t state label m = Fits state label (path_of t m) m.content

abbrev AllFit : List Instance → Valuation → Valuation → List Origin → Type 0
AllFit t state label ms = AllByRecursion (OriginFits t state label) ms

-- ---- a declared type

if_type : (b : Bool) (o : Option ExprType) → b ≡ true → HasType o → HasType (if b then o else None)
if_type true o b h = h
if_type false o b h = absurd_bool b

type_there : (p : Place) (d : PlainDomain) → passes (domain_checks p d) ≡ true → HasType (domain_type d) → HasType (variable_type d)
type_there p d h k = if_type _ (domain_type d) (four (is_unmixed d) (on_type (domain_type d) in_limit) (has_width d) (has_order d) h) k

variable_fits : (t : List Instance) (state label : Valuation) (i : ℕ) (kind : VarKind) (p : Place) (path x : List ℕ) (d : PlainDomain) → dotted_at t i x ≡ dotted path x
    → domain_fits d (value_at state label kind (dotted path x)) ≡ true → passes (domain_checks p d) ≡ true → AllFit t state label (with_content i x (domain_content kind d))
variable_fits t state label i kind p path x boolean e f c =
    ((subst (λ y. is_of_type boolean (value_at state label kind y) ≡ true) (sym e) f, type_there p boolean c refl), tt)
variable_fits t state label i kind p path x (members ms) e f c =
    ((subst (λ y. is_of_type (members ms) (value_at state label kind y) ≡ true) (sym e) f, type_there p (members ms) c refl), tt)
variable_fits t state label i kind p path x (between low high) e f c =
    ((subst (λ y. is_of_type (between low high) (value_at state label kind y) ≡ true) (sym e) f, type_there p (between low high) c refl), tt)
variable_fits t state label i kind p path x (bits n) e f c =
    ((subst (λ y. is_of_type (bits n) (value_at state label kind y) ≡ true) (sym e) f, type_there p (bits n) c refl), tt)
variable_fits t state label i kind p path x (instance m es) e f c = tt

-- ---- the items of an instance

variables_fit : (t : List Instance) (state label : Valuation) (i : ℕ) (kind : VarKind) (path : List ℕ) (vs : List PlainItem) → ((x : List ℕ) → dotted_at t i x ≡ dotted path x)
    → list_all (is_fit path (value_at state label kind)) vs ≡ true → passes (flat_map (λ v. domain_checks v.domain_place v.domain) vs) ≡ true → AllFit t state label (flat_map (variable_item i kind) vs)
variables_fit t state label i kind path [] e f c = tt
variables_fit t state label i kind path (v ∷ vs) e f c =
    let s = both_true (is_fit path (value_at state label kind) v) (list_all (is_fit path (value_at state label kind)) vs) f in
    let k = split (domain_checks v.domain_place v.domain) (flat_map (λ (u : PlainItem). domain_checks u.domain_place u.domain) vs) c in
    all_joined (OriginFits t state label) (variable_item i kind v) (flat_map (variable_item i kind) vs)
    (variable_fits t state label i kind v.domain_place path v.name v.domain (e v.name) s.0 k.0) (variables_fit t state label i kind path vs e s.1 k.1)

definitions_fit : (t : List Instance) (state label : Valuation) (i : ℕ) (ds : List PlainDefinition) → AllFit t state label (map (definition_item i) ds)
definitions_fit t state label i [] = tt
definitions_fit t state label i (d ∷ ds) = (tt, definitions_fit t state label i ds)

actual_fits : (t : List Instance) (state label : Valuation) (i j : ℕ) (x : List ℕ) (e : Tree) → AllFit t state label (with_content i x (actual_content j e))
actual_fits t state label i j x (name p q) = tt
actual_fits t state label i j x (truth p c) = (tt, tt)
actual_fits t state label i j x (number p n) = (tt, tt)
actual_fits t state label i j x (literal p w) = (tt, tt)
actual_fits t state label i j x (prefix p sign n c) = (tt, tt)
actual_fits t state label i j x (chain p c ls) = (tt, tt)
actual_fits t state label i j x (choice p bs c) = (tt, tt)
actual_fits t state label i j x (cases p bs) = (tt, tt)
actual_fits t state label i j x (select p c high low) = (tt, tt)
actual_fits t state label i j x (call p f cs) = (tt, tt)
actual_fits t state label i j x (next p c) = (tt, tt)
actual_fits t state label i j x (set p cs) = (tt, tt)
actual_fits t state label i j x (range p low high) = (tt, tt)

actuals_fit : (t : List Instance) (state label : Valuation) (i j : ℕ) (qs : List Parameter) (es : Trees) → AllFit t state label (actual_items i j qs es)
actuals_fit t state label i j [] es = tt
actuals_fit t state label i j (q ∷ qs) no_trees = tt
actuals_fit t state label i j (q ∷ qs) (tree e es) =
    all_joined (OriginFits t state label) (with_content i q.name (actual_content j e)) (actual_items i j qs es) (actual_fits t state label i j q.name e) (actuals_fit t state label i j qs es)

abbrev is_kept : VarKind → Bool
is_kept k = not (is_input k)

element_fit : (t : List Instance) (state label : Valuation) (i : ℕ) (path : List ℕ) (el : PlainElement) → ((x : List ℕ) → dotted_at t i x ≡ dotted path x)
    → element_fits is_kept path state el ≡ true → element_fits is_input path label el ≡ true → passes (element_typing (types_in true t i) el) ≡ true → AllFit t state label (element_items i el)
element_fit t state label i path (vars OfVarKind.State items) e f g c = variables_fit t state label i OfVarKind.State path items e f c
element_fit t state label i path (vars OfVarKind.Frozen items) e f g c = variables_fit t state label i OfVarKind.Frozen path items e f c
element_fit t state label i path (vars OfVarKind.Input items) e f g c = variables_fit t state label i OfVarKind.Input path items e g c
element_fit t state label i path (defines ds) e f g c = definitions_fit t state label i ds
element_fit t state label i path (constants cs) e f g c = tt
element_fit t state label i path (assigns xs) e f g c = tt
element_fit t state label i path (init x) e f g c = tt
element_fit t state label i path (trans x) e f g c = tt
element_fit t state label i path (invar x) e f g c = tt
element_fit t state label i path (spec l x) e f g c = tt

elements_fit : (t : List Instance) (state label : Valuation) (i : ℕ) (path : List ℕ) (es : List PlainElement) → ((x : List ℕ) → dotted_at t i x ≡ dotted path x)
    → list_all (element_fits is_kept path state) es ≡ true → list_all (element_fits is_input path label) es ≡ true → passes (flat_map (element_typing (types_in true t i)) es) ≡ true
    → AllFit t state label (flat_map (element_items i) es)
elements_fit t state label i path [] e f g c = tt
elements_fit t state label i path (el ∷ es) e f g c =
    let x = both_true (element_fits is_kept path state el) (list_all (element_fits is_kept path state) es) f in
    let y = both_true (element_fits is_input path label el) (list_all (element_fits is_input path label) es) g in
    let k = split (element_typing (types_in true t i) el) (flat_map (element_typing (types_in true t i)) es) c in
    all_joined (OriginFits t state label) (element_items i el) (flat_map (element_items i) es)
    (element_fit t state label i path el e x.0 y.0 k.0) (elements_fit t state label i path es e x.1 y.1 k.1)

-- ---- all instances

instances_fit : (t : List Instance) (state label : Valuation) (i : ℕ) (rest : List Instance) → IsRest t i rest → state_fits rest state ≡ true → label_fits rest label ≡ true
    → passes (over_instances (type_checks (types_in true t)) i rest) ≡ true → AllFit t state label (over_instances items_here i rest)
instances_fit t state label i [] r f g c = tt
instances_fit t state label i (at ∷ rest) r f g c =
    let x = both_true (list_all (element_fits is_kept at.path state) at.module.elements) (state_fits rest state) f in
    let y = both_true (list_all (element_fits is_input at.path label) at.module.elements) (label_fits rest label) g in
    let k = split (type_checks (types_in true t) i at) (over_instances (type_checks (types_in true t)) (i + 1) rest) c in
    let n = split (actuals_typing (types_in true t (parent_of at)) at.actuals) (flat_map (element_typing (types_in true t i)) at.module.elements) k.0 in
    all_joined (OriginFits t state label) (items_here i at) (over_instances items_here (i + 1) rest)
    (all_joined (OriginFits t state label) (actual_items i (parent_of at) at.module.parameters at.actuals) (flat_map (element_items i) at.module.elements)
    (actuals_fit t state label i (parent_of at) at.module.parameters at.actuals)
    (elements_fit t state label i at.path at.module.elements (rest_path t i at rest r) x.0 y.0 n.1))
    (instances_fit t state label (i + 1) rest (rest_more t i at rest r) x.1 y.1 k.1)

pub origins_fit : (t : List Instance) (state label : Valuation) → state_fits t state ≡ true → label_fits t label ≡ true → passes (over_instances (type_checks (types_in true t)) 0 t) ≡ true
    → (k : ℕ) (m : Origin) → slice_get (origins_of t) k ≡ Some m → OriginFits t state label m
origins_fit t state label f g c k m h =
    all_at (OriginFits t state label) (origins_of t) k m (instances_fit t state label 0 t (λ n. let s : zero + n ≡ n = omega arith in ap (slice_get t) s) f g c) h
