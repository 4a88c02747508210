-- Each variable of a spelled model whose checks hold has a type, and no enumeration is without members.
use Rattle.std.proofs.Common.{◌≡◌, ℕ, ◌+◌, Bool, true, false, ◌&&◌, List, [], ◌∷◌, ◌++◌, map, flat_map, refl}
use Rattle.std.specs.List.{list_all, AllByRecursion}
use Rattle.text_core.specs.declared.place.Place.{Place}
use Rattle.smv_text.specs.declared.token.Token.{Token}
use Rattle.smv_text.specs.declared.tree.Path.{Path}
use Rattle.smv_text.specs.declared.tree.Parameter.{Parameter}
use Rattle.smv_text.specs.declared.tree.VarKind.{VarKind}
use Rattle.smv_text.specs.Tree.{Tree, truth, number, literal, name, prefix, chain, choice, cases, select, call, next, set, range, Trees, no_trees, tree, PlainDomain, boolean, members, between, bits, instance, PlainItem, PlainDefinition, PlainElement, vars, defines, constants, assigns, init, trans, invar, spec, PlainModule, PlainSource}
use Rattle.smv_text.specs.Sources.{SpellsType, booleans, enumerations, intervals, words, SpellsDomain, types, instances, SpellsItems, no_items, item_then, SpellsElement, variables, definitions, symbol_names, assignments, inits, transitions, invariants, specifications, SpellsElements, no_elements, element_then, SpellsModules, no_modules, module_then, SpellsSource}
use Rattle.smv_meaning.specs.Instances.{Instance, module_named, main_name, instances_of}
use Rattle.smv_meaning.specs.Names.{parent_of}
use Rattle.smv_meaning.specs.Types.{is_unmixed, in_limit, has_width, has_order, domain_type}
use Rattle.smv_meaning.specs.Checks.{Named, on_type, passes, domain_checks, variable_type}
use Rattle.smv_meaning.specs.Phases.{over_instances, actuals_typing, element_typing, type_checks}
use Rattle.smv_meaning.specs.Owed.{HasType}
use Rattle.smv_meaning.specs.laws.Booleans.{both_true, two_true}
use Rattle.smv_laws.proofs.Typable.{split}
use Rattle.smv_items.specs.FlatItems.{Content, variable, definition, actual, Origin, with_content, actual_content, actual_items, domain_content, variable_item, definition_item, element_items, items_here, origins_of}
use Rattle.smv_flat_laws.proofs.FlatSections.{AllModules, named_good}
use Rattle.smv_laws.proofs.CheckedLaws.{four}
use Rattle.smv_laws.proofs.TypeLaws.{if_type}

abbrev pub is_stated : PlainDomain → Bool
is_stated (members []) = false
is_stated d = true

abbrev pub items_stated : PlainElement → Bool
items_stated (vars kind items) = list_all (λ v. is_stated v.domain) items
items_stated e = true

abbrev pub module_stated : PlainModule → Bool
module_stated m = list_all items_stated m.elements

-- ---- spelled

type_stated : {d : PlainDomain} {xs : List Token} → SpellsType d xs → is_stated d ≡ true
type_stated (booleans x a) = refl
type_stated (enumerations opening a b c closing d) = refl
type_stated (intervals a dots b c) = refl
type_stated (words a x opening width closing b c d e) = refl

domain_stated : {k : VarKind} {d : PlainDomain} {xs : List Token} → SpellsDomain k d xs → is_stated d ≡ true
domain_stated (types s) = type_stated s
domain_stated (instances x a b) = refl

all_stated : {k : VarKind} {items : List PlainItem} {xs : List Token} → SpellsItems k items xs → list_all (λ v. is_stated v.domain) items ≡ true
all_stated no_items = refl
all_stated (item_then x colon a b s semicolon c rest) = two_true _ _ (domain_stated s) (all_stated rest)

element_stated : {e : PlainElement} {xs : List Token} → SpellsElement e xs → items_stated e ≡ true
element_stated (variables x a s) = all_stated s
element_stated (definitions x a s) = refl
element_stated (symbol_names x first a b s semicolon c) = refl
element_stated (assignments x a s) = refl
element_stated (inits x a s o) = refl
element_stated (transitions x a s o) = refl
element_stated (invariants x a s o) = refl
element_stated (specifications x a l s o) = refl

elements_stated : {es : List PlainElement} {xs : List Token} → SpellsElements es xs → list_all items_stated es ≡ true
elements_stated no_elements = refl
elements_stated (element_then s rest) = two_true _ _ (element_stated s) (elements_stated rest)

modules_stated : {ms : List PlainModule} {xs : List Token} → SpellsModules ms xs → list_all module_stated ms ≡ true
modules_stated no_modules = refl
modules_stated (module_then x identifier a b f es rest) = two_true _ _ (elements_stated es) (modules_stated rest)

instances_stated : (source : PlainSource) (end : Place) (xs : List Token) → SpellsSource source end xs → AllModules module_stated (instances_of source)
instances_stated source end xs spelled = named_good module_stated source.modules main_name (modules_stated spelled.0) (module_named source.modules main_name) refl

-- ---- what is declared

abbrev pub IsDeclared : Content → Type 0
IsDeclared (variable kind d) = (is_stated d ≡ true) × HasType (variable_type d)
IsDeclared (definition j e) = Unit {0}
IsDeclared (actual j e) = Unit {0}

abbrev pub OriginDeclared : Origin → Type 0
OriginDeclared m = IsDeclared m.content

abbrev pub AllDeclared : List Origin → Type 0
AllDeclared ms = AllByRecursion OriginDeclared ms

declared_on : (ms ns : List Origin) → AllDeclared ms → AllDeclared ns → AllDeclared (ms ++ ns)
declared_on [] ns a b = b
declared_on (m ∷ ms) ns a b = (a.0, declared_on ms ns a.1 b)

variable_declared : (i : ℕ) (kind : VarKind) (x : List ℕ) (d : PlainDomain) → is_stated d ≡ true → ((((is_unmixed d && on_type (domain_type d) in_limit) && has_width d) && has_order d) ≡ true)
    → AllDeclared (with_content i x (domain_content kind d))
variable_declared i kind x boolean s h = ((s, if_type _ boolean h refl), tt)
variable_declared i kind x (members ms) s h = ((s, if_type _ (members ms) h refl), tt)
variable_declared i kind x (between low high) s h = ((s, if_type _ (between low high) h refl), tt)
variable_declared i kind x (bits n) s h = ((s, if_type _ (bits n) h refl), tt)
variable_declared i kind x (instance m es) s h = tt

variables_declared : (i : ℕ) (kind : VarKind) (vs : List PlainItem) → list_all (λ v. is_stated v.domain) vs ≡ true → passes (flat_map (λ v. domain_checks v.domain_place v.domain) vs) ≡ true
    → AllDeclared (flat_map (variable_item i kind) vs)
variables_declared i kind [] s h = tt
variables_declared i kind (v ∷ vs) s h =
    let b = split (domain_checks v.domain_place v.domain) (flat_map (λ (m : PlainItem). domain_checks m.domain_place m.domain) vs) h in
    let c = both_true (is_stated v.domain) (list_all (λ (m : PlainItem). is_stated m.domain) vs) s in
    declared_on (variable_item i kind v) (flat_map (variable_item i kind) vs)
    (variable_declared i kind v.name v.domain c.0 (four (is_unmixed v.domain) (on_type (domain_type v.domain) in_limit) (has_width v.domain) (has_order v.domain) b.0)) (variables_declared i kind vs c.1 b.1)

definitions_declared : (i : ℕ) (ds : List PlainDefinition) → AllDeclared (map (definition_item i) ds)
definitions_declared i [] = tt
definitions_declared i (d ∷ ds) = (tt, definitions_declared i ds)

actual_declared : (i j : ℕ) (x : List ℕ) (e : Tree) → AllDeclared (with_content i x (actual_content j e))
actual_declared i j x (name p q) = tt
actual_declared i j x (truth p b) = (tt, tt)
actual_declared i j x (number p n) = (tt, tt)
actual_declared i j x (literal p w) = (tt, tt)
actual_declared i j x (prefix p sign n c) = (tt, tt)
actual_declared i j x (chain p c ls) = (tt, tt)
actual_declared i j x (choice p bs c) = (tt, tt)
actual_declared i j x (cases p bs) = (tt, tt)
actual_declared i j x (select p c high low) = (tt, tt)
actual_declared i j x (call p f cs) = (tt, tt)
actual_declared i j x (next p c) = (tt, tt)
actual_declared i j x (set p cs) = (tt, tt)
actual_declared i j x (range p low high) = (tt, tt)

actuals_declared : (i j : ℕ) (qs : List Parameter) (es : Trees) → AllDeclared (actual_items i j qs es)
actuals_declared i j [] es = tt
actuals_declared i j (q ∷ qs) no_trees = tt
actuals_declared i j (q ∷ qs) (tree e es) = declared_on (with_content i q.name (actual_content j e)) (actual_items i j qs es) (actual_declared i j q.name e) (actuals_declared i j qs es)

element_declared : (names : Path → Named) (i : ℕ) (el : PlainElement) → items_stated el ≡ true → passes (element_typing names el) ≡ true → AllDeclared (element_items i el)
element_declared names i (vars kind items) s h = variables_declared i kind items s h
element_declared names i (defines ds) s h = definitions_declared i ds
element_declared names i (constants cs) s h = tt
element_declared names i (assigns xs) s h = tt
element_declared names i (init e) s h = tt
element_declared names i (trans e) s h = tt
element_declared names i (invar e) s h = tt
element_declared names i (spec l e) s h = tt

elements_declared : (names : Path → Named) (i : ℕ) (es : List PlainElement) → list_all items_stated es ≡ true → passes (flat_map (element_typing names) es) ≡ true → AllDeclared (flat_map (element_items i) es)
elements_declared names i [] s h = tt
elements_declared names i (el ∷ es) s h =
    let b = split (element_typing names el) (flat_map (element_typing names) es) h in
    let c = both_true (items_stated el) (list_all items_stated es) s in
    declared_on (element_items i el) (flat_map (element_items i) es) (element_declared names i el c.0 b.0) (elements_declared names i es c.1 b.1)

instances_declared : (names : ℕ → Path → Named) (i : ℕ) (rest : List Instance) → AllModules module_stated rest → passes (over_instances (type_checks names) i rest) ≡ true
    → AllDeclared (over_instances items_here i rest)
instances_declared names i [] s h = tt
instances_declared names i (at ∷ rest) s h =
    let b = split (type_checks names i at) (over_instances (type_checks names) (i + 1) rest) h in
    let d = split (actuals_typing (names (parent_of at)) at.actuals) (flat_map (element_typing (names i)) at.module.elements) b.0 in
    let c = both_true (module_stated at.module) (list_all (λ (a : Instance). module_stated a.module) rest) s in
    declared_on (items_here i at) (over_instances items_here (i + 1) rest)
    (declared_on (actual_items i (parent_of at) at.module.parameters at.actuals) (flat_map (element_items i) at.module.elements)
    (actuals_declared i (parent_of at) at.module.parameters at.actuals) (elements_declared (names i) i at.module.elements c.0 d.1))
    (instances_declared names (i + 1) rest c.1 b.1)

pub origins_declared : (names : ℕ → Path → Named) (source : PlainSource) (end : Place) (xs : List Token) → SpellsSource source end xs → passes (over_instances (type_checks names) 0 (instances_of source)) ≡ true
    → AllDeclared (origins_of (instances_of source))
origins_declared names source end xs spelled h = instances_declared names 0 (instances_of source) (instances_stated source end xs spelled) h
