-- The least number of tokens of declarations and sections, without those of actuals, and of the actuals of their instances.
use Rattle.std.proofs.Common.{◌≡◌, ℕ, ◌+◌, ◌*◌, ◌≤◌, Bool, true, false, List, [], ◌∷◌, ◌++◌, length, length-append, Option, Some, None, refl, ap, ◌∙◌, arith}
use Rattle.std.specs.Prelude.{flat_map, if◌then◌else◌, nat_le}
use Rattle.std.specs.List.{AllByRecursion}
use Rattle.std.proofs.lemmas.Bool.{leb-true}
use Rattle.text_core.specs.declared.place.Place.{Place}
use Rattle.smv_text.specs.declared.token.Token.{Token}
use Rattle.smv_text.specs.declared.tree.VarKind.{VarKind}
use Rattle.smv_text.specs.declared.tree.Member.{Member}
use Rattle.smv_text.specs.Tree.{Tree as Expression, Trees as Expressions, no_trees as no_expressions, tree as expression, PlainDomain, boolean, members, between, bits, instance, PlainItem, PlainDefinition, PlainAssignment, PlainElement, vars, defines, constants, assigns, init, trans, invar, spec, PlainModule}
use Rattle.smv_text.specs.Heights.{height, most_height, place_of, first_high, list_of, of_domain, of_items, of_definitions, of_assignments, of_element, of_modules}
use Rattle.smv_text.specs.Sources.{SpellsActuals, no_actuals, empty_actuals, actuals, SpellsMember, symbols, integers, SpellsMembers, no_members, member_then, SpellsDomain, types, instances, SpellsType, booleans, enumerations, intervals, words, SpellsItems, no_items, item_then, SpellsDefinitions, no_definitions, definition_then, SpellsAssignments, no_assignments, assignment_then, SpellsElement, variables, definitions, symbol_names, assignments, inits, transitions, invariants, specifications, SpellsElements, no_elements, element_then, SpellsModules, no_modules, module_then}
use Rattle.smv_script_laws.proofs.Measures.{fewest, fewest_parts}
use Rattle.smv_script_laws.proofs.Chains.{Sized, PartsSized, none_listed, one_listed}
use Rattle.smv_script_laws.proofs.Expressions.{integer_length, spelled, spelled_parts}
use Rattle.smv_items.specs.laws.Counting.{total}

-- ---- sums

pub all_append : {X : Type 0} (P : X → Type 0) (xs ys : List X) → AllByRecursion P xs → AllByRecursion P ys → AllByRecursion P (xs ++ ys)
all_append P [] ys p q = q
all_append P (x ∷ xs) ys p q = (p.0, all_append P xs ys p.1 q)

-- ---- what is charged for a module's body

abbrev pub domain_charge : PlainDomain → ℕ
domain_charge boolean = 1
domain_charge (members ms) = 1 + 2 * length ms
domain_charge (between low high) = 3
domain_charge (bits n) = 1
domain_charge (instance m es) = 1

abbrev pub item_charge : PlainItem → ℕ
item_charge v = 3 + domain_charge v.domain

abbrev pub declared_charge : PlainElement → ℕ
declared_charge (vars kind items) = total item_charge items
declared_charge (defines ds) = total (λ d. 1 + fewest d.body) ds
declared_charge e = 0

abbrev pub stated_charge : PlainElement → ℕ
stated_charge (assigns xs) = total (λ a. fewest a.body) xs
stated_charge (init e) = fewest e
stated_charge (trans e) = fewest e
stated_charge (invar e) = fewest e
stated_charge (spec label e) = fewest e
stated_charge e = 0

abbrev pub domain_actuals : PlainDomain → ℕ
domain_actuals (instance m es) = fewest_parts es
domain_actuals d = 0

abbrev pub items_actuals : List PlainItem → ℕ
items_actuals items = total (λ v. domain_actuals v.domain) items

abbrev pub element_actuals : PlainElement → ℕ
element_actuals (vars kind items) = items_actuals items
element_actuals e = 0

abbrev pub module_charge : PlainModule → ℕ
module_charge m = total declared_charge m.elements + total stated_charge m.elements

-- ---- what holds of each expression

abbrev pub EachPart : (Expression → Type 0) → Expressions → Type 0
EachPart P no_expressions = Unit {0}
EachPart P (expression e es) = P e × EachPart P es

abbrev pub DomainEach : (Expression → Type 0) → PlainDomain → Type 0
DomainEach P (instance m es) = EachPart P es
DomainEach P d = Unit {0}

abbrev pub ItemsEach : (Expression → Type 0) → List PlainItem → Type 0
ItemsEach P items = AllByRecursion (λ v. DomainEach P v.domain) items

abbrev pub ElementEach : (Expression → Type 0) → PlainElement → Type 0
ElementEach P (vars kind items) = ItemsEach P items
ElementEach P (defines ds) = AllByRecursion (λ d. P d.body) ds
ElementEach P (constants names) = Unit {0}
ElementEach P (assigns xs) = AllByRecursion (λ a. P a.body) xs
ElementEach P (init e) = P e
ElementEach P (trans e) = P e
ElementEach P (invar e) = P e
ElementEach P (spec label e) = P e

abbrev pub ModuleEach : (Expression → Type 0) → PlainModule → Type 0
ModuleEach P m = AllByRecursion (ElementEach P) m.elements

-- ---- spelled modules

abbrev pub Weighs : PlainModule → Type 0
Weighs m = module_charge m + total element_actuals m.elements ≤ m.tokens

part_each : {es : Expressions} → PartsSized es → EachPart Sized es
part_each none_listed = tt
part_each (one_listed e rest) = (e, part_each rest)

spelled_actuals : {es : Expressions} {xs : List Token} → SpellsActuals es xs → (fewest_parts es ≤ length xs) × EachPart Sized es
spelled_actuals no_actuals = (omega arith, tt)
spelled_actuals (empty_actuals opening closing a b) = (omega arith, tt)
spelled_actuals (actuals opening a l) = let r = spelled_parts l in (omega (arith, r.0), part_each r.1)

member_length : {m : Member} {xs : List Token} → SpellsMember m xs → 1 ≤ length xs
member_length (symbols x a) = omega arith
member_length (integers s) = integer_length s

members_length : {ms : List Member} {xs : List Token} → SpellsMembers ms xs → 2 * length ms ≤ length xs
members_length no_members = omega arith
members_length (member_then {xs = xs} {ys = ys} comma a m rest) =
    let i = member_length m in
    let j = members_length rest in
    let l = length-append xs ys in
    omega (arith, i, j, l)

type_length : {d : PlainDomain} {xs : List Token} → SpellsType d xs → domain_charge d + domain_actuals d ≤ length xs
type_length (booleans x a) = omega arith
type_length (enumerations {xs = xs} {ys = ys} opening a m ms closing b) =
    let i = member_length m in
    let j = members_length ms in
    let l = length-append xs (ys ++ closing ∷ []) in
    let k = length-append ys (closing ∷ []) in
    omega (arith, i, j, l, k)
type_length (intervals {xs = xs} {ys = ys} a dots b c) =
    let i = integer_length a in
    let j = integer_length c in
    let l = length-append xs (dots ∷ ys) in
    omega (arith, i, j, l)
type_length (words {xs = xs} a x opening width closing b c d e) = let l = length-append xs (x ∷ opening ∷ width ∷ closing ∷ []) in omega (arith, l)

type_each : {d : PlainDomain} {xs : List Token} → SpellsType d xs → DomainEach Sized d
type_each (booleans x a) = tt
type_each (enumerations opening a m ms closing b) = tt
type_each (intervals a dots b c) = tt
type_each (words a x opening width closing b c d e) = tt

spelled_domain : {k : VarKind} {d : PlainDomain} {xs : List Token} → SpellsDomain k d xs → (domain_charge d + domain_actuals d ≤ length xs) × DomainEach Sized d
spelled_domain (types s) = (type_length s, type_each s)
spelled_domain (instances x a s) = let r = spelled_actuals s in (omega (arith, r.0), r.1)

spelled_items : {k : VarKind} {items : List PlainItem} {xs : List Token} → SpellsItems k items xs → (total item_charge items + items_actuals items ≤ length xs) × ItemsEach Sized items
spelled_items no_items = (omega arith, tt)
spelled_items (item_then {xs = xs} {ys = ys} x colon a b s semicolon c rest) =
    let r = spelled_domain s in
    let i = spelled_items rest in
    let l = length-append xs (semicolon ∷ ys) in
    (omega (arith, r.0, i.0, l), (r.1, i.1))

spelled_definitions : {ds : List PlainDefinition} {xs : List Token} → SpellsDefinitions ds xs → (total (λ d. 1 + fewest d.body) ds ≤ length xs) × AllByRecursion (λ d. Sized d.body) ds
spelled_definitions no_definitions = (omega arith, tt)
spelled_definitions (definition_then {xs = xs} {ys = ys} x assign a b s semicolon c rest) =
    let r = spelled s in
    let i = spelled_definitions rest in
    let l = length-append xs (semicolon ∷ ys) in
    (omega (arith, r.0, i.0, l), (r.1, i.1))

spelled_assignments : {given : List PlainAssignment} {xs : List Token} → SpellsAssignments given xs → (total (λ a. fewest a.body) given ≤ length xs) × AllByRecursion (λ a. Sized a.body) given
spelled_assignments no_assignments = (omega arith, tt)
spelled_assignments (assignment_then {xs = xs} {ys = ys} {zs = zs} target assign a s semicolon b rest) =
    let r = spelled s in
    let i = spelled_assignments rest in
    let l = length-append xs (assign ∷ (ys ++ semicolon ∷ zs)) in
    let m = length-append ys (semicolon ∷ zs) in
    (omega (arith, r.0, i.0, l, m), (r.1, i.1))

spelled_element : {e : PlainElement} {xs : List Token} → SpellsElement e xs → ((declared_charge e + stated_charge e) + element_actuals e ≤ length xs) × ElementEach Sized e
spelled_element (variables x a s) = let r = spelled_items s in (omega (arith, r.0), r.1)
spelled_element (definitions x a s) = let r = spelled_definitions s in (omega (arith, r.0), r.1)
spelled_element (symbol_names x named a b s semicolon c) = (omega arith, tt)
spelled_element (assignments x a s) = let r = spelled_assignments s in (omega (arith, r.0), r.1)
spelled_element (inits {xs = xs} {ys = ys} x a s o) = let r = spelled s in let l = length-append xs ys in (omega (arith, r.0, l), r.1)
spelled_element (transitions {xs = xs} {ys = ys} x a s o) = let r = spelled s in let l = length-append xs ys in (omega (arith, r.0, l), r.1)
spelled_element (invariants {xs = xs} {ys = ys} x a s o) = let r = spelled s in let l = length-append xs ys in (omega (arith, r.0, l), r.1)
spelled_element (specifications {ns = ns} {xs = xs} {ys = ys} x a l s o) =
    let r = spelled s in
    let p = length-append ns (xs ++ ys) in
    let q = length-append xs ys in
    (omega (arith, r.0, p, q), r.1)

spelled_elements : {es : List PlainElement} {xs : List Token} → SpellsElements es xs
    → ((total declared_charge es + total stated_charge es) + total element_actuals es ≤ length xs) × AllByRecursion (ElementEach Sized) es
spelled_elements no_elements = (omega arith, tt)
spelled_elements (element_then {xs = xs} {ys = ys} s rest) =
    let r = spelled_element s in
    let i = spelled_elements rest in
    let l = length-append xs ys in
    (omega (arith, r.0, i.0, l), (r.1, i.1))

pub spelled_modules : {ms : List PlainModule} {xs : List Token} → SpellsModules ms xs → AllByRecursion (λ m. Weighs m × ModuleEach Sized m) ms
spelled_modules no_modules = tt
spelled_modules (module_then x identifier a b f es rest) = let r = spelled_elements es in ((r.0, r.1), spelled_modules rest)

-- ---- no expression is too high

abbrev pub IsLow : Expression → Type 0
IsLow e = height e ≤ most_height

low_head : (b : Bool) (o : Option Place) (p : Place) → (if b then o else Some p) ≡ None → (b ≡ true) × (o ≡ None)
low_head true o p h = (refl, h)
low_head false o p h = cc

low_split : (xs ys : List Expression) → first_high (xs ++ ys) ≡ None → (first_high xs ≡ None) × (first_high ys ≡ None)
low_split [] ys h = (refl, h)
low_split (e ∷ xs) ys h =
    let b = low_head (nat_le (height e) most_height) (first_high (xs ++ ys)) (place_of e) h in
    let r = low_split xs ys b.1 in
    (ap (λ c. if c then first_high xs else Some (place_of e)) b.0 ∙ r.0, r.1)

low_one : (e : Expression) (xs : List Expression) → first_high (e ∷ xs) ≡ None → IsLow e × (first_high xs ≡ None)
low_one e xs h = let b = low_head (nat_le (height e) most_height) (first_high xs) (place_of e) h in (leb-true (height e) most_height b.0, b.1)

low_parts : (es : Expressions) → first_high (list_of es) ≡ None → EachPart IsLow es
low_parts no_expressions h = tt
low_parts (expression e es) h = let b = low_one e (list_of es) h in (b.0, low_parts es b.1)

low_domain : (d : PlainDomain) → first_high (of_domain d) ≡ None → DomainEach IsLow d
low_domain (instance m es) h = low_parts es h
low_domain boolean h = tt
low_domain (members ms) h = tt
low_domain (between low high) h = tt
low_domain (bits n) h = tt

low_items : (items : List PlainItem) → first_high (of_items items) ≡ None → ItemsEach IsLow items
low_items [] h = tt
low_items (v ∷ items) h = let b = low_split (of_domain v.domain) (of_items items) h in (low_domain v.domain b.0, low_items items b.1)

low_definitions : (ds : List PlainDefinition) → first_high (of_definitions ds) ≡ None → AllByRecursion (λ d. IsLow d.body) ds
low_definitions [] h = tt
low_definitions (d ∷ ds) h = let b = low_one d.body (of_definitions ds) h in (b.0, low_definitions ds b.1)

low_assignments : (xs : List PlainAssignment) → first_high (of_assignments xs) ≡ None → AllByRecursion (λ a. IsLow a.body) xs
low_assignments [] h = tt
low_assignments (a ∷ xs) h = let b = low_one a.body (of_assignments xs) h in (b.0, low_assignments xs b.1)

low_element : (e : PlainElement) → first_high (of_element e) ≡ None → ElementEach IsLow e
low_element (vars kind items) h = low_items items h
low_element (defines ds) h = low_definitions ds h
low_element (constants names) h = tt
low_element (assigns xs) h = low_assignments xs h
low_element (init e) h = (low_one e [] h).0
low_element (trans e) h = (low_one e [] h).0
low_element (invar e) h = (low_one e [] h).0
low_element (spec label e) h = (low_one e [] h).0

low_elements : (es : List PlainElement) → first_high (flat_map of_element es) ≡ None → AllByRecursion (ElementEach IsLow) es
low_elements [] h = tt
low_elements (e ∷ es) h = let b = low_split (of_element e) (flat_map of_element es) h in (low_element e b.0, low_elements es b.1)

pub low_modules : (ms : List PlainModule) → first_high (of_modules ms) ≡ None → AllByRecursion (ModuleEach IsLow) ms
low_modules [] h = tt
low_modules (m ∷ ms) h = let b = low_split (flat_map of_element m.elements) (of_modules ms) h in (low_elements m.elements b.0, low_modules ms b.1)
