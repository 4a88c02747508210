-- In a spelled model FROZENVAR declares no instances, and each instance is one of a module of the model.
use Rattle.std.proofs.Common.{◌≡◌, ℕ, zero, suc, ◌+◌, Bool, true, false, not, if◌then◌else◌, List, [], ◌∷◌, ◌++◌, length, Option, Some, None, bytes_eq, refl, sym, ap, ◌∙◌}
use Rattle.std.specs.List.{list_all}
use Rattle.std.proofs.lemmas.List.Folds.{list_all-append}
use Rattle.smv_text.specs.declared.token.Token.{Token}
use Rattle.smv_text.specs.declared.tree.VarKind.{VarKind}
use Rattle.smv_text.specs.declared.tree.VarKind.TheVariants as OfVarKind
use Rattle.smv_text.specs.Tree.{Trees, PlainDomain, boolean, members, between, bits, instance, PlainItem, PlainElement, vars, defines, constants, assigns, init, trans, invar, spec, PlainModule, PlainSource}
use Rattle.smv_text.specs.Sources.{SpellsType, booleans, enumerations, intervals, words, SpellsDomain, types, instances, SpellsItems, no_items, item_then, SpellsElement, variables, definitions, symbol_names, assignments, inits, transitions, invariants, specifications, SpellsElements, no_elements, element_then, SpellsModules, no_modules, module_then}
use Rattle.smv_meaning.specs.Instances.{Instance, module_named, placed, child_in, child_of, with_child, grow_items, grow_elements, grow, main_instance, grown_from, main_name, instances_of}
use Rattle.smv_meaning.specs.Phases.{domain_declares_instance}
use Rattle.smv_meaning.specs.Runs.{is_frozen}
use Rattle.smv_meaning.specs.laws.Booleans.{both_true, two_true}
use Rattle.smv_meaning.specs.laws.Booleans.{absurd_bool}

abbrev pub no_instance : PlainItem → Bool
no_instance v = not (domain_declares_instance v.domain)

abbrev pub section_is_plain : PlainElement → Bool
section_is_plain (vars OfVarKind.Frozen items) = list_all no_instance items
section_is_plain (vars kind items) = true
section_is_plain e = true

abbrev pub module_is_plain : PlainModule → Bool
module_is_plain m = list_all section_is_plain m.elements

-- ---- spelled

type_no_instance : {d : PlainDomain} {xs : List Token} → SpellsType d xs → domain_declares_instance d ≡ false
type_no_instance (booleans x a) = refl
type_no_instance (enumerations opening a b c closing d) = refl
type_no_instance (intervals a dots b c) = refl
type_no_instance (words a x opening width closing b c d e) = refl

domain_no_instance : {k : VarKind} {d : PlainDomain} {xs : List Token} → is_frozen k ≡ true → SpellsDomain k d xs → domain_declares_instance d ≡ false
domain_no_instance h (types s) = type_no_instance s
domain_no_instance h (instances x a b) = absurd_bool h

items_plain : {k : VarKind} {items : List PlainItem} {xs : List Token} → is_frozen k ≡ true → SpellsItems k items xs → list_all no_instance items ≡ true
items_plain h no_items = refl
items_plain h (item_then x colon a b s semicolon c rest) = two_true _ _ (ap not (domain_no_instance h s)) (items_plain h rest)

section_plain : (k : VarKind) (items : List PlainItem) (xs : List Token) → SpellsItems k items xs → section_is_plain (vars k items) ≡ true
section_plain OfVarKind.State items xs s = refl
section_plain OfVarKind.Input items xs s = refl
section_plain OfVarKind.Frozen items xs s = items_plain refl s

element_plain : {e : PlainElement} {xs : List Token} → SpellsElement e xs → section_is_plain e ≡ true
element_plain (variables x a s) = section_plain _ _ _ s
element_plain (definitions x a s) = refl
element_plain (symbol_names x first a b s semicolon c) = refl
element_plain (assignments x a s) = refl
element_plain (inits x a s o) = refl
element_plain (transitions x a s o) = refl
element_plain (invariants x a s o) = refl
element_plain (specifications x a l s o) = refl

elements_plain : {es : List PlainElement} {xs : List Token} → SpellsElements es xs → list_all section_is_plain es ≡ true
elements_plain no_elements = refl
elements_plain (element_then s rest) = two_true _ _ (element_plain s) (elements_plain rest)

pub modules_plain : {ms : List PlainModule} {xs : List Token} → SpellsModules ms xs → list_all module_is_plain ms ≡ true
modules_plain no_modules = refl
modules_plain (module_then x identifier a b f es rest) = two_true _ _ (elements_plain es) (modules_plain rest)

-- ---- each instance is one of a module

abbrev pub AllModules : (PlainModule → Bool) → List Instance → Type 0
AllModules test t = list_all (λ (at : Instance). test at.module) t ≡ true

abbrev IsGood : (PlainModule → Bool) → Option Instance → Type 0
IsGood test None = Unit {0}
IsGood test (Some at) = test at.module ≡ true

-- it keeps a list good
abbrev Keeps : (PlainModule → Bool) → (Instance → List Instance → List Instance) → Type 0
Keeps test g = (at : Instance) (t : List Instance) → test at.module ≡ true → AllModules test t → AllModules test (g at t)

module_good : (test : PlainModule → Bool) (i : ℕ) (path x : List ℕ) (actuals : Trees) (m : List ℕ) (ms : List PlainModule) → list_all test ms ≡ true → IsGood test (placed i path x actuals (module_named ms m))
module_good test i path x actuals m [] h = tt
module_good test i path x actuals m (p ∷ ms) h =
    let s = both_true (test p) (list_all test ms) h in
    by (module_good test i path x actuals m ms s.1) s.0 (bytes_eq p.name m)
  where
    by : IsGood test (placed i path x actuals (module_named ms m)) → test p ≡ true → (b : Bool) → IsGood test (placed i path x actuals (if b then Some p else module_named ms m))
    by ih e true = e
    by ih e false = ih

child_good : (test : PlainModule → Bool) (ms : List PlainModule) → list_all test ms ≡ true → (i : ℕ) (path x : List ℕ) (d : PlainDomain) → IsGood test (child_in ms i path x d)
child_good test ms h i path x (instance m actuals) = module_good test i path x actuals m ms h
child_good test ms h i path x boolean = tt
child_good test ms h i path x (members xs) = tt
child_good test ms h i path x (between low high) = tt
child_good test ms h i path x (bits n) = tt

with_good : (test : PlainModule → Bool) (g : Instance → List Instance → List Instance) → Keeps test g → (o : Option Instance) (t : List Instance) → IsGood test o → AllModules test t → AllModules test (with_child g o t)
with_good test g k None t o h = h
with_good test g k (Some at) t o h = k at t o h

items_good : (test : PlainModule → Bool) (g : Instance → List Instance → List Instance) → Keeps test g → (ms : List PlainModule) → list_all test ms ≡ true → (i : ℕ) (path : List ℕ) (items : List PlainItem) (t : List Instance)
    → AllModules test t → AllModules test (grow_items g ms i path items t)
items_good test g k ms p i path [] t h = h
items_good test g k ms p i path (v ∷ items) t h =
    items_good test g k ms p i path items (with_child g (child_of ms i path v) t) (with_good test g k (child_of ms i path v) t (child_good test ms p i path v.name v.domain) h)

elements_good : (test : PlainModule → Bool) (g : Instance → List Instance → List Instance) → Keeps test g → (ms : List PlainModule) → list_all test ms ≡ true → (i : ℕ) (path : List ℕ) (es : List PlainElement) (t : List Instance)
    → AllModules test t → AllModules test (grow_elements g ms i path es t)
elements_good test g k ms p i path [] t h = h
elements_good test g k ms p i path (vars kind items ∷ es) t h = elements_good test g k ms p i path es (grow_items g ms i path items t) (items_good test g k ms p i path items t h)
elements_good test g k ms p i path (defines ds ∷ es) t h = elements_good test g k ms p i path es t h
elements_good test g k ms p i path (constants cs ∷ es) t h = elements_good test g k ms p i path es t h
elements_good test g k ms p i path (assigns xs ∷ es) t h = elements_good test g k ms p i path es t h
elements_good test g k ms p i path (init e ∷ es) t h = elements_good test g k ms p i path es t h
elements_good test g k ms p i path (trans e ∷ es) t h = elements_good test g k ms p i path es t h
elements_good test g k ms p i path (invar e ∷ es) t h = elements_good test g k ms p i path es t h
elements_good test g k ms p i path (spec l e ∷ es) t h = elements_good test g k ms p i path es t h

grow_good : (test : PlainModule → Bool) (ms : List PlainModule) → list_all test ms ≡ true → (n : ℕ) → Keeps test (grow n ms)
unfolding grow
grow_good test ms p zero at t e h = h
grow_good test ms p (suc n) at t e h =
    elements_good test (grow n ms) (grow_good test ms p n) ms p (length t) at.path at.module.elements (t ++ at ∷ [])
    (list_all-append (λ (a : Instance). test a.module) t (at ∷ []) ∙ two_true _ _ h (two_true _ _ e refl))

pub named_good : (test : PlainModule → Bool) (ms : List PlainModule) (m : List ℕ) → list_all test ms ≡ true → (o : Option PlainModule) → o ≡ module_named ms m → AllModules test (grown_from ms o)
named_good test ms m p None e = refl
named_good test ms m p (Some q) e = grow_good test ms p (length ms) (main_instance q) [] (there ms p (sym e)) refl
  where
    there : (ns : List PlainModule) → list_all test ns ≡ true → module_named ns m ≡ Some q → test q ≡ true
    there [] h s = cc
    there (n ∷ ns) h s = pick (both_true (test n) (list_all test ns) h).0 (λ g. there ns (both_true (test n) (list_all test ns) h).1 g) (bytes_eq n.name m) s
      where
        pick : test n ≡ true → (module_named ns m ≡ Some q → test q ≡ true) → (b : Bool) → (if b then Some n else module_named ns m) ≡ Some q → test q ≡ true
        pick a ih true g = let s : n ≡ q = cc in ap test (sym s) ∙ a
        pick a ih false g = ih g

pub instances_plain : (source : PlainSource) → list_all module_is_plain source.modules ≡ true → AllModules module_is_plain (instances_of source)
instances_plain source h = named_good module_is_plain source.modules main_name h (module_named source.modules main_name) refl
