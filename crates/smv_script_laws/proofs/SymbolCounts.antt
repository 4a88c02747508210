-- Each symbol of a model is in the body of one of its modules.
use Rattle.std.proofs.Common.{ℕ, zero, suc, ◌+◌, ◌≤◌, Bool, true, false, if◌then◌else◌, List, [], ◌∷◌, ◌++◌, length, length-append, Option, Some, None, arith}
use Rattle.std.specs.Prelude.{bytes_eq, flat_map, sum_by}
use Rattle.std.specs.List.{AllByRecursion}
use Rattle.std.proofs.lemmas.List.Sums.{sum_by-cons}
use Rattle.smv_text.specs.declared.token.Token.{Token}
use Rattle.smv_text.specs.declared.tree.Member.{Member}
use Rattle.smv_text.specs.declared.tree.VarKind.{VarKind}
use Rattle.smv_text.specs.Tree.{Trees, PlainDomain, boolean, members, between, bits, instance, PlainItem, PlainElement, vars, defines, constants, assigns, init, trans, invar, spec, PlainModule}
use Rattle.smv_text.specs.Sources.{SpellsNames, no_names, name_then, SpellsMember, symbols, integers, SpellsMembers, no_members, member_then, SpellsType, booleans, enumerations, intervals, words, SpellsDomain, types, instances, SpellsItems, no_items, item_then, SpellsElement, variables, definitions, symbol_names, assignments, inits, transitions, invariants, specifications, SpellsElements, no_elements, element_then, SpellsModules, no_modules, module_then}
use Rattle.smv_meaning.specs.Instances.{Instance, is_one_of, module_named, placed, child_in, child_of, with_child, grow_items, grow_elements, grow, main_instance, grown_from, main_name, instances_of}
use Rattle.smv_items.specs.FlatItems.{member_symbols, domain_symbols, element_symbols, gathered}
use Rattle.smv_script_laws.specs.BoundLaws.{SymbolsByWeight}

-- ---- bodies

member_few : {m : Member} {xs : List Token} → SpellsMember m xs → length (member_symbols m) ≤ length xs
member_few (symbols x a) = omega arith
member_few (integers s) = omega arith

members_few : {ms : List Member} {xs : List Token} → SpellsMembers ms xs → length (flat_map member_symbols ms) ≤ length xs
members_few no_members = omega arith
members_few (member_then {m = m} {ms = ms} {xs = xs} {ys = ys} comma a h rest) =
    let i = member_few h in
    let j = members_few rest in
    let l = length-append xs ys in
    let k = length-append (member_symbols m) (flat_map member_symbols ms) in
    omega (arith, i, j, l, k)

type_few : {d : PlainDomain} {xs : List Token} → SpellsType d xs → length (domain_symbols d) ≤ length xs
type_few (booleans x a) = omega arith
type_few (enumerations {m = m} {ms = ms} {xs = xs} {ys = ys} opening a h rest closing b) =
    let i = member_few h in
    let j = members_few rest in
    let l = length-append xs (ys ++ closing ∷ []) in
    let r = length-append ys (closing ∷ []) in
    let k = length-append (member_symbols m) (flat_map member_symbols ms) in
    omega (arith, i, j, l, r, k)
type_few (intervals a dots b c) = omega arith
type_few (words a x opening width closing b c d e) = omega arith

domain_few : {k : VarKind} {d : PlainDomain} {xs : List Token} → SpellsDomain k d xs → length (domain_symbols d) ≤ length xs
domain_few (types s) = type_few s
domain_few (instances x a s) = omega arith

items_few : {k : VarKind} {items : List PlainItem} {xs : List Token} → SpellsItems k items xs → length (flat_map (λ (v : PlainItem). domain_symbols v.domain) items) ≤ length xs
items_few no_items = omega arith
items_few (item_then {d = d} {is = is} {xs = xs} {ys = ys} x colon a b s semicolon c rest) =
    let i = domain_few s in
    let j = items_few rest in
    let l = length-append xs (semicolon ∷ ys) in
    let k = length-append (domain_symbols d) (flat_map (λ (v : PlainItem). domain_symbols v.domain) is) in
    omega (arith, i, j, l, k)

names_few : {ns : List (List ℕ)} {xs : List Token} → SpellsNames ns xs → length ns ≤ length xs
names_few no_names = omega arith
names_few (name_then comma x a b rest) = let i = names_few rest in omega (arith, i)

element_few : {e : PlainElement} {xs : List Token} → SpellsElement e xs → length (element_symbols e) ≤ length xs
element_few (variables x a s) = let i = items_few s in omega (arith, i)
element_few (definitions x a s) = omega arith
element_few (symbol_names {xs = xs} x named a b s semicolon c) =
    let i = names_few s in
    let l = length-append xs (semicolon ∷ []) in
    omega (arith, i, l)
element_few (assignments x a s) = omega arith
element_few (inits x a s o) = omega arith
element_few (transitions x a s o) = omega arith
element_few (invariants x a s o) = omega arith
element_few (specifications x a l s o) = omega arith

elements_few : {es : List PlainElement} {xs : List Token} → SpellsElements es xs → length (flat_map element_symbols es) ≤ length xs
elements_few no_elements = omega arith
elements_few (element_then {e = e} {es = es} {xs = xs} {ys = ys} s rest) =
    let i = element_few s in
    let j = elements_few rest in
    let l = length-append xs ys in
    let k = length-append (element_symbols e) (flat_map element_symbols es) in
    omega (arith, i, j, l, k)

-- no more symbols than tokens
abbrev IsFew : PlainModule → Type 0
IsFew m = length (flat_map element_symbols m.elements) ≤ m.tokens

modules_few : {ms : List PlainModule} {xs : List Token} → SpellsModules ms xs → AllByRecursion IsFew ms
modules_few no_modules = tt
modules_few (module_then x identifier a b f es rest) = (elements_few es, modules_few rest)

-- ---- instances

abbrev AllFew : List Instance → Type 0
AllFew t = AllByRecursion (λ (at : Instance). IsFew at.module) t

all_behind : (t : List Instance) (at : Instance) → AllFew t → IsFew at.module → AllFew (t ++ at ∷ [])
all_behind [] at h k = (k, tt)
all_behind (x ∷ t) at h k = (h.0, all_behind t at h.1 k)

abbrev Keeps : (Instance → List Instance → List Instance) → Type 0
Keeps g = (at : Instance) (t : List Instance) → IsFew at.module → AllFew t → AllFew (g at t)

abbrev ChildFew : Option Instance → Type 0
ChildFew None = Unit {0}
ChildFew (Some at) = IsFew at.module

placed_few : (i : ℕ) (path x m : List ℕ) (es : Trees) (ms : List PlainModule) → AllByRecursion IsFew ms → ChildFew (placed i path x es (module_named ms m))
placed_few i path x m es [] h = tt
placed_few i path x m es (p ∷ ms) h = by (placed_few i path x m es ms h.1) (bytes_eq p.name m)
  where
    by : ChildFew (placed i path x es (module_named ms m)) → (b : Bool) → ChildFew (placed i path x es (if b then Some p else module_named ms m))
    by ih true = h.0
    by ih false = ih

with_child_few : (g : Instance → List Instance → List Instance) → Keeps g → (o : Option Instance) → ChildFew o → (t : List Instance) → AllFew t → AllFew (with_child g o t)
with_child_few g k None c t h = h
with_child_few g k (Some at) c t h = k at t c h

child_few : (ms : List PlainModule) → AllByRecursion IsFew ms → (i : ℕ) (path x : List ℕ) (d : PlainDomain) → ChildFew (child_in ms i path x d)
child_few ms p i path x (instance m es) = placed_few i path x m es ms p
child_few ms p i path x boolean = tt
child_few ms p i path x (members xs) = tt
child_few ms p i path x (between low high) = tt
child_few ms p i path x (bits n) = tt

grow_items_few : (g : Instance → List Instance → List Instance) → Keeps g → (ms : List PlainModule) → AllByRecursion IsFew ms → (i : ℕ) (path : List ℕ) (items : List PlainItem) (t : List Instance)
    → AllFew t → AllFew (grow_items g ms i path items t)
grow_items_few g k ms p i path [] t h = h
grow_items_few g k ms p i path (v ∷ items) t h =
    grow_items_few g k ms p i path items (with_child g (child_of ms i path v) t) (with_child_few g k (child_of ms i path v) (child_few ms p i path v.name v.domain) t h)

grow_elements_few : (g : Instance → List Instance → List Instance) → Keeps g → (ms : List PlainModule) → AllByRecursion IsFew ms → (i : ℕ) (path : List ℕ) (es : List PlainElement) (t : List Instance)
    → AllFew t → AllFew (grow_elements g ms i path es t)
grow_elements_few g k ms p i path [] t h = h
grow_elements_few g k ms p i path (vars kind items ∷ es) t h = grow_elements_few g k ms p i path es (grow_items g ms i path items t) (grow_items_few g k ms p i path items t h)
grow_elements_few g k ms p i path (defines ds ∷ es) t h = grow_elements_few g k ms p i path es t h
grow_elements_few g k ms p i path (constants cs ∷ es) t h = grow_elements_few g k ms p i path es t h
grow_elements_few g k ms p i path (assigns xs ∷ es) t h = grow_elements_few g k ms p i path es t h
grow_elements_few g k ms p i path (init e ∷ es) t h = grow_elements_few g k ms p i path es t h
grow_elements_few g k ms p i path (trans e ∷ es) t h = grow_elements_few g k ms p i path es t h
grow_elements_few g k ms p i path (invar e ∷ es) t h = grow_elements_few g k ms p i path es t h
grow_elements_few g k ms p i path (spec l e ∷ es) t h = grow_elements_few g k ms p i path es t h

grow_few : (ms : List PlainModule) → AllByRecursion IsFew ms → (n : ℕ) → Keeps (grow n ms)
unfolding grow
grow_few ms p zero at t e h = h
grow_few ms p (suc n) at t e h =
    grow_elements_few (grow n ms) (grow_few ms p n) ms p (length t) at.path at.module.elements (t ++ at ∷ []) (all_behind t at h e)

named_few : (ms all : List PlainModule) (m : List ℕ) → AllByRecursion IsFew all → AllByRecursion IsFew ms → AllFew (grown_from all (module_named ms m))
named_few [] all m p h = tt
named_few (q ∷ ms) all m p h = by (named_few ms all m p h.1) (bytes_eq q.name m)
  where
    by : AllFew (grown_from all (module_named ms m)) → (b : Bool) → AllFew (grown_from all (if b then Some q else module_named ms m))
    by ih true = grow_few all p (length all) (main_instance q) [] h.0 tt
    by ih false = ih

-- ---- symbols

instances_few : (t : List Instance) → AllFew t → length (flat_map (λ (at : Instance). flat_map element_symbols at.module.elements) t) ≤ sum_by (λ (at : Instance). at.module.tokens) t
instances_few [] h = omega arith
instances_few (at ∷ t) h =
    let i = instances_few t h.1 in
    let a = h.0 in
    let s = sum_by-cons (λ (x : Instance). x.module.tokens) at t in
    let k = length-append (flat_map element_symbols at.module.elements) (flat_map (λ (x : Instance). flat_map element_symbols x.module.elements) t) in
    omega (arith, i, a, s, k)

gathered_few : (seen xs : List (List ℕ)) → length (gathered seen xs) ≤ length seen + length xs
gathered_few seen [] = omega arith
gathered_few seen (x ∷ xs) =
    let i = gathered_few (if is_one_of seen x then seen else seen ++ x ∷ []) xs in
    let s = by (is_one_of seen x) in
    omega (arith, i, s)
  where
    by : (b : Bool) → length (if b then seen else seen ++ x ∷ []) ≤ suc (length seen)
    by true = omega arith
    by false = let l = length-append seen (x ∷ []) in omega (arith, l)

pub symbols_by_weight : SymbolsByWeight
symbols_by_weight source end xs s =
    let t = instances_of source in
    let i = instances_few t (named_few source.modules source.modules main_name (modules_few s.0) (modules_few s.0)) in
    let g = gathered_few [] (flat_map (λ (at : Instance). flat_map element_symbols at.module.elements) t) in
    omega (arith, i, g)
