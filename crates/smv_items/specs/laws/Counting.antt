-- An accepted model has no more instances, items, symbols and invariants than tokens, and one.
use Rattle.std.proofs.Common.{◌≡◌, ℕ, zero, suc, ◌+◌, ◌≤◌, Bool, true, false, if◌then◌else◌, List, [], ◌∷◌, ◌++◌, length, length-append, flat_map, Option, Some, None, refl, sym, ap, ◌∙◌, arith}
use Rattle.std.specs.Prelude.{bytes_eq, sum_by, slice_get, nat_le, nat_lt}
use Rattle.std.specs.List.{AllByRecursion}
use Rattle.std.proofs.lemmas.Bool.{leb-true}
use Rattle.std.proofs.lemmas.List.{length-map}
use Rattle.std.proofs.lemmas.List.Folds.{list_all-append}
use Rattle.std.proofs.lemmas.List.Sums.{sum_by-cons}
use Rattle.text_core.specs.declared.place.Place.{Place}
use Rattle.smv_text.specs.declared.token.Token.{Token}
use Rattle.smv_text.specs.declared.token.Sign.{Sign}
use Rattle.smv_text.specs.declared.tree.Member.{Member}
use Rattle.smv_text.specs.declared.tree.Parameter.{Parameter}
use Rattle.smv_text.specs.declared.tree.VarKind.{VarKind}
use Rattle.smv_text.specs.Tree.{Trees, no_trees, tree, PlainDomain, boolean, members, between, bits, instance, PlainItem, PlainDefinition, PlainElement, vars, defines, constants, assigns, init, trans, invar, spec, PlainModule, PlainSource}
use Rattle.smv_text.specs.Grammar.{SpellsListed, last_one, one_before}
use Rattle.smv_text.specs.Sources.{SpellsNames, no_names, name_then, SpellsActuals, no_actuals, empty_actuals, actuals, SpellsMember, symbols, integers, SpellsMembers, no_members, member_then, SpellsType, booleans, enumerations, intervals, words, SpellsDomain, types, instances, SpellsItems, no_items, item_then, SpellsDefinitions, no_definitions, definition_then, SpellsElement, variables, definitions, symbol_names, assignments, inits, transitions, invariants, specifications, SpellsElements, no_elements, element_then, SpellsModules, no_modules, module_then, SpellsSource}
use Rattle.smv_meaning.specs.Instances.{Instance, is_one_of, module_named, placed, child_in, child_of, with_child, grow_items, grow_elements, grow, main_instance, grown_from, main_name, instances_of, weight_of}
use Rattle.smv_meaning.specs.Names.{trees_in, parent_of}
use Rattle.smv_meaning.specs.Checks.{Check, check, passes}
use Rattle.smv_meaning.specs.Phases.{over_instances, element_invariants, invariants_in, module_checks, declaration_checks, size_checks, symbol_checks, later_checks, most_tokens, IsAccepted}
use Rattle.smv_meaning.specs.laws.Booleans.{both_true}
use Rattle.smv_items.specs.FlatItems.{member_symbols, domain_symbols, element_symbols, gathered, Content, with_content, actual_content, actual_items, domain_content, variable_item, definition_item, element_items, items_here}
use Rattle.smv_items.specs.Counts.{AreFew}

-- ---- sums

abbrev pub total {ℓ} : {X : Type ℓ} → (X → ℕ) → List X → ℕ
total f [] = 0
total f (x ∷ xs) = f x + total f xs

pub total_append : {X : Type 0} (f : X → ℕ) (xs ys : List X) → total f (xs ++ ys) ≡ total f xs + total f ys
total_append f [] ys = omega arith
total_append f (x ∷ xs) ys = let i = total_append f xs ys in omega (arith, i)

pub total_is : {X : Type 0} (f : X → ℕ) (xs : List X) → sum_by f xs ≡ total f xs
total_is f [] = refl
total_is f (x ∷ xs) = sum_by-cons f x xs ∙ ap (λ n. f x + n) (total_is f xs)

-- ---- what is charged for a module's body

abbrev item_charge : PlainItem → ℕ
item_charge v = 1 + length (domain_symbols v.domain)

abbrev element_charge : PlainElement → ℕ
element_charge (vars kind items) = total item_charge items
element_charge (defines ds) = length ds
element_charge (constants names) = length names
element_charge (spec label e) = 1
element_charge e = 0

-- an instance with its actuals is charged where it is declared
abbrev domain_given : PlainDomain → ℕ
domain_given (instance m es) = 1 + trees_in es
domain_given d = 0

abbrev items_given : List PlainItem → ℕ
items_given items = total (λ v. domain_given v.domain) items

abbrev element_given : PlainElement → ℕ
element_given (vars kind items) = items_given items
element_given e = 0

abbrev Weighs : PlainModule → Type 0
Weighs m = total element_charge m.elements + total element_given m.elements ≤ m.tokens

-- ---- spelled modules

listed_length : {s : Sign} {ts : Trees} {xs : List Token} → SpellsListed s ts xs → trees_in ts ≤ length xs
listed_length (last_one {xs = xs} e closing a) = let l = length-append xs (closing ∷ []) in omega (arith, l)
listed_length (one_before {xs = xs} {ys = ys} e comma a rest) =
    let i = listed_length rest in
    let l = length-append xs (comma ∷ ys) in
    omega (arith, i, l)

actuals_length : {es : Trees} {xs : List Token} → SpellsActuals es xs → trees_in es ≤ length xs
actuals_length no_actuals = omega arith
actuals_length (empty_actuals opening closing a b) = omega arith
actuals_length (actuals opening a l) = let i = listed_length l in omega (arith, i)

member_length : {m : Member} {xs : List Token} → SpellsMember m xs → length (member_symbols m) ≤ length xs
member_length (symbols x a) = omega arith
member_length (integers s) = omega arith

members_length : {ms : List Member} {xs : List Token} → SpellsMembers ms xs → length (flat_map member_symbols ms) ≤ length xs
members_length no_members = omega arith
members_length (member_then {m = m} {ms = ms} {xs = xs} {ys = ys} comma a h rest) =
    let i = member_length h in
    let j = members_length rest in
    let l = length-append xs ys in
    let k = length-append (member_symbols m) (flat_map member_symbols ms) in
    omega (arith, i, j, l, k)

type_length : {d : PlainDomain} {xs : List Token} → SpellsType d xs → length (domain_symbols d) + domain_given d ≤ length xs
type_length (booleans x a) = omega arith
type_length (enumerations {m = m} {ms = ms} {xs = xs} {ys = ys} opening a h rest closing b) =
    let i = member_length h in
    let j = members_length rest in
    let l = length-append xs (ys ++ closing ∷ []) in
    let r = length-append ys (closing ∷ []) in
    let k = length-append (member_symbols m) (flat_map member_symbols ms) in
    omega (arith, i, j, l, r, k)
type_length (intervals a dots b c) = omega arith
type_length (words a x opening width closing b c d e) = omega arith

domain_length : {k : VarKind} {d : PlainDomain} {xs : List Token} → SpellsDomain k d xs → length (domain_symbols d) + domain_given d ≤ length xs
domain_length (types s) = type_length s
domain_length (instances x a s) = let i = actuals_length s in omega (arith, i)

items_length : {k : VarKind} {items : List PlainItem} {xs : List Token} → SpellsItems k items xs → total item_charge items + items_given items ≤ length xs
items_length no_items = omega arith
items_length (item_then {xs = xs} {ys = ys} x colon a b s semicolon c rest) =
    let i = domain_length s in
    let j = items_length rest in
    let l = length-append xs (semicolon ∷ ys) in
    omega (arith, i, j, l)

definitions_length : {ds : List PlainDefinition} {xs : List Token} → SpellsDefinitions ds xs → length ds ≤ length xs
definitions_length no_definitions = omega arith
definitions_length (definition_then {xs = xs} {ys = ys} x assign a b s semicolon c rest) =
    let i = definitions_length rest in
    let l = length-append xs (semicolon ∷ ys) in
    omega (arith, i, l)

names_length : {ns : List (List ℕ)} {xs : List Token} → SpellsNames ns xs → length ns ≤ length xs
names_length no_names = omega arith
names_length (name_then comma x a b rest) = let i = names_length rest in omega (arith, i)

element_length : {e : PlainElement} {xs : List Token} → SpellsElement e xs → element_charge e + element_given e ≤ length xs
element_length (variables x a s) = let i = items_length s in omega (arith, i)
element_length (definitions x a s) = let i = definitions_length s in omega (arith, i)
element_length (symbol_names {xs = xs} x named a b s semicolon c) =
    let i = names_length s in
    let l = length-append xs (semicolon ∷ []) in
    omega (arith, i, l)
element_length (assignments x a s) = omega arith
element_length (inits x a s o) = omega arith
element_length (transitions x a s o) = omega arith
element_length (invariants x a s o) = omega arith
element_length (specifications x a l s o) = omega arith

elements_length : {es : List PlainElement} {xs : List Token} → SpellsElements es xs → total element_charge es + total element_given es ≤ length xs
elements_length no_elements = omega arith
elements_length (element_then {xs = xs} {ys = ys} s rest) =
    let i = element_length s in
    let j = elements_length rest in
    let l = length-append xs ys in
    omega (arith, i, j, l)

spelled_weigh : {ms : List PlainModule} {xs : List Token} → SpellsModules ms xs → AllByRecursion Weighs ms
spelled_weigh no_modules = tt
spelled_weigh (module_then x identifier a b f es rest) = (elements_length es, spelled_weigh rest)

-- ---- instances

abbrev AllWeigh : List Instance → Type 0
AllWeigh t = AllByRecursion (λ (at : Instance). Weighs at.module) t

all_behind : (t : List Instance) (at : Instance) → AllWeigh t → Weighs at.module → AllWeigh (t ++ at ∷ [])
all_behind [] at h k = (k, tt)
all_behind (x ∷ t) at h k = (h.0, all_behind t at h.1 k)

abbrev instance_charge : Instance → ℕ
instance_charge at = total element_charge at.module.elements + (1 + trees_in at.actuals)

abbrev charges : List Instance → ℕ
charges t = total instance_charge t

abbrev pub tokens : List Instance → ℕ
tokens t = total (λ at. at.module.tokens) t

-- the list grew by instances that are charged so much more than their tokens
record Grown (t u : List Instance) (more : ℕ) : Type 0 where
  fits : AllWeigh u
  weighs : charges u + tokens t ≤ (charges t + more) + tokens u

same_list : (t : List Instance) (n : ℕ) → AllWeigh t → Grown t t n
same_list t n h = record { fits = h; weighs = omega arith }

then_grown : (t u v : List Instance) (m n : ℕ) → Grown t u m → Grown u v n → Grown t v (m + n)
then_grown t u v m n a b = record { fits = b.fits; weighs = omega (arith, a.weighs, b.weighs) }

none_grown : (t u : List Instance) (n : ℕ) → Grown t u n → Grown t u (0 + n)
none_grown t u n a = record { fits = a.fits; weighs = omega (arith, a.weighs) }

abbrev Keeps : (Instance → List Instance → List Instance) → Type 0
Keeps g = (at : Instance) (t : List Instance) → Weighs at.module → AllWeigh t → Grown t (g at t) (1 + trees_in at.actuals)

abbrev ChildFits : Trees → Option Instance → Type 0
ChildFits es None = Unit {0}
ChildFits es (Some at) = Weighs at.module × (trees_in at.actuals ≡ trees_in es)

placed_fits : (i : ℕ) (path x m : List ℕ) (es : Trees) (ms : List PlainModule) → AllByRecursion Weighs ms → ChildFits es (placed i path x es (module_named ms m))
placed_fits i path x m es [] h = tt
placed_fits i path x m es (p ∷ ms) h = by (placed_fits i path x m es ms h.1) (bytes_eq p.name m)
  where
    by : ChildFits es (placed i path x es (module_named ms m)) → (b : Bool) → ChildFits es (placed i path x es (if b then Some p else module_named ms m))
    by ih true = (h.0, refl)
    by ih false = ih

child_grown : (g : Instance → List Instance → List Instance) → Keeps g → (es : Trees) (o : Option Instance) → ChildFits es o → (t : List Instance) → AllWeigh t → Grown t (with_child g o t) (1 + trees_in es)
child_grown g k es None c t h = same_list t (1 + trees_in es) h
child_grown g k es (Some at) c t h =
    let r = k at t c.0 h in
    let e = c.1 in
    record { fits = r.fits; weighs = omega (arith, r.weighs, e) }

domain_grown : (g : Instance → List Instance → List Instance) → Keeps g → (ms : List PlainModule) → AllByRecursion Weighs ms → (i : ℕ) (path x : List ℕ) (d : PlainDomain) (t : List Instance) → AllWeigh t
    → Grown t (with_child g (child_in ms i path x d) t) (domain_given d)
domain_grown g k ms p i path x (instance m es) t h = child_grown g k es (placed i path x es (module_named ms m)) (placed_fits i path x m es ms p) t h
domain_grown g k ms p i path x boolean t h = same_list t 0 h
domain_grown g k ms p i path x (members xs) t h = same_list t 0 h
domain_grown g k ms p i path x (between low high) t h = same_list t 0 h
domain_grown g k ms p i path x (bits n) t h = same_list t 0 h

items_grown : (g : Instance → List Instance → List Instance) → Keeps g → (ms : List PlainModule) → AllByRecursion Weighs ms → (i : ℕ) (path : List ℕ) (items : List PlainItem) (t : List Instance) → AllWeigh t
    → Grown t (grow_items g ms i path items t) (items_given items)
items_grown g k ms p i path [] t h = same_list t 0 h
items_grown g k ms p i path (v ∷ items) t h =
    let a = domain_grown g k ms p i path v.name v.domain t h in
    let b = items_grown g k ms p i path items (with_child g (child_of ms i path v) t) a.fits in
    then_grown t (with_child g (child_of ms i path v) t) _ (domain_given v.domain) (items_given items) a b

elements_grown : (g : Instance → List Instance → List Instance) → Keeps g → (ms : List PlainModule) → AllByRecursion Weighs ms → (i : ℕ) (path : List ℕ) (es : List PlainElement) (t : List Instance) → AllWeigh t
    → Grown t (grow_elements g ms i path es t) (total element_given es)
elements_grown g k ms p i path [] t h = same_list t 0 h
elements_grown g k ms p i path (vars kind items ∷ es) t h =
    let a = items_grown g k ms p i path items t h in
    let b = elements_grown g k ms p i path es (grow_items g ms i path items t) a.fits in
    then_grown t (grow_items g ms i path items t) _ (items_given items) (total element_given es) a b
elements_grown g k ms p i path (defines ds ∷ es) t h = none_grown t _ (total element_given es) (elements_grown g k ms p i path es t h)
elements_grown g k ms p i path (constants cs ∷ es) t h = none_grown t _ (total element_given es) (elements_grown g k ms p i path es t h)
elements_grown g k ms p i path (assigns xs ∷ es) t h = none_grown t _ (total element_given es) (elements_grown g k ms p i path es t h)
elements_grown g k ms p i path (init e ∷ es) t h = none_grown t _ (total element_given es) (elements_grown g k ms p i path es t h)
elements_grown g k ms p i path (trans e ∷ es) t h = none_grown t _ (total element_given es) (elements_grown g k ms p i path es t h)
elements_grown g k ms p i path (invar e ∷ es) t h = none_grown t _ (total element_given es) (elements_grown g k ms p i path es t h)
elements_grown g k ms p i path (spec l e ∷ es) t h = none_grown t _ (total element_given es) (elements_grown g k ms p i path es t h)

grow_keeps : (ms : List PlainModule) → AllByRecursion Weighs ms → (n : ℕ) → Keeps (grow n ms)
unfolding grow
grow_keeps ms p zero at t e h = same_list t (1 + trees_in at.actuals) h
grow_keeps ms p (suc n) at t e h =
    let u = t ++ at ∷ [] in
    let r = elements_grown (grow n ms) (grow_keeps ms p n) ms p (length t) at.path at.module.elements u (all_behind t at h e) in
    let c = total_append instance_charge t (at ∷ []) in
    let d = total_append (λ (x : Instance). x.module.tokens) t (at ∷ []) in
    record { fits = r.fits; weighs = omega (arith, r.weighs, c, d, e) }

named_weigh : (ms all : List PlainModule) (m : List ℕ) → AllByRecursion Weighs all → AllByRecursion Weighs ms → charges (grown_from all (module_named ms m)) ≤ 1 + tokens (grown_from all (module_named ms m))
named_weigh [] all m p h = omega arith
named_weigh (q ∷ ms) all m p h = by (named_weigh ms all m p h.1) (bytes_eq q.name m)
  where
    by : charges (grown_from all (module_named ms m)) ≤ 1 + tokens (grown_from all (module_named ms m)) → (b : Bool)
        → charges (grown_from all (if b then Some q else module_named ms m)) ≤ 1 + tokens (grown_from all (if b then Some q else module_named ms m))
    by ih true = let r = grow_keeps all p (length all) (main_instance q) [] h.0 tt in omega (arith, r.weighs)
    by ih false = ih

charges_weigh : (source : PlainSource) (xs : List Token) → SpellsModules source.modules xs → charges (instances_of source) ≤ 1 + weight_of source
charges_weigh source xs s =
    let m = spelled_weigh s in
    let w = named_weigh source.modules source.modules main_name m m in
    let e = total_is (λ (x : Instance). x.module.tokens) (instances_of source) in
    omega (arith, w, e)

-- ---- what is counted is charged

instances_charged : (t : List Instance) → length t ≤ charges t
instances_charged [] = omega arith
instances_charged (at ∷ t) = let i = instances_charged t in omega (arith, i)

content_length : (i : ℕ) (x : List ℕ) (o : Option Content) → length (with_content i x o) ≤ 1
content_length i x None = omega arith
content_length i x (Some c) = omega arith

actual_items_length : (i j : ℕ) (qs : List Parameter) (es : Trees) → length (actual_items i j qs es) ≤ trees_in es
actual_items_length i j [] es = omega arith
actual_items_length i j (q ∷ qs) no_trees = omega arith
actual_items_length i j (q ∷ qs) (tree e es) =
    let a = content_length i q.name (actual_content j e) in
    let r = actual_items_length i j qs es in
    let l = length-append (with_content i q.name (actual_content j e)) (actual_items i j qs es) in
    omega (arith, a, r, l)

variable_items_length : (i : ℕ) (kind : VarKind) (items : List PlainItem) → length (flat_map (variable_item i kind) items) ≤ total item_charge items
variable_items_length i kind [] = omega arith
variable_items_length i kind (v ∷ items) =
    let a = content_length i v.name (domain_content kind v.domain) in
    let r = variable_items_length i kind items in
    let l = length-append (variable_item i kind v) (flat_map (variable_item i kind) items) in
    omega (arith, a, r, l)

element_items_length : (i : ℕ) (e : PlainElement) → length (element_items i e) ≤ element_charge e
element_items_length i (vars kind items) = variable_items_length i kind items
element_items_length i (defines ds) = let l = length-map ds (definition_item i) in omega (arith, l)
element_items_length i (constants names) = omega arith
element_items_length i (assigns xs) = omega arith
element_items_length i (init e) = omega arith
element_items_length i (trans e) = omega arith
element_items_length i (invar e) = omega arith
element_items_length i (spec label e) = omega arith

-- over the elements of a module
each_length : {X : Type 0} (f : PlainElement → List X) → ((e : PlainElement) → length (f e) ≤ element_charge e) → (es : List PlainElement) → length (flat_map f es) ≤ total element_charge es
each_length f h [] = omega arith
each_length f h (e ∷ es) =
    let a = h e in
    let r = each_length f h es in
    let l = length-append (f e) (flat_map f es) in
    omega (arith, a, r, l)

-- and over all instances
over_length : {X : Type 0} (f : ℕ → Instance → List X) → ((i : ℕ) (at : Instance) → length (f i at) ≤ instance_charge at) → (i : ℕ) (t : List Instance) → length (over_instances f i t) ≤ charges t
over_length f h i [] = omega arith
over_length f h i (at ∷ t) =
    let a = h i at in
    let r = over_length f h (i + 1) t in
    let l = length-append (f i at) (over_instances f (i + 1) t) in
    omega (arith, a, r, l)

items_charged : (i : ℕ) (at : Instance) → length (items_here i at) ≤ instance_charge at
items_charged i at =
    let a = actual_items_length i (parent_of at) at.module.parameters at.actuals in
    let e = each_length (element_items i) (element_items_length i) at.module.elements in
    let l = length-append (actual_items i (parent_of at) at.module.parameters at.actuals) (flat_map (element_items i) at.module.elements) in
    omega (arith, a, e, l)

element_invariants_length : (i : ℕ) (e : PlainElement) → length (element_invariants i e) ≤ element_charge e
element_invariants_length i (vars kind items) = omega arith
element_invariants_length i (defines ds) = omega arith
element_invariants_length i (constants names) = omega arith
element_invariants_length i (assigns xs) = omega arith
element_invariants_length i (init e) = omega arith
element_invariants_length i (trans e) = omega arith
element_invariants_length i (invar e) = omega arith
element_invariants_length i (spec label e) = omega arith

invariants_charged : (i : ℕ) (at : Instance) → length (flat_map (element_invariants i) at.module.elements) ≤ instance_charge at
invariants_charged i at = let e = each_length (element_invariants i) (element_invariants_length i) at.module.elements in omega (arith, e)

item_symbols_length : (items : List PlainItem) → length (flat_map (λ (v : PlainItem). domain_symbols v.domain) items) ≤ total item_charge items
item_symbols_length [] = omega arith
item_symbols_length (v ∷ items) =
    let r = item_symbols_length items in
    let l = length-append (domain_symbols v.domain) (flat_map (λ (x : PlainItem). domain_symbols x.domain) items) in
    omega (arith, r, l)

element_symbols_length : (e : PlainElement) → length (element_symbols e) ≤ element_charge e
element_symbols_length (vars kind items) = item_symbols_length items
element_symbols_length (defines ds) = omega arith
element_symbols_length (constants names) = omega arith
element_symbols_length (assigns xs) = omega arith
element_symbols_length (init e) = omega arith
element_symbols_length (trans e) = omega arith
element_symbols_length (invar e) = omega arith
element_symbols_length (spec label e) = omega arith

symbols_charged : (t : List Instance) → length (flat_map (λ (at : Instance). flat_map element_symbols at.module.elements) t) ≤ charges t
symbols_charged [] = omega arith
symbols_charged (at ∷ t) =
    let a = each_length element_symbols element_symbols_length at.module.elements in
    let r = symbols_charged t in
    let l = length-append (flat_map element_symbols at.module.elements) (flat_map (λ (x : Instance). flat_map element_symbols x.module.elements) t) in
    omega (arith, a, r, l)

gathered_length : (seen xs : List (List ℕ)) → length (gathered seen xs) ≤ length seen + length xs
gathered_length seen [] = omega arith
gathered_length seen (x ∷ xs) =
    let i = gathered_length (if is_one_of seen x then seen else seen ++ x ∷ []) xs in
    let s = by (is_one_of seen x) in
    omega (arith, i, s)
  where
    by : (b : Bool) → length (if b then seen else seen ++ x ∷ []) ≤ suc (length seen)
    by true = omega arith
    by false = let l = length-append seen (x ∷ []) in omega (arith, l)

-- ---- accepted models

pub all_last : (cs ds : List Check) → passes (cs ++ ds) ≡ true → passes ds ≡ true
all_last cs ds h = (both_true (passes cs) (passes ds) (sym (list_all-append (λ (c : Check). c.holds) cs ds) ∙ h)).1

pub all_first : (cs ds : List Check) → passes (cs ++ ds) ≡ true → passes cs ≡ true
all_first cs ds h = (both_true (passes cs) (passes ds) (sym (list_all-append (λ (c : Check). c.holds) cs ds) ∙ h)).0

-- a model whose sizes are checked is not too heavy
sized_fits : (source : PlainSource) → passes (size_checks source) ≡ true → weight_of source ≤ most_tokens
sized_fits source h =
    let t = instances_of source in
    leb-true (weight_of source) most_tokens (both_true (nat_le (weight_of source) most_tokens) (passes (symbol_checks t (slice_get t 0))) h).0

-- and the sizes of an accepted model are
sizes_hold : (source : PlainSource) (needed : ℕ) → IsAccepted source needed → passes (size_checks source) ≡ true
sizes_hold source needed h =
    let t = instances_of source in
    let last = check 27 source.end (nat_lt needed (length (invariants_in t))) ∷ [] in
    let before = module_checks source ++ declaration_checks source.modules t 0 1 t in
    let a = all_first (before ++ size_checks source ++ later_checks t) last h in
    let b = all_first (before ++ size_checks source) (later_checks t) a in
    all_last before (size_checks source) b

pub weight_fits : (source : PlainSource) (needed : ℕ) → IsAccepted source needed → weight_of source ≤ most_tokens
weight_fits source needed h = sized_fits source (sizes_hold source needed h)

pub are_few : (source : PlainSource) (end : Place) (xs : List Token) → SpellsSource source end xs → passes (size_checks source) ≡ true → AreFew (instances_of source)
are_few source end xs s h =
    let t = instances_of source in
    let w = sized_fits source h in
    let c = charges_weigh source xs s.0 in
    let n = instances_charged t in
    let m = over_length items_here items_charged 0 t in
    let v = over_length (λ i (at : Instance). flat_map (element_invariants i) at.module.elements) invariants_charged 0 t in
    let y = symbols_charged t in
    let g = gathered_length [] (flat_map (λ (at : Instance). flat_map element_symbols at.module.elements) t) in
    record {
      instances = omega (arith, w, c, n);
      items = omega (arith, w, c, m);
      symbols = omega (arith, w, c, y, g);
      invariants = omega (arith, w, c, v);
      tokens = omega (arith, w);
    }
