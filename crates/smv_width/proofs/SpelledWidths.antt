-- In a spelled model each chain has an operator, and an expression of an instance is one of the model's.
use Rattle.std.proofs.Common.{◌≡◌, ℕ, zero, suc, Bool, true, false, ◌&&◌, if◌then◌else◌, List, [], ◌∷◌, ◌++◌, length, Option, Some, None, bytes_eq, refl, sym, ap, ◌∙◌}
use Rattle.std.specs.Prelude.{flat_map}
use Rattle.std.specs.List.{list_all}
use Rattle.std.proofs.lemmas.List.Folds.{list_all-append}
use Rattle.smv_text.specs.declared.token.Token.{Token}
use Rattle.smv_text.specs.declared.token.Sign.{Sign}
use Rattle.smv_text.specs.declared.tree.VarKind.{VarKind}
use Rattle.smv_text.specs.declared.level.OperatorClass.{OperatorClass}
use Rattle.smv_text.specs.declared.level.Level.{Level}
use Rattle.smv_text.specs.Tree.{Tree, Links, Branches, Trees, PlainDomain, boolean, members, between, bits, instance, PlainItem, PlainDefinition, PlainAssignment, PlainElement, vars, defines, constants, assigns, init, trans, invar, spec, PlainModule, PlainSource}
use Rattle.smv_text.specs.Grammar.{Spells, pass, chains, chooses, ranges, prefixes, selects, is_true, is_false, numbers, literals, names, brackets, nexts, calls, sets, switches, SpellsLinks, no_more, one_more, SpellsBranches, otherwise, picks, SpellsListed, last_one, one_before, SpellsCases, last_case, case_before}
use Rattle.smv_text.specs.Heights.{list_of, of_domain, of_items, of_definitions, of_assignments, of_element}
use Rattle.smv_text.specs.Sources.{SpellsActuals, no_actuals, empty_actuals, actuals, SpellsDomain, types, instances, SpellsType, booleans, enumerations, intervals, words, SpellsItems, no_items, item_then, SpellsDefinitions, no_definitions, definition_then, SpellsAssignments, no_assignments, assignment_then, SpellsElement, variables, definitions, symbol_names, assignments, inits, transitions, invariants, specifications, SpellsElements, no_elements, element_then, SpellsModules, no_modules, module_then}
use Rattle.smv_meaning.specs.Instances.{Instance, module_named, placed, child_in, child_of, with_child, grow_items, grow_elements, grow, main_instance, grown_from, main_name, instances_of}
use Rattle.smv_meaning.specs.Checked.{instance_all, all_trees}
use Rattle.smv_meaning.specs.Parts.{expressions_in}
use Rattle.smv_meaning.specs.laws.Booleans.{both_true, two_true}
use Rattle.smv_width.specs.SourceWidth.{has_operators, link_operators, branch_operators, part_operators}

-- ---- expressions

mutual
  spelled_operators : {levels : List Level} {t : Tree} {xs : List Token} → Spells levels t xs → has_operators t ≡ true
  spelled_operators (pass s) = spelled_operators s
  spelled_operators (chains s ls) = two_true _ _ (spelled_operators s) (spelled_links ls)
  spelled_operators (chooses bs) = spelled_branches bs
  spelled_operators (ranges a dots b c) = refl
  spelled_operators (prefixes a s) = spelled_operators s
  spelled_operators (selects s opening first colon last closing a b c d e) = spelled_operators s
  spelled_operators (is_true x a) = refl
  spelled_operators (is_false x a) = refl
  spelled_operators (numbers x a) = refl
  spelled_operators (literals x a) = refl
  spelled_operators (names a) = refl
  spelled_operators (brackets opening a s closing b) = spelled_operators s
  spelled_operators (nexts x a opening b s closing c) = spelled_operators s
  spelled_operators (calls x a opening b l) = spelled_parts l
  spelled_operators (sets opening a l) = spelled_parts l
  spelled_operators (switches x a c) = spelled_cases c

  spelled_links : {c : OperatorClass} {below : List Level} {ls : Links} {xs : List Token} → SpellsLinks c below ls xs → link_operators ls ≡ true
  spelled_links no_more = refl
  spelled_links (one_more x a s ls) = two_true _ _ (spelled_operators s) (spelled_links ls)

  spelled_branches : {below : List Level} {bs : Branches} {t : Tree} {xs : List Token} → SpellsBranches below bs t xs → (branch_operators bs && has_operators t) ≡ true
  spelled_branches (otherwise s) = spelled_operators s
  spelled_branches (picks a question b c colon d rest) =
      let r = both_true _ _ (spelled_branches rest) in
      two_true _ _ (two_true _ _ (spelled_operators a) (two_true _ _ (spelled_operators c) r.0)) r.1

  spelled_parts : {s : Sign} {ts : Trees} {xs : List Token} → SpellsListed s ts xs → part_operators ts ≡ true
  spelled_parts (last_one s closing a) = two_true _ _ (spelled_operators s) refl
  spelled_parts (one_before s comma a rest) = two_true _ _ (spelled_operators s) (spelled_parts rest)

  spelled_cases : {bs : Branches} {xs : List Token} → SpellsCases bs xs → branch_operators bs ≡ true
  spelled_cases (last_case a colon b c semicolon d esac e) = two_true _ _ (spelled_operators a) (two_true _ _ (spelled_operators c) refl)
  spelled_cases (case_before a colon b c semicolon d rest) = two_true _ _ (spelled_operators a) (two_true _ _ (spelled_operators c) (spelled_cases rest))

-- ---- the expressions of modules

pub append_all : (test : Tree → Bool) (xs ys : List Tree) → list_all test xs ≡ true → list_all test ys ≡ true → list_all test (xs ++ ys) ≡ true
append_all test xs ys h k = list_all-append test xs ys ∙ two_true (list_all test xs) (list_all test ys) h k

listed_operators : {s : Sign} {ts : Trees} {xs : List Token} → SpellsListed s ts xs → list_all has_operators (list_of ts) ≡ true
listed_operators (last_one s closing a) = two_true _ _ (spelled_operators s) refl
listed_operators (one_before s comma a rest) = two_true _ _ (spelled_operators s) (listed_operators rest)

spelled_actuals : {ts : Trees} {xs : List Token} → SpellsActuals ts xs → list_all has_operators (list_of ts) ≡ true
spelled_actuals no_actuals = refl
spelled_actuals (empty_actuals opening closing a b) = refl
spelled_actuals (actuals opening a l) = listed_operators l

spelled_type : {d : PlainDomain} {xs : List Token} → SpellsType d xs → list_all has_operators (of_domain d) ≡ true
spelled_type (booleans x a) = refl
spelled_type (enumerations opening a b c closing d) = refl
spelled_type (intervals a dots b c) = refl
spelled_type (words a x opening width closing b c d e) = refl

spelled_domain : {k : VarKind} {d : PlainDomain} {xs : List Token} → SpellsDomain k d xs → list_all has_operators (of_domain d) ≡ true
spelled_domain (types s) = spelled_type s
spelled_domain (instances x a s) = spelled_actuals s

spelled_items : {k : VarKind} {items : List PlainItem} {xs : List Token} → SpellsItems k items xs → list_all has_operators (of_items items) ≡ true
spelled_items no_items = refl
spelled_items (item_then {d} {is} x colon a b s semicolon c rest) = append_all has_operators (of_domain d) (of_items is) (spelled_domain s) (spelled_items rest)

spelled_definitions : {ds : List PlainDefinition} {xs : List Token} → SpellsDefinitions ds xs → list_all has_operators (of_definitions ds) ≡ true
spelled_definitions no_definitions = refl
spelled_definitions (definition_then x assign a b s semicolon c rest) = two_true _ _ (spelled_operators s) (spelled_definitions rest)

spelled_assignments : {rest : List PlainAssignment} {xs : List Token} → SpellsAssignments rest xs → list_all has_operators (of_assignments rest) ≡ true
spelled_assignments no_assignments = refl
spelled_assignments (assignment_then target assign a s semicolon b rest) = two_true _ _ (spelled_operators s) (spelled_assignments rest)

abbrev pub element_all : (Tree → Bool) → PlainElement → Bool
element_all test e = list_all test (of_element e)

abbrev pub module_all : (Tree → Bool) → PlainModule → Bool
module_all test m = list_all (element_all test) m.elements

spelled_element : {e : PlainElement} {xs : List Token} → SpellsElement e xs → element_all has_operators e ≡ true
spelled_element (variables x a s) = spelled_items s
spelled_element (definitions x a s) = spelled_definitions s
spelled_element (symbol_names x first a b s semicolon c) = refl
spelled_element (assignments x a s) = spelled_assignments s
spelled_element (inits x a s o) = two_true _ _ (spelled_operators s) refl
spelled_element (transitions x a s o) = two_true _ _ (spelled_operators s) refl
spelled_element (invariants x a s o) = two_true _ _ (spelled_operators s) refl
spelled_element (specifications x a l s o) = two_true _ _ (spelled_operators s) refl

spelled_elements : {es : List PlainElement} {xs : List Token} → SpellsElements es xs → list_all (element_all has_operators) es ≡ true
spelled_elements no_elements = refl
spelled_elements (element_then s rest) = two_true _ _ (spelled_element s) (spelled_elements rest)

spelled_modules : {ms : List PlainModule} {xs : List Token} → SpellsModules ms xs → list_all (module_all has_operators) ms ≡ true
spelled_modules no_modules = refl
spelled_modules (module_then x identifier a b f es rest) = two_true _ _ (spelled_elements es) (spelled_modules rest)

-- ---- what holds of each expression of a model's modules holds of each one of its instances

abbrev pub Good : (Tree → Bool) → Instance → Type 0
Good test at = (list_all test (list_of at.actuals) ≡ true) × (module_all test at.module ≡ true)

abbrev pub IsGood : (Tree → Bool) → Option Instance → Type 0
IsGood test None = Unit {0}
IsGood test (Some at) = Good test at

abbrev pub AllGood : (Tree → Bool) → List Instance → Type 0
AllGood test t = list_all (instance_all test) t ≡ true

abbrev pub Keeps : (Tree → Bool) → (Instance → List Instance → List Instance) → Type 0
Keeps test g = (at : Instance) (t : List Instance) → Good test at → AllGood test t → AllGood test (g at t)

pub expressions_all : (test : Tree → Bool) (es : List PlainElement) → list_all (element_all test) es ≡ true → list_all test (flat_map expressions_in es) ≡ true
expressions_all test [] h = refl
expressions_all test (vars kind items ∷ es) h = expressions_all test es (both_true _ (list_all (element_all test) es) h).1
expressions_all test (defines ds ∷ es) h = let s = both_true (list_all test (of_definitions ds)) (list_all (element_all test) es) h in append_all test (of_definitions ds) (flat_map expressions_in es) s.0 (expressions_all test es s.1)
expressions_all test (constants cs ∷ es) h = expressions_all test es h
expressions_all test (assigns xs ∷ es) h = let s = both_true (list_all test (of_assignments xs)) (list_all (element_all test) es) h in append_all test (of_assignments xs) (flat_map expressions_in es) s.0 (expressions_all test es s.1)
expressions_all test (init e ∷ es) h = let s = both_true (list_all test (e ∷ [])) (list_all (element_all test) es) h in append_all test (e ∷ []) (flat_map expressions_in es) s.0 (expressions_all test es s.1)
expressions_all test (trans e ∷ es) h = let s = both_true (list_all test (e ∷ [])) (list_all (element_all test) es) h in append_all test (e ∷ []) (flat_map expressions_in es) s.0 (expressions_all test es s.1)
expressions_all test (invar e ∷ es) h = let s = both_true (list_all test (e ∷ [])) (list_all (element_all test) es) h in append_all test (e ∷ []) (flat_map expressions_in es) s.0 (expressions_all test es s.1)
expressions_all test (spec l e ∷ es) h = let s = both_true (list_all test (e ∷ [])) (list_all (element_all test) es) h in append_all test (e ∷ []) (flat_map expressions_in es) s.0 (expressions_all test es s.1)

pub good_instance : (test : Tree → Bool) (at : Instance) → Good test at → instance_all test at ≡ true
good_instance test at g = two_true _ _ g.0 (expressions_all test at.module.elements g.1)

pub placed_good : (test : Tree → Bool) (i : ℕ) (path x m : List ℕ) (given : Trees) (ms : List PlainModule) → list_all (module_all test) ms ≡ true → list_all test (list_of given) ≡ true
    → IsGood test (placed i path x given (module_named ms m))
placed_good test i path x m given [] h k = tt
placed_good test i path x m given (p ∷ ms) h k =
    let s = both_true (module_all test p) (list_all (module_all test) ms) h in
    by (placed_good test i path x m given ms s.1 k) s.0 (bytes_eq p.name m)
  where
    by : IsGood test (placed i path x given (module_named ms m)) → module_all test p ≡ true → (b : Bool) → IsGood test (placed i path x given (if b then Some p else module_named ms m))
    by ih e true = (k, e)
    by ih e false = ih

pub child_good : (test : Tree → Bool) (ms : List PlainModule) → list_all (module_all test) ms ≡ true → (i : ℕ) (path x : List ℕ) (d : PlainDomain) → list_all test (of_domain d) ≡ true → IsGood test (child_in ms i path x d)
child_good test ms h i path x (instance m given) k = placed_good test i path x m given ms h k
child_good test ms h i path x boolean k = tt
child_good test ms h i path x (members xs) k = tt
child_good test ms h i path x (between low high) k = tt
child_good test ms h i path x (bits n) k = tt

pub with_good : (test : Tree → Bool) (g : Instance → List Instance → List Instance) → Keeps test g → (o : Option Instance) (t : List Instance) → IsGood test o → AllGood test t → AllGood test (with_child g o t)
with_good test g k None t o h = h
with_good test g k (Some at) t o h = k at t o h

pub items_good : (test : Tree → Bool) (g : Instance → List Instance → List Instance) → Keeps test g → (ms : List PlainModule) → list_all (module_all test) ms ≡ true → (i : ℕ) (path : List ℕ) (items : List PlainItem) (t : List Instance)
    → list_all test (of_items items) ≡ true → AllGood test t → AllGood test (grow_items g ms i path items t)
items_good test g k ms p i path [] t o h = h
items_good test g k ms p i path (v ∷ items) t o h =
    let s = both_true (list_all test (of_domain v.domain)) (list_all test (of_items items)) (sym (list_all-append test (of_domain v.domain) (of_items items)) ∙ o) in
    items_good test g k ms p i path items (with_child g (child_of ms i path v) t) s.1 (with_good test g k (child_of ms i path v) t (child_good test ms p i path v.name v.domain s.0) h)

pub elements_good : (test : Tree → Bool) (g : Instance → List Instance → List Instance) → Keeps test g → (ms : List PlainModule) → list_all (module_all test) ms ≡ true → (i : ℕ) (path : List ℕ) (es : List PlainElement) (t : List Instance)
    → list_all (element_all test) es ≡ true → AllGood test t → AllGood test (grow_elements g ms i path es t)
elements_good test g k ms p i path [] t o h = h
elements_good test g k ms p i path (vars kind items ∷ es) t o h =
    let s = both_true (list_all test (of_items items)) (list_all (element_all test) es) o in
    elements_good test g k ms p i path es (grow_items g ms i path items t) s.1 (items_good test g k ms p i path items t s.0 h)
elements_good test g k ms p i path (defines ds ∷ es) t o h = elements_good test g k ms p i path es t (both_true _ (list_all (element_all test) es) o).1 h
elements_good test g k ms p i path (constants cs ∷ es) t o h = elements_good test g k ms p i path es t o h
elements_good test g k ms p i path (assigns xs ∷ es) t o h = elements_good test g k ms p i path es t (both_true _ (list_all (element_all test) es) o).1 h
elements_good test g k ms p i path (init e ∷ es) t o h = elements_good test g k ms p i path es t (both_true _ (list_all (element_all test) es) o).1 h
elements_good test g k ms p i path (trans e ∷ es) t o h = elements_good test g k ms p i path es t (both_true _ (list_all (element_all test) es) o).1 h
elements_good test g k ms p i path (invar e ∷ es) t o h = elements_good test g k ms p i path es t (both_true _ (list_all (element_all test) es) o).1 h
elements_good test g k ms p i path (spec l e ∷ es) t o h = elements_good test g k ms p i path es t (both_true _ (list_all (element_all test) es) o).1 h

pub grow_good : (test : Tree → Bool) (ms : List PlainModule) → list_all (module_all test) ms ≡ true → (n : ℕ) → Keeps test (grow n ms)
unfolding grow
grow_good test ms p zero at t e h = h
grow_good test ms p (suc n) at t e h =
    elements_good test (grow n ms) (grow_good test ms p n) ms p (length t) at.path at.module.elements (t ++ at ∷ []) e.1
    (list_all-append (instance_all test) t (at ∷ []) ∙ two_true _ _ h (two_true _ _ (good_instance test at e) refl))

pub named_good : (test : Tree → Bool) (ms : List PlainModule) (m : List ℕ) → list_all (module_all test) ms ≡ true → (o : Option PlainModule) → o ≡ module_named ms m → AllGood test (grown_from ms o)
named_good test ms m p None e = refl
named_good test ms m p (Some q) e = grow_good test ms p (length ms) (main_instance q) [] (refl, there ms p (sym e)) refl
  where
    there : (ns : List PlainModule) → list_all (module_all test) ns ≡ true → module_named ns m ≡ Some q → module_all test q ≡ true
    there [] h s = cc
    there (n ∷ ns) h s = pick (both_true (module_all test n) (list_all (module_all test) ns) h).0 (λ g. there ns (both_true (module_all test n) (list_all (module_all test) ns) h).1 g) (bytes_eq n.name m) s
      where
        pick : module_all test n ≡ true → (module_named ns m ≡ Some q → module_all test q ≡ true) → (b : Bool) → (if b then Some n else module_named ns m) ≡ Some q → module_all test q ≡ true
        pick a ih true g = let s : n ≡ q = cc in ap (module_all test) (sym s) ∙ a
        pick a ih false g = ih g

pub instances_operators : (source : PlainSource) (xs : List Token) → SpellsModules source.modules xs → all_trees has_operators (instances_of source) ≡ true
instances_operators source xs s = named_good has_operators source.modules main_name (spelled_modules s) (module_named source.modules main_name) refl
