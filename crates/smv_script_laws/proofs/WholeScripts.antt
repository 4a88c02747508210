-- The script of a spelled and accepted model is valid.
use Rattle.std.proofs.Common.{◌≡◌, ℕ, suc, ◌+◌, ◌≤◌, ◌<◌, ◌^◌, Bool, true, false, ◌||◌, nat_le, List, [], ◌∷◌, ◌++◌, map, drop, length, decimal, Option, Some, None, is_some, is_none, refl, sym, ap, ◌∙◌, subst, arith, append-nil}
use Rattle.std.specs.Prelude.{slice_get, codes}
use Rattle.std.specs.List.{AllByRecursion, list_any, list_all}
use Rattle.std.specs.Str.{bytes_eq}
use Rattle.std.proofs.lemmas.Bool.{leb-true}
use Rattle.std.proofs.lemmas.Fmt.{decimal_injective}
use Rattle.word_core.specs.declared.word.TheConstants.{WIDEST}
use Rattle.digraph.proofs.Sorting.{never_returns}
use Rattle.text_core.specs.declared.place.Place.{Place}
use Rattle.smv_text.specs.declared.token.Token.{Token}
use Rattle.smv_text.specs.Lexing.{Lexes}
use Rattle.smv_text.specs.declared.tree.When.TheVariants.{Always, First, Following}
use Rattle.smv_text.specs.Tree.{PlainSource}
use Rattle.smv_text.specs.Sources.{SpellsSource}
use Rattle.smv_meaning.specs.Instances.{Instance, instances_of, weight_of}
use Rattle.smv_meaning.specs.Checked.{instance_all, path_checks_of, type_checks_of}
use Rattle.smv_meaning.specs.Names.{found_in}
use Rattle.smv_meaning.specs.Phases.{IsAccepted, over_instances, module_checks, declaration_checks, size_checks, later_checks, assignment_checks, most_tokens}
use Rattle.smv_meaning.specs.Settled.{Acyclic, cycle_checks_of}
use Rattle.smv_meaning.specs.laws.Booleans.{both_true}
use Rattle.smv_laws.proofs.Typable.{split}
use Rattle.smv_laws.proofs.CheckedLaws.{Checked, AllTyped, checked_at, all_given, all_typed}
use Rattle.smv_laws.proofs.FoundLaws.{there}
use Rattle.smv_laws.proofs.SafeExpressions.{accepted_is_checked_law, acyclic}
use Rattle.smv_accepted.proofs.Literals.{words_fit_law}
use Rattle.smv_items.specs.FlatItems.{origins_of, symbols_of}
use Rattle.smv_flat.specs.FlatTree.{FlatTree}
use Rattle.smv_flat.specs.FlatForms.{Form, forms_of, flat_of, flat_smv}
use Rattle.smv_flat.specs.FlatTruth.{forms_invariants}
use Rattle.smv_flat_laws.proofs.FlatTruths.{assigned_here}
use Rattle.smv_flat_laws.proofs.FlatLaw.{all_assignable}
use Rattle.smv_flat.specs.FlatWidth.{tree_width, width_of}
use Rattle.smv_width.specs.SourceWidth.{has_operators}
use Rattle.smv_width.proofs.SpelledWidths.{instances_operators}
use Rattle.smv_accepted.proofs.ItemNames.{names_differ_law}
use Rattle.smv_accepted.proofs.Widths.{width_is_small_law}
use Rattle.moxi_terms.specs.declared.term.Enumeration.{Enumeration}
use Rattle.moxi_terms.specs.Words.{operators, indexed_operators, is_operator}
use Rattle.moxi_terms.specs.Names.{all_constants, enumeration_names, function_names, is_among, is_term_name, sort_names}
use Rattle.name_maps.specs.Names.{place_of, are_fresh}
use Rattle.moxi_terms.specs.View.{ScopeState}
use Rattle.moxi_term_print.specs.Terms.{variable_names}
use Rattle.moxi_scripts.specs.Valid.{is_fixed_sort, is_fixed_term, AreNames, AreVariables, IsValidScope, IsValidSystem, AreValidSystems, formula_names, IsValidQuery, query_names, IsValidCheck, IsValid}
use Rattle.moxi_scripts.specs.laws.WholeNames.{is_absent}
use Rattle.smv_script.specs.Script.{symbol_sort, system_of, reachables_from, queries_from, check_of, coding_of, script_of}
use Rattle.smv_script.specs.Terms.{Coding}
use Rattle.smv_script_laws.proofs.Weights.{counts_by_weight}
use Rattle.smv_script_laws.specs.PlaceLaws.{all_variables}
use Rattle.smv_script_laws.proofs.Leaves.{ItemsDiffer}
use Rattle.smv_script_laws.proofs.SortedVariables.{IsFree, all_free, variables_differ}
use Rattle.smv_script_laws.proofs.Constants.{constant_of, constants_apart}
use Rattle.smv_script_laws.proofs.Sorts.{variables_sorts}
use Rattle.smv_script_laws.proofs.SortLaws.{width_some}
use Rattle.smv_script_laws.specs.ValidLaws.{ScriptsAreValid}
use Rattle.smv_script_laws.proofs.PrintedForms.{AreRoles, AreTyped, IsRole, items_typed, forms_roles}
use Rattle.smv_script_laws.proofs.WholeParts.{IsReady, formula_stands, reachables_formulas, forms_low, both_all}
use Rattle.name_maps.proofs.FreshNames.{AllDiffer, Lacks, all_fresh, all_made, all_mapped}
use Rattle.text_core.proofs.ListLaws.{nothing_there}
use Rattle.digraph.proofs.Lists.{only_node}

-- ---- the scope

constants_nonempty : (symbols : List (List ℕ)) → AllByRecursion (λ (e : Enumeration). 0 < length e.constants) (symbol_sort symbols)
constants_nonempty [] = tt
constants_nonempty (s ∷ ss) = (omega arith, tt)

all_constants_are : (symbols : List (List ℕ)) → all_constants (symbol_sort symbols) ≡ map constant_of symbols
all_constants_are [] = refl
all_constants_are (s ∷ ss) = append-nil (map constant_of (s ∷ ss))

abbrev scope_of : List (List ℕ) → ScopeState
scope_of symbols = record { enumerations = symbol_sort symbols; sorts = []; functions = [] }

sorts_named : (symbols : List (List ℕ)) → AreNames is_fixed_sort (enumeration_names (scope_of symbols) ++ sort_names (scope_of symbols))
sorts_named [] = record { differ = refl; free = tt }
sorts_named (s ∷ ss) = record { differ = refl; free = (refl, tt) }

-- a constant has no fixed name
constant_free : (s : List ℕ) → is_fixed_term (constant_of s) ≡ false
unfolding operators indexed_operators
constant_free s = refl

terms_named : (t : List Instance) → AreNames is_fixed_term (all_constants (symbol_sort (symbols_of t)) ++ function_names (scope_of (symbols_of t)))
terms_named t =
    let e : all_constants (symbol_sort (symbols_of t)) ++ [] ≡ map constant_of (symbols_of t) = append-nil (all_constants (symbol_sort (symbols_of t))) ∙ all_constants_are (symbols_of t) in
    record {
      differ = ap (are_fresh []) e ∙ all_fresh (map constant_of (symbols_of t)) (constants_apart t);
      free = subst (AllByRecursion (λ (name : List ℕ). is_fixed_term name ≡ false)) (sym e)
          (all_mapped (λ (name : List ℕ). is_fixed_term name ≡ false) constant_of (symbols_of t) (all_made (λ (s : List ℕ). is_fixed_term (constant_of s) ≡ false) constant_free (symbols_of t)));
    }

whole_scope : (t : List Instance) → IsValidScope (scope_of (symbols_of t))
whole_scope t = record {
  scope = record { enumerations = constants_nonempty (symbols_of t); sorts = tt; functions = λ n f h. nothing_there n f h };
  sorts = sorts_named (symbols_of t);
  terms = terms_named t;
  functions = λ n f h. nothing_there n f h;
}

-- ---- variables

no_constant : (symbols : List (List ℕ)) (name : List ℕ) → ((s : List ℕ) → bytes_eq name (constant_of s) ≡ false) → list_any (bytes_eq name) (map constant_of symbols) ≡ false
no_constant [] name h = refl
no_constant (s ∷ ss) name h = ap (λ b. b || list_any (bytes_eq name) (map constant_of ss)) (h s) ∙ no_constant ss name h

not_some : (o : Option ℕ) → is_none o ≡ true → is_some o ≡ false
not_some None h = refl
not_some (Some n) h = cc

five_false : (a b c d e : Bool) → a ≡ false → b ≡ false → c ≡ false → d ≡ false → e ≡ false → (a || (b || (c || (d || e)))) ≡ false
five_false true b c d e p q r s u = cc
five_false false true c d e p q r s u = cc
five_false false false true d e p q r s u = cc
five_false false false false true e p q r s u = cc
five_false false false false false e p q r s u = u

free_name : (symbols : List (List ℕ)) (name : List ℕ) → IsFree name → is_term_name (scope_of symbols) name ≡ false
free_name symbols name f =
    five_false (is_operator name) (bytes_eq name (codes "true")) (bytes_eq name (codes "false")) (is_among (all_constants (symbol_sort symbols)) name) (is_among (function_names (scope_of symbols)) name)
    f.no_operator f.true_apart f.false_apart
    (not_some (place_of (all_constants (symbol_sort symbols)) name) (is_absent (all_constants (symbol_sort symbols)) name
    (ap (list_any (bytes_eq name)) (all_constants_are symbols) ∙ no_constant symbols name f.no_constant))) refl

free_names : (symbols : List (List ℕ)) (names : List (List ℕ)) → AllByRecursion IsFree names → AllByRecursion (λ (name : List ℕ). is_term_name (scope_of symbols) name ≡ false) names
free_names symbols [] h = tt
free_names symbols (x ∷ xs) h = (free_name symbols x h.0, free_names symbols xs h.1)

-- ---- names with numbers

numbered_lack : (n j : ℕ) (bs : List FlatTree) (c : Coding) → n < j → j + length bs ≤ 2 ^ 32 → Lacks (formula_names (reachables_from c j bs)) (codes "r." ++ decimal n)
numbered_lack n j [] c l h = tt
numbered_lack n j (b ∷ bs) c l h =
    ((λ e. let s = decimal_injective j n (omega (arith, h)) (omega (arith, h, l)) (ap (drop 2) e) in absurd (omega (arith, l, s))), numbered_lack n (j + 1) bs c (omega (arith, l)) (omega (arith, h)))

reachables_differ : (j : ℕ) (bs : List FlatTree) (c : Coding) → j + length bs ≤ 2 ^ 32 → AllDiffer (formula_names (reachables_from c j bs))
reachables_differ j [] c h = tt
reachables_differ j (b ∷ bs) c h = (numbered_lack j (j + 1) bs c (omega arith) (omega (arith, h)), reachables_differ (j + 1) bs c (omega (arith, h)))

queries_lack : (n j : ℕ) (bs : List FlatTree) → n < j → j + length bs ≤ 2 ^ 32 → Lacks (query_names (queries_from j bs)) (codes "q." ++ decimal n)
queries_lack n j [] l h = tt
queries_lack n j (b ∷ bs) l h =
    ((λ e. let s = decimal_injective j n (omega (arith, h)) (omega (arith, h, l)) (ap (drop 2) e) in absurd (omega (arith, l, s))), queries_lack n (j + 1) bs (omega (arith, l)) (omega (arith, h)))

queries_differ : (j : ℕ) (bs : List FlatTree) → j + length bs ≤ 2 ^ 32 → AllDiffer (query_names (queries_from j bs))
queries_differ j [] h = tt
queries_differ j (b ∷ bs) h = (queries_lack j (j + 1) bs (omega arith) (omega (arith, h)), queries_differ (j + 1) bs (omega (arith, h)))

reachables_long : (c : Coding) (j : ℕ) (bs : List FlatTree) → length (reachables_from c j bs) ≡ length bs
reachables_long c j [] = refl
reachables_long c j (b ∷ bs) = ap suc (reachables_long c (j + 1) bs)

pub queries_long : (j : ℕ) (bs : List FlatTree) → length (queries_from j bs) ≡ length bs
queries_long j [] = refl
queries_long j (b ∷ bs) = ap suc (queries_long (j + 1) bs)

queries_whole : (n j : ℕ) (bs : List FlatTree) → j + length bs ≤ n → AllByRecursion (IsValidQuery 0 0 n) (queries_from j bs)
queries_whole n j [] h = tt
queries_whole n j (b ∷ bs) h = (record { assumptions_there = tt; currents_there = tt; reachables_there = (omega (arith, h), tt); reachables_differ = refl }, queries_whole n (j + 1) bs (omega (arith, h)))

-- ---- the script of instances

module _ (t : List Instance) (w : ℕ) (some : 1 ≤ w) (most : w ≤ WIDEST) (acyclic : Acyclic t) (fresh : ItemsDiffer t) (items : AreTyped t (origins_of t)) (forms : AllByRecursion (IsReady t w some most acyclic fresh) (flat_of t).forms)
    (few : length (forms_invariants (flat_of t).forms) ≤ 2 ^ 32) where
  whole_variables : AreVariables (scope_of (symbols_of t)) (all_variables w (flat_of t).items)
  whole_variables = record {
    names = record {
      differ = all_fresh (variable_names (all_variables w (flat_of t).items)) (variables_differ t w fresh);
      free = free_names (symbols_of t) (variable_names (all_variables w (flat_of t).items)) (all_free w (flat_of t).items);
    };
    sorts = variables_sorts t w some most;
  }

  whole_system : IsValidSystem (scope_of (symbols_of t)) (system_of (flat_of t) w ∷ []) (system_of (flat_of t) w)
  whole_system = record {
    variables = whole_variables;
    init = formula_stands t w some most acyclic fresh forms items First;
    trans = formula_stands t w some most acyclic fresh forms items Following;
    inv = formula_stands t w some most acyclic fresh forms items Always;
    names = refl;
    subsystems = tt;
  }

  whole_systems : AreValidSystems (scope_of (symbols_of t)) (system_of (flat_of t) w ∷ [])
  whole_systems = record {
    names = refl;
    systems = (whole_system, tt);
    acyclic = never_returns ([] ∷ []) (0 ∷ []) (record { within = refl; whole = only_node; once = refl; falls = refl });
  }

  whole_check : IsValidCheck (scope_of (symbols_of t)) (system_of (flat_of t) w ∷ []) (check_of (flat_of t) w)
  whole_check = record {
    there = omega arith;
    fits = record { inputs = refl; outputs = refl; locals = refl };
    variables = whole_variables;
    formulas = record {
      names = all_fresh (formula_names (reachables_from (coding_of (flat_of t) w) 0 (forms_invariants (flat_of t).forms))) (reachables_differ 0 (forms_invariants (flat_of t).forms) (coding_of (flat_of t) w) (omega (arith, few)));
      assumptions = tt;
      currents = tt;
      reachables = reachables_formulas t w some most acyclic fresh forms;
    };
    queries = record {
      names = all_fresh (query_names (queries_from 0 (forms_invariants (flat_of t).forms))) (queries_differ 0 (forms_invariants (flat_of t).forms) (omega (arith, few)));
      queries = queries_whole (length (reachables_from (coding_of (flat_of t) w) 0 (forms_invariants (flat_of t).forms))) 0 (forms_invariants (flat_of t).forms)
          (let e = reachables_long (coding_of (flat_of t) w) 0 (forms_invariants (flat_of t).forms) in omega (arith, e));
    };
  }

  pub whole_script : IsValid (script_of (flat_of t) w)
  whole_script = record { scope = whole_scope t; systems = whole_systems; check = whole_check }

-- ---- the script of a model

pub checked_from : (t : List Instance) → ((i : ℕ) (at : Instance) → slice_get t i ≡ Some at → Checked t i at) → list_all (instance_all has_operators) t ≡ true
    → (n : ℕ) (at : Instance) → slice_get t n ≡ Some at → Checked t (0 + n) at × (instance_all has_operators at ≡ true)
checked_from t c o n at e = (subst (λ m. Checked t m at) (let s : n ≡ 0 + n = omega arith in s) (c n at e), there (instance_all has_operators) t n at o e)

pub few_invariants : (source : PlainSource) (end : Place) (xs : List Token) → SpellsSource source end xs → (needed : ℕ) → IsAccepted source needed → length (forms_invariants (flat_smv source).forms) ≤ 200000
few_invariants source end xs spelled needed accepted =
    let t = instances_of source in
    let a = split (module_checks source ++ declaration_checks source.modules t 0 1 t ++ size_checks source ++ later_checks t) _ accepted in
    let b = split (module_checks source ++ declaration_checks source.modules t 0 1 t ++ size_checks source) (later_checks t) a.0 in
    let c = split (module_checks source ++ declaration_checks source.modules t 0 1 t) (size_checks source) b.0 in
    let w = leb-true (weight_of source) most_tokens (both_true (nat_le (weight_of source) most_tokens) _ c.1).0 in
    let n = counts_by_weight source end xs spelled (width_of (flat_smv source)) in
    let l = queries_long 0 (forms_invariants (flat_smv source).forms) in
    omega (arith, w, n, l)

-- what is known of the items and the formulas
pub record ModelTyped (source : PlainSource) : Type 0 where
  pub items : AreTyped (instances_of source) (origins_of (instances_of source))
  pub roles : AreRoles (instances_of source) (forms_of (instances_of source))

pub model_typed : (source : PlainSource) (end : Place) (text : List ℕ) (xs : List Token) → Lexes text xs → SpellsSource source end xs → (needed : ℕ) → IsAccepted source needed → ModelTyped source
model_typed source end text xs lexed spelled needed accepted =
    let t = instances_of source in
    let checked = accepted_is_checked_law source needed accepted in
    let ac = acyclic t checked in
    let fresh = names_differ_law source end text xs lexed spelled needed accepted in
    let words = words_fit_law source end text xs lexed spelled in
    let operators = instances_operators source xs spelled.0 in
    let c = checked_at t checked words in
    let typed : AllTyped t = all_typed t ac (all_given t c) in
    let each = checked_from t c operators in
    let a = split (module_checks source ++ declaration_checks source.modules t 0 1 t ++ size_checks source ++ later_checks t) _ accepted in
    let b = split (module_checks source ++ declaration_checks source.modules t 0 1 t ++ size_checks source) (later_checks t) a.0 in
    let d = split (path_checks_of t ++ cycle_checks_of t ++ type_checks_of t) (assignment_checks (found_in t) t) b.1 in
    let targets = all_assignable [] (over_instances (assigned_here t) 0 t) d.1 in
    record {
      items = items_typed t ac fresh typed 0 t each;
      roles = forms_roles t ac fresh typed 0 0 t each (λ n m e. subst (λ j. slice_get (origins_of t) j ≡ Some m) (let s : n ≡ 0 + n = omega arith in s) e) targets;
    }

pub scripts_are_valid_law : ScriptsAreValid
scripts_are_valid_law source end text xs lexed spelled needed accepted =
    let t = instances_of source in
    let w = width_of (flat_smv source) in
    let ac = acyclic t (accepted_is_checked_law source needed accepted) in
    let fresh = names_differ_law source end text xs lexed spelled needed accepted in
    let small = width_is_small_law source end xs spelled needed accepted in
    let some = width_some source in
    let most : w ≤ WIDEST = omega (arith, small) in
    let typed = model_typed source end text xs lexed spelled needed accepted in
    let low = forms_low w (forms_of t) (omega arith) in
    let few = few_invariants source end xs spelled needed accepted in
    whole_script t w some most ac fresh typed.items (both_all (λ (f : Form). IsRole t f.role f.body) (λ (f : Form). tree_width f.body ≤ w) (forms_of t) typed.roles low) (omega (arith, few))
