-- How many brackets of the printed script stand open at most.
use Rattle.std.proofs.Common.{ℕ, ◌≤◌, List, [], ◌∷◌, ◌++◌, map, arith}
use Rattle.std.specs.Prelude.{codes}
use Rattle.smv_text.specs.declared.tree.When.TheVariants.{Always, First, Following}
use Rattle.smv_meaning.specs.Instances.{instances_of}
use Rattle.smv_flat.specs.FlatForms.{PlainFlat, flat_of}
use Rattle.moxi_terms.specs.Tree.{Tree}
use Rattle.moxi_terms.specs.View.{ScopeState}
use Rattle.moxi_term_print.specs.Shown.{no_showns, shown, joined, shown_depth, shown_depths}
use Rattle.moxi_term_print.specs.Terms.{variable_names}
use Rattle.moxi_scripts.specs.Script.{PlainFormula, variables_in}
use Rattle.moxi_script_print.specs.Printing.{attribute, shown_lists, shown_formulas, shown_labels, shown_queries, shown_conditions, shown_system, shown_check, shown_enumerations, system_names}
use Rattle.smv_script.specs.Script.{coding_of, symbol_sort, system_of, check_of, script_of}
use Rattle.smv_script_laws.specs.BoundLaws.{BracketsAreFew}
use Rattle.smv_script_laws.proofs.Lows.{FormsFit, FormulasLow, formula_low, all_reachables_low, source_forms_fit}
use Rattle.moxi_script_print.proofs.Depths.{joined_depths, lists_depth, queries_depth, symbols_depth}
use Rattle.moxi_scripts.specs.Valid.{check_variables, formula_names}
use Rattle.moxi_script_print.proofs.OpenBrackets.{open_brackets, term_depth}

-- ---- systems

formulas_depth : (s : ScopeState) (vars : List (List ℕ)) (x y z : Tree) → open_brackets x ≤ 1141 → open_brackets y ≤ 1141 → open_brackets z ≤ 1141 → shown_depths (shown_formulas s vars x y z) ≤ 1141
unfolding shown_formulas attribute
formulas_depth s vars x y z h i j =
    let a = term_depth s vars [] x in
    let b = term_depth s vars [] y in
    let c = term_depth s vars [] z in
    omega (arith, a, b, c, h, i, j)

system_depth : (s : ScopeState) (names : List (List ℕ)) (flat : PlainFlat) (w : ℕ) → FormsFit (coding_of flat w) flat.forms → shown_depth (shown_system s names (system_of flat w)) ≤ 1142
system_depth s names flat w h =
    let x = system_of flat w in
    let c = coding_of flat w in
    let vars = variable_names (variables_in x) in
    let l = lists_depth s x.inputs x.outputs x.locals in
    let f = formulas_depth s vars x.init x.trans x.inv (formula_low flat c First h).brackets (formula_low flat c Following h).brackets (formula_low flat c Always h).brackets in
    let a = joined_depths (shown_lists s x.inputs x.outputs x.locals) (joined (shown_formulas s vars x.init x.trans x.inv) no_showns) in
    let b = joined_depths (shown_formulas s vars x.init x.trans x.inv) no_showns in
    omega (arith, l, f, a, b)

-- ---- the check

labels_depth : (s : ScopeState) (vars : List (List ℕ)) (name : List ℕ) (fs : List PlainFormula) → FormulasLow fs → shown_depths (shown_labels s vars name fs) ≤ 1142
unfolding attribute
labels_depth s vars name [] h = omega arith
labels_depth s vars name (f ∷ fs) h =
    let a = term_depth s vars [] f.term in
    let b = h.0.brackets in
    let r = labels_depth s vars name fs h.1 in
    omega (arith, a, b, r)

conditions_depth : (s : ScopeState) (vars : List (List ℕ)) (flat : PlainFlat) (w : ℕ) → FormsFit (coding_of flat w) flat.forms → shown_depths (shown_conditions s vars (check_of flat w)) ≤ 1142
unfolding shown_conditions
conditions_depth s vars flat w h =
    let c = check_of flat w in
    let a = labels_depth s vars (codes "reachable") c.reachables (all_reachables_low flat (coding_of flat w) h) in
    let q = queries_depth [] [] (formula_names c.reachables) c.queries in
    let j = joined_depths (shown_labels s vars (codes "reachable") c.reachables) (shown_queries [] [] (formula_names c.reachables) c.queries) in
    omega (arith, a, q, j)

check_depth : (s : ScopeState) (names : List (List ℕ)) (flat : PlainFlat) (w : ℕ) → FormsFit (coding_of flat w) flat.forms → shown_depth (shown_check s names (check_of flat w)) ≤ 1143
check_depth s names flat w h =
    let c = check_of flat w in
    let l = lists_depth s c.inputs c.outputs c.locals in
    let a = conditions_depth s (variable_names (check_variables c)) flat w h in
    let j = joined_depths (shown_lists s c.inputs c.outputs c.locals) (shown_conditions s (variable_names (check_variables c)) c) in
    omega (arith, l, a, j)

-- ---- the script

enumerations_depth : (symbols : List (List ℕ)) → shown_depths (shown_enumerations (symbol_sort symbols)) ≤ 2
enumerations_depth [] = omega arith
enumerations_depth (x ∷ xs) = let a = symbols_depth (map (λ n. codes "c." ++ n) (x ∷ xs)) in omega (arith, a)

pub brackets_are_few : BracketsAreFew
brackets_are_few source end xs s l w =
    let flat = flat_of (instances_of source) in
    let p = script_of flat w in
    let names = system_names p.systems in
    let h = source_forms_fit source end xs s l (coding_of flat w) in
    let x = system_depth p.scope names flat w h in
    let c = check_depth p.scope names flat w h in
    let e = enumerations_depth flat.symbols in
    let j = joined_depths (shown_enumerations p.scope.enumerations) (shown (shown_system p.scope names (system_of flat w)) (shown (shown_check p.scope names p.check) no_showns)) in
    omega (arith, x, c, e, j)
