-- How deep the forms of printed scripts are nested.
use Rattle.std.proofs.Common.{◌≡◌, ℕ, ◌+◌, ◌≤◌, max, List, [], ◌∷◌, refl, arith}
use Rattle.moxi_terms.specs.declared.data.Sort.{Sort}
use Rattle.moxi_terms.specs.declared.data.Datum.{Datum}
use Rattle.moxi_terms.specs.declared.data.TermOp.{TermOp}
use Rattle.moxi_terms.specs.declared.term.Variable.{Variable}
use Rattle.moxi_terms.specs.Tree.{constant}
use Rattle.moxi_terms.specs.View.{ScopeState}
use Rattle.moxi_term_print.specs.Shown.{Showns, no_showns, shown, joined, shown_depth, shown_depths}
use Rattle.moxi_term_print.specs.Terms.{shown_sort, shown_operator, shown_call, shown_term, shown_variables}
use Rattle.moxi_term_print.specs.Declarations.{shown_symbols}
use Rattle.moxi_scripts.specs.declared.script.Query.{Query}
use Rattle.moxi_script_print.specs.Printing.{attribute, query_names, shown_lists, shown_queries}
use Rattle.moxi_terms.specs.declared.data.Sort.TheVariants as sort
use Rattle.moxi_terms.specs.declared.data.Datum.TheVariants as datum
use Rattle.moxi_terms.specs.declared.data.TermOp.TheVariants as op

pub value_depth : (s : ScopeState) (d : Datum) → shown_depth (shown_term s [] [] (constant d)) ≡ 0
value_depth s (datum.Truth b) = refl
value_depth s (datum.Bits w) = refl
value_depth s (datum.Constant n i) = refl

pub operator_depth : (o : TermOp) → shown_depth (shown_operator o) ≤ 1
operator_depth (op.Extract high low) = omega arith
operator_depth (op.ZeroExtend n) = omega arith
operator_depth (op.SignExtend n) = omega arith
operator_depth op.Not = omega arith
operator_depth op.And = omega arith
operator_depth op.Or = omega arith
operator_depth op.Xor = omega arith
operator_depth op.Implies = omega arith
operator_depth op.Equal = omega arith
operator_depth op.Distinct = omega arith
operator_depth op.Ite = omega arith
operator_depth op.Concat = omega arith
operator_depth (op.BvUnary u) = omega arith
operator_depth (op.BvBinary b) = omega arith

pub call_depth : (name : List ℕ) (xs : Showns) → shown_depth (shown_call name xs) ≤ 1 + shown_depths xs
call_depth name no_showns = omega arith
call_depth name (shown x xs) = omega arith

pub joined_depths : (xs ys : Showns) → shown_depths (joined xs ys) ≡ max (shown_depths xs) (shown_depths ys)
joined_depths no_showns ys = omega arith
joined_depths (shown x xs) ys = let i = joined_depths xs ys in omega (arith, i)

pub sort_depth : (s : ScopeState) (x : Sort) → shown_depth (shown_sort s x) ≤ 1
sort_depth s sort.Truth = omega arith
sort_depth s (sort.Bits n) = omega arith
sort_depth s (sort.Choice n) = omega arith

pub variables_depth : (s : ScopeState) (vs : List Variable) → shown_depths (shown_variables s vs) ≤ 2
variables_depth s [] = omega arith
variables_depth s (v ∷ vs) = let a = sort_depth s v.sort in let r = variables_depth s vs in omega (arith, a, r)

pub symbols_depth : (names : List (List ℕ)) → shown_depths (shown_symbols names) ≡ 0
symbols_depth [] = refl
symbols_depth (name ∷ names) = let r = symbols_depth names in omega (arith, r)

pub lists_depth : (s : ScopeState) (x y z : List Variable) → shown_depths (shown_lists s x y z) ≤ 3
unfolding shown_lists attribute
lists_depth s x y z =
    let a = variables_depth s x in
    let b = variables_depth s y in
    let c = variables_depth s z in
    omega (arith, a, b, c)

pub queries_depth : (x y z : List (List ℕ)) (qs : List Query) → shown_depths (shown_queries x y z qs) ≤ 2
unfolding attribute
queries_depth x y z [] = omega arith
queries_depth x y z (q ∷ qs) =
    let a = symbols_depth (query_names x y z q) in
    let r = queries_depth x y z qs in
    omega (arith, a, r)
