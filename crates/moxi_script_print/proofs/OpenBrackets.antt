-- How many brackets of a printed term stand open at most.
use Rattle.std.proofs.Common.{ℕ, ◌+◌, ◌≤◌, max, List, [], ◌∷◌, ◌++◌, arith}
use Rattle.moxi_terms.specs.Names.{function_names}
use Rattle.moxi_terms.specs.Tree.{Tree, constant, variable, bound, apply, binding, call, Trees, no_trees, tree}
use Rattle.moxi_terms.specs.View.{ScopeState}
use Rattle.moxi_term_print.specs.Shown.{shown_depth, shown_depths}
use Rattle.moxi_term_print.specs.Terms.{name_at, shown_term, shown_terms, shown_bindings}
use Rattle.moxi_script_print.proofs.Depths.{call_depth, operator_depth, value_depth}

abbrev mutual
  pub open_brackets : Tree → ℕ
  open_brackets (constant d) = 0
  open_brackets (variable v primed) = 0
  open_brackets (bound i) = 0
  open_brackets (apply o ts) = 1 + max 1 (all_brackets ts)
  open_brackets (binding names ts t) = 1 + max (2 + all_brackets ts) (open_brackets t)
  open_brackets (call n ts) = 1 + all_brackets ts

  pub all_brackets : Trees → ℕ
  all_brackets no_trees = 0
  all_brackets (tree t ts) = max (open_brackets t) (all_brackets ts)

mutual
  pub term_depth : (s : ScopeState) (vars bounds : List (List ℕ)) (t : Tree) → shown_depth (shown_term s vars bounds t) ≤ open_brackets t
  term_depth s vars bounds (constant d) = let a = value_depth s d in omega (arith, a)
  term_depth s vars bounds (variable v primed) = omega arith
  term_depth s vars bounds (bound i) = omega arith
  term_depth s vars bounds (apply o ts) = let a = operator_depth o in let r = terms_depth s vars bounds ts in omega (arith, a, r)
  term_depth s vars bounds (binding names ts t) =
      let a = bindings_depth s vars bounds names ts in
      let r = term_depth s vars (bounds ++ names) t in
      omega (arith, a, r)
  term_depth s vars bounds (call n ts) =
      let a = call_depth (name_at (function_names s) n) (shown_terms s vars bounds ts) in
      let r = terms_depth s vars bounds ts in
      omega (arith, a, r)

  pub terms_depth : (s : ScopeState) (vars bounds : List (List ℕ)) (ts : Trees) → shown_depths (shown_terms s vars bounds ts) ≤ all_brackets ts
  terms_depth s vars bounds no_trees = omega arith
  terms_depth s vars bounds (tree t ts) = let a = term_depth s vars bounds t in let r = terms_depth s vars bounds ts in omega (arith, a, r)

  pub bindings_depth : (s : ScopeState) (vars bounds names : List (List ℕ)) (ts : Trees) → shown_depths (shown_bindings s vars bounds names ts) ≤ 1 + all_brackets ts
  bindings_depth s vars bounds names no_trees = omega arith
  bindings_depth s vars bounds [] (tree t ts) = omega arith
  bindings_depth s vars bounds (name ∷ names) (tree t ts) = let a = term_depth s vars bounds t in let r = bindings_depth s vars bounds names ts in omega (arith, a, r)
