-- A term as the list of its nodes, each behind its parts, which gives it back.
use Rattle.std.proofs.Common.{ap, ◌∙◌}
use Rattle.std.specs.Coded.{Coded, code_by, coded_list}
use Rattle.std.specs.Prelude.{◌≡◌, refl, ℕ, zero, suc, Bool, List, [], ◌∷◌}
use Rattle.moxi_terms.specs.declared.data.Datum.{Datum}
use Rattle.moxi_terms.specs.declared.data.TermOp.{TermOp}
use Rattle.moxi_terms.specs.Operators.{nothing}
use Rattle.moxi_terms.specs.Tree.{Tree, constant, variable, bound, apply, binding, call, Trees, no_trees, tree}

pub data Node : Type 0 where
  one_constant : Datum → Node
  one_variable : ℕ → Bool → Node
  one_bound : ℕ → Node
  apply_to : TermOp → ℕ → Node
  bind_to : List (List ℕ) → ℕ → Node
  call_with : ℕ → ℕ → Node

abbrev pub count : Trees → ℕ
count no_trees = zero
count (tree t ts) = suc (count ts)

-- the nodes of a term, in front of these
abbrev mutual
  pub nodes : Tree → List Node → List Node
  nodes (constant d) rest = one_constant d ∷ rest
  nodes (variable v primed) rest = one_variable v primed ∷ rest
  nodes (bound i) rest = one_bound i ∷ rest
  nodes (apply op ts) rest = all_nodes ts (apply_to op (count ts) ∷ rest)
  nodes (binding names ts t) rest = nodes t (all_nodes ts (bind_to names (count ts) ∷ rest))
  nodes (call n ts) rest = all_nodes ts (call_with n (count ts) ∷ rest)

  -- those of the last term first
  pub all_nodes : Trees → List Node → List Node
  all_nodes no_trees rest = rest
  all_nodes (tree t ts) rest = all_nodes ts (nodes t rest)

abbrev pub onto : Trees → List Tree → List Tree
onto no_trees stack = stack
onto (tree t ts) stack = t ∷ onto ts stack

abbrev pub front : ℕ → List Tree → Trees
front zero stack = no_trees
front (suc n) [] = no_trees
front (suc n) (t ∷ stack) = tree t (front n stack)

abbrev pub behind : ℕ → List Tree → List Tree
behind zero stack = stack
behind (suc n) [] = []
behind (suc n) (t ∷ stack) = behind n stack

abbrev pub bind : List (List ℕ) → Trees → List Tree → List Tree
bind names ts [] = []
bind names ts (t ∷ stack) = binding names ts t ∷ stack

abbrev pub step : Node → List Tree → List Tree
step (one_constant d) stack = constant d ∷ stack
step (one_variable v primed) stack = variable v primed ∷ stack
step (one_bound i) stack = bound i ∷ stack
step (apply_to op n) stack = apply op (front n stack) ∷ behind n stack
step (bind_to names n) stack = bind names (front n stack) (behind n stack)
step (call_with m n) stack = call m (front n stack) ∷ behind n stack

abbrev pub run : List Node → List Tree → List Tree
run [] stack = stack
run (n ∷ ns) stack = run ns (step n stack)

abbrev pub top : List Tree → Tree
top [] = constant nothing
top (t ∷ stack) = t

abbrev pub coded : Tree → List Node
coded t = nodes t []

abbrev pub decoded : List Node → Tree
decoded ns = top (run ns [])

in_front : (ts : Trees) (stack : List Tree) → front (count ts) (onto ts stack) ≡ ts
in_front no_trees stack = refl
in_front (tree t ts) stack = ap (tree t) (in_front ts stack)

left_behind : (ts : Trees) (stack : List Tree) → behind (count ts) (onto ts stack) ≡ stack
left_behind no_trees stack = refl
left_behind (tree t ts) stack = left_behind ts stack

mutual
  pub nodes_run : (t : Tree) (rest : List Node) (stack : List Tree) → run (nodes t rest) stack ≡ run rest (t ∷ stack)
  nodes_run (constant d) rest stack = refl
  nodes_run (variable v primed) rest stack = refl
  nodes_run (bound i) rest stack = refl
  nodes_run (apply op ts) rest stack =
      all_run ts (apply_to op (count ts) ∷ rest) stack ∙ ap (λ us. run rest (apply op us ∷ behind (count ts) (onto ts stack))) (in_front ts stack)
      ∙ ap (λ us. run rest (apply op ts ∷ us)) (left_behind ts stack)
  nodes_run (binding names ts t) rest stack =
      nodes_run t (all_nodes ts (bind_to names (count ts) ∷ rest)) stack ∙ all_run ts (bind_to names (count ts) ∷ rest) (t ∷ stack)
      ∙ ap (λ us. run rest (bind names us (behind (count ts) (onto ts (t ∷ stack))))) (in_front ts (t ∷ stack))
      ∙ ap (λ us. run rest (bind names ts us)) (left_behind ts (t ∷ stack))
  nodes_run (call n ts) rest stack =
      all_run ts (call_with n (count ts) ∷ rest) stack ∙ ap (λ us. run rest (call n us ∷ behind (count ts) (onto ts stack))) (in_front ts stack)
      ∙ ap (λ us. run rest (call n ts ∷ us)) (left_behind ts stack)

  pub all_run : (ts : Trees) (rest : List Node) (stack : List Tree) → run (all_nodes ts rest) stack ≡ run rest (onto ts stack)
  all_run no_trees rest stack = refl
  all_run (tree t ts) rest stack = all_run ts (nodes t rest) stack ∙ nodes_run t rest (onto ts stack)

pub comes_back : (t : Tree) → decoded (coded t) ≡ t
comes_back t = ap top (nodes_run t [] [])

-- a term is stored as its nodes
abbrev pub tree_code : Coded Node → Coded Tree
tree_code c = code_by (List Node) (coded_list c) coded decoded comes_back
