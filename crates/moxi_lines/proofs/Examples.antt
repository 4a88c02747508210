-- Small systems and their lines.
use Rattle.std.proofs.Common.{◌≡◌, ℕ, true, false, List, [], ◌∷◌, ◌++◌, Some, None, refl}
use Rattle.std.specs.Prelude.{codes}
use Rattle.word_core.specs.declared.kinds.Unary.TheVariants as one
use Rattle.word_core.specs.declared.kinds.Binary.TheVariants as two
use Rattle.btor_tree.specs.declared.lines.Line.{Line}
use Rattle.btor_tree.specs.declared.lines.LineOp.{LineOp}
use Rattle.btor_tree.specs.declared.lines.LineOp.TheVariants as line
use Rattle.btor_tree.specs.Fits.{plain_arg}
use Rattle.moxi_terms.specs.declared.data.Sort.TheVariants.{Truth}
use Rattle.moxi_terms.specs.declared.data.Datum.TheVariants as datum
use Rattle.moxi_terms.specs.declared.data.TermOp.TheVariants as op
use Rattle.moxi_terms.specs.Tree.{Tree, apply, constant, no_trees, tree, variable}
use Rattle.moxi_terms.specs.View.{ScopeState}
use Rattle.moxi_flat.specs.FlatSystem.{PlainFlatSystem}
use Rattle.moxi_lines.specs.Lines.{head_lines, lines_of}
use Rattle.moxi_scripts.specs.Formulas.{true_term}

-- an operator line of a truth value, by the ids of its arguments
abbrev on_one : ℕ → LineOp → ℕ → Line
on_one id o a = record { id = id; op = o; sort = 0; args = plain_arg a ∷ []; symbol = None }

abbrev on_two : ℕ → LineOp → ℕ → ℕ → Line
on_two id o a b = record { id = id; op = o; sort = 0; args = plain_arg a ∷ plain_arg b ∷ []; symbol = None }

abbrev free : ℕ → LineOp → List ℕ → Line
free id o name = record { id = id; op = o; sort = 0; args = []; symbol = Some name }

abbrev bad : ℕ → ℕ → List ℕ → Line
bad id a name = record { id = id; op = line.Bad; sort = 0; args = plain_arg a ∷ []; symbol = Some name }

abbrev pub not_term : Tree → Tree
not_term t = apply op.Not (tree t no_trees)

abbrev no_names : ScopeState
no_names = record { enumerations = []; sorts = []; functions = [] }

-- a system without a transition
abbrev no_transition : PlainFlatSystem
no_transition =
    record {
      scope = no_names;
      variables = record { name = codes "v.x"; sort = Truth } ∷ [];
      parts = record { init = true_term; trans = constant (datum.Truth false); inv = true_term } ∷ [];
      assumptions = [];
      currents = [];
      reachables = record { name = codes "r.0"; term = not_term (not_term (variable 0 false)) } ∷ [];
      queries = record { name = codes "q.0"; assumptions = []; currents = []; reachables = 0 ∷ [] } ∷ [];
    }

no_transition_lines : lines_of no_transition ≡ head_lines ++ free 7 line.Input (codes "v.x") ∷ free 8 line.State (codes "v.x.prev") ∷ on_two 9 line.Next 7 6
    ∷ on_two 10 (line.Binary two.Or) 3 2 ∷ on_one 11 line.Constraint 9 ∷ on_one 12 (line.Unary one.Not) 6 ∷ on_one 13 (line.Unary one.Not) 11 ∷ bad 14 12 (codes "q.0") ∷ []
no_transition_lines = refl

-- a latch in a subsystem: its set input, its output and what it keeps
abbrev latch : PlainFlatSystem
latch =
    record {
      scope = no_names;
      variables = record { name = codes "g"; sort = Truth } ∷ record { name = codes "l"; sort = Truth } ∷ record { name = codes "one.kept"; sort = Truth } ∷ [];
      parts =
          record { init = true_term; trans = true_term; inv = true_term }
          ∷ record {
            init = not_term (variable 2 false);
            trans = apply op.Equal (tree (variable 2 true) (tree (apply op.Or (tree (variable 2 false) (tree (variable 0 false) no_trees))) no_trees));
            inv = apply op.Equal (tree (variable 1 false) (tree (variable 2 false) no_trees));
          }
          ∷ [];
      assumptions = [];
      currents = [];
      reachables = record { name = codes "lit"; term = variable 1 false } ∷ [];
      queries = record { name = codes "q"; assumptions = []; currents = []; reachables = 0 ∷ [] } ∷ [];
    }

latch_lines : lines_of latch ≡ head_lines ++ free 7 line.Input (codes "g") ∷ free 8 line.State (codes "g.prev") ∷ on_two 9 line.Next 7 6
    ∷ free 10 line.Input (codes "l") ∷ free 11 line.State (codes "l.prev") ∷ on_two 12 line.Next 10 9
    ∷ free 13 line.Input (codes "one.kept") ∷ free 14 line.State (codes "one.kept.prev") ∷ on_two 15 line.Next 13 12
    ∷ on_one 16 (line.Unary one.Not) 12 ∷ on_two 17 (line.Binary two.Implies) 3 15 ∷ on_one 18 line.Constraint 16
    ∷ on_two 19 (line.Binary two.Or) 13 7 ∷ on_two 20 (line.Binary two.Eq) 12 18 ∷ on_two 21 (line.Binary two.Or) 3 19 ∷ on_one 22 line.Constraint 20
    ∷ on_two 23 (line.Binary two.Eq) 9 12 ∷ on_one 24 line.Constraint 22 ∷ bad 25 9 (codes "q") ∷ []
latch_lines = refl

-- two queries, the second with an assumption, and one with two reachable formulas
abbrev switching : PlainFlatSystem
switching =
    record {
      scope = no_names;
      variables = record { name = codes "x"; sort = Truth } ∷ [];
      parts = record { init = not_term (variable 0 false); trans = apply op.Equal (tree (variable 0 true) (tree (not_term (variable 0 false)) no_trees)); inv = true_term } ∷ [];
      assumptions = record { name = codes "a"; term = not_term (variable 0 false) } ∷ [];
      currents = [];
      reachables = record { name = codes "r"; term = variable 0 false } ∷ record { name = codes "n"; term = not_term (variable 0 false) } ∷ [];
      queries = record { name = codes "q1"; assumptions = []; currents = []; reachables = 0 ∷ [] } ∷ record { name = codes "q2"; assumptions = 0 ∷ []; currents = []; reachables = 0 ∷ [] } ∷ [];
    }

abbrev switching_front : List Line
switching_front =
    head_lines ++ free 7 line.Input (codes "x") ∷ free 8 line.State (codes "x.prev") ∷ on_two 9 line.Next 7 6
    ∷ on_one 10 (line.Unary one.Not) 6 ∷ on_two 11 (line.Binary two.Implies) 3 9 ∷ on_one 12 line.Constraint 10
    ∷ on_one 13 (line.Unary one.Not) 7 ∷ on_two 14 (line.Binary two.Eq) 6 12 ∷ on_two 15 (line.Binary two.Or) 3 13 ∷ on_one 16 line.Constraint 14 ∷ []

switching_lines : lines_of switching ≡ switching_front ++ bad 17 6 (codes "q1") ∷ free 18 line.State (codes "q2.ok") ∷ on_two 19 line.Init 17 1 ∷ on_two 20 (line.Binary two.And) 17 9
    ∷ on_two 21 line.Next 17 19 ∷ on_two 22 (line.Binary two.And) 19 6 ∷ bad 23 21 (codes "q2") ∷ []
switching_lines = refl

-- both values of the variable are reached
abbrev both_values : PlainFlatSystem
both_values = record switching { queries = record { name = codes "q"; assumptions = []; currents = []; reachables = 0 ∷ 1 ∷ [] } ∷ [] }

both_values_lines : lines_of both_values ≡ switching_front ++ free 17 line.State (codes "q.r.seen") ∷ on_two 18 line.Init 16 2 ∷ on_two 19 (line.Binary two.Or) 16 6 ∷ on_two 20 line.Next 16 18
    ∷ free 21 line.State (codes "q.n.seen") ∷ on_two 22 line.Init 20 2 ∷ on_two 23 (line.Binary two.Or) 20 9 ∷ on_two 24 line.Next 20 22
    ∷ on_two 25 (line.Binary two.And) 18 22 ∷ on_two 26 (line.Binary two.Or) 6 9 ∷ on_two 27 (line.Binary two.And) 24 25 ∷ bad 28 26 (codes "q") ∷ []
both_values_lines = refl
