-- The lines of queries add no constraint.
use Rattle.std.proofs.Common.{◌≡◌, ℕ, Bool, true, false, cond, List, [], ◌∷◌, ◌++◌, length, None, refl, ap, ◌∙◌}
use Rattle.std.specs.Prelude.{codes}
use Rattle.std.proofs.lemmas.List.{append-nil}
use Rattle.word_core.specs.declared.kinds.Binary.TheVariants as two
use Rattle.btor_tree.specs.declared.lines.Line.{Line}
use Rattle.btor_tree.specs.declared.lines.LineOp.TheVariants as line
use Rattle.btor_tree.specs.Fits.{is_constraint, operands}
use Rattle.btor_tree.specs.Sharing.{GrowsByShared, with_sort}
use Rattle.btor_tree.proofs.Alike.{pushed_quiet}
use Rattle.btor_tree.proofs.Paths.{operands_append}
use Rattle.moxi_terms.specs.Tree.{Tree}
use Rattle.moxi_scripts.specs.declared.script.Query.{Query}
use Rattle.moxi_scripts.specs.Script.{formula_at}
use Rattle.moxi_flat.specs.FlatSystem.{PlainFlatSystem}
use Rattle.moxi_lines.specs.TermLines.{AllBuilt, Built, chain_lines, folded_lines, with_binary}
use Rattle.moxi_lines.proofs.Chains.{binary_grows, chain_grows, folded_grows}
use Rattle.moxi_lines.proofs.Terms.{calls_grow, term_grows}
use Rattle.moxi_lines.specs.Lines.{Reaching, first_place, formula_name, has_conditions, input_place, one_place, with_all_met, with_assumptions, with_bad, with_conditions, with_currents, with_formula, with_free, with_given, with_goal, with_latch, with_one_met, with_queries, with_query, with_reachable, with_reachables, zero_place}
use Rattle.moxi_lines.proofs.Extending.{Extends, extends_none, extends_then, quiet_constraints, quietly}

-- lines with more behind them, none of which is a constraint
pub record Keeps (old new : List Line) : Type 0 where
  pub extends : Extends old new
  pub constraints : operands is_constraint new ≡ operands is_constraint old

keeps_none : (lines : List Line) → Keeps lines lines
keeps_none lines = record { extends = extends_none lines; constraints = refl }

keeps_then : (a b c : List Line) → Keeps a b → Keeps b c → Keeps a c
keeps_then a b c g h = record { extends = extends_then a b c g.extends h.extends; constraints = h.constraints ∙ g.constraints }

keeps_quiet : (a b : List Line) → GrowsByShared a b → Keeps a b
keeps_quiet a b g = record { extends = quietly a b g; constraints = quiet_constraints a b g }

-- one line more that is no constraint
keeps_line : (lines : List Line) (l : Line) → operands is_constraint (l ∷ []) ≡ [] → Keeps lines (lines ++ l ∷ [])
keeps_line lines l e =
    record {
      extends = record { more = l ∷ []; is = refl };
      constraints = operands_append is_constraint lines (l ∷ []) ∙ ap (λ z. operands is_constraint lines ++ z) e ∙ append-nil (operands is_constraint lines);
    }

sort_keeps : (lines : List Line) (w : ℕ) → Keeps lines (with_sort lines w).0
sort_keeps lines w = keeps_quiet lines (with_sort lines w).0 (pushed_quiet lines (line.Sort w) 0 [] None refl)

state_keeps : (lines : List Line) (w : ℕ) (name : List ℕ) → Keeps lines (with_free lines line.State w name).0
state_keeps lines w name = keeps_then lines (with_sort lines w).0 _ (sort_keeps lines w) (keeps_line (with_sort lines w).0 _ refl)

init_keeps : (lines : List Line) (w s p : ℕ) → Keeps lines (with_given lines line.Init w s p)
init_keeps lines w s p = keeps_then lines (with_sort lines w).0 _ (sort_keeps lines w) (keeps_line (with_sort lines w).0 _ refl)

next_keeps : (lines : List Line) (w s p : ℕ) → Keeps lines (with_given lines line.Next w s p)
next_keeps lines w s p = keeps_then lines (with_sort lines w).0 _ (sort_keeps lines w) (keeps_line (with_sort lines w).0 _ refl)

bad_keeps : (name : List ℕ) (m : Built) → Keeps m.0 (with_bad name m)
bad_keeps name m = keeps_line m.0 _ refl

latch_keeps : (lines : List Line) (name : List ℕ) (p : ℕ) → Keeps lines (with_latch lines name p).0
latch_keeps lines name p =
    let s = with_free lines line.State 1 name in keeps_then lines s.0 (with_given s.0 line.Init 1 s.1 p) (state_keeps lines 1 name) (init_keeps s.0 1 s.1 p)

module _ (f : PlainFlatSystem) (inputs : List ℕ) where
  formula_keeps : (lines : List Line) (t : Tree) → Keeps lines (with_formula f.scope inputs lines t).0
  formula_keeps lines t = keeps_quiet lines (with_formula f.scope inputs lines t).0 (term_grows _ _ (calls_grow _ f.scope.functions (length f.scope.functions)) (input_place inputs) (input_place inputs) [] lines t)

  assumptions_keep : (m : AllBuilt) (is : List ℕ) → Keeps m.0 (with_assumptions f inputs m is).0
  assumptions_keep m [] = keeps_none m.0
  assumptions_keep m (i ∷ is) =
      let n = with_formula f.scope inputs m.0 (formula_at f.assumptions i) in
      let next : AllBuilt = (n.0, m.1 ++ n.1 ∷ []) in
      keeps_then m.0 n.0 (with_assumptions f inputs next is).0 (formula_keeps m.0 (formula_at f.assumptions i)) (assumptions_keep next is)

  currents_keep : (m : AllBuilt) (is : List ℕ) → Keeps m.0 (with_currents f inputs m is).0
  currents_keep m [] = keeps_none m.0
  currents_keep m (i ∷ is) =
      let n = with_formula f.scope inputs m.0 (formula_at f.currents i) in
      let g = with_binary two.Implies n.0 first_place n.1 in
      let next : AllBuilt = (g.0, m.1 ++ g.1 ∷ []) in
      keeps_then m.0 g.0 (with_currents f inputs next is).0
      (keeps_then m.0 n.0 g.0 (formula_keeps m.0 (formula_at f.currents i)) (keeps_quiet n.0 g.0 (binary_grows two.Implies n.0 first_place n.1))) (currents_keep next is)

  conditions_keep : (lines : List Line) (q : Query) → Keeps lines (with_conditions f inputs lines q).0
  conditions_keep lines q =
      let s = with_latch lines (q.name ++ codes ".ok") one_place in
      let a = with_assumptions f inputs (s.0, []) q.assumptions in
      let c = with_currents f inputs a q.currents in
      let chain = folded_lines two.And (c.0, s.1) c.1 in
      keeps_then lines s.0 (with_given chain.0 line.Next 1 s.1 chain.1) (latch_keeps lines (q.name ++ codes ".ok") one_place)
      (keeps_then s.0 a.0 (with_given chain.0 line.Next 1 s.1 chain.1) (assumptions_keep (s.0, []) q.assumptions)
      (keeps_then a.0 c.0 (with_given chain.0 line.Next 1 s.1 chain.1) (currents_keep a q.currents)
      (keeps_then c.0 chain.0 (with_given chain.0 line.Next 1 s.1 chain.1) (keeps_quiet c.0 chain.0 (folded_grows two.And (c.0, s.1) c.1)) (next_keeps chain.0 1 s.1 chain.1))))

  reachable_keeps : (name : List ℕ) (m : Reaching) (r : ℕ) → Keeps m.lines (with_reachable f inputs name m r).lines
  reachable_keeps name m r =
      let latch_name = name ++ (codes "." ++ (formula_name f.reachables r ++ codes ".seen")) in
      let s = with_latch m.lines latch_name zero_place in
      let n = with_formula f.scope inputs s.0 (formula_at f.reachables r) in
      let o = with_binary two.Or n.0 s.1 n.1 in
      let new = with_given o.0 line.Next 1 s.1 o.1 in
      keeps_then m.lines s.0 new (latch_keeps m.lines latch_name zero_place)
      (keeps_then s.0 n.0 new (formula_keeps s.0 (formula_at f.reachables r)) (keeps_then n.0 o.0 new (keeps_quiet n.0 o.0 (binary_grows two.Or n.0 s.1 n.1)) (next_keeps o.0 1 s.1 o.1)))

  reachables_keep : (name : List ℕ) (m : Reaching) (rs : List ℕ) → Keeps m.lines (with_reachables f inputs name m rs).lines
  reachables_keep name m [] = keeps_none m.lines
  reachables_keep name m (r ∷ rs) =
      let n = with_reachable f inputs name m r in
      keeps_then m.lines n.lines (with_reachables f inputs name n rs).lines (reachable_keeps name m r) (reachables_keep name n rs)

  all_met_keeps : (m : Reaching) (before : List ℕ) → Keeps m.lines (with_all_met m before).0
  all_met_keeps m before =
      let all = chain_lines two.And m.lines (before ++ m.seen) in
      let some = chain_lines two.Or all.0 m.formulas in
      let both = with_binary two.And some.0 all.1 some.1 in
      keeps_then m.lines all.0 both.0 (keeps_quiet m.lines all.0 (chain_grows two.And m.lines (before ++ m.seen)))
      (keeps_then all.0 some.0 both.0 (keeps_quiet all.0 some.0 (chain_grows two.Or all.0 m.formulas)) (keeps_quiet some.0 both.0 (binary_grows two.And some.0 all.1 some.1)))

  one_met_keeps : (m : Built) (before : List ℕ) → Keeps m.0 (with_one_met m before).0
  one_met_keeps m [] = keeps_none m.0
  one_met_keeps m (p ∷ ps) = keeps_quiet m.0 (with_binary two.And m.0 p m.1).0 (binary_grows two.And m.0 p m.1)

  several_keep : (q : Query) (before : List ℕ) (lines : List Line) (rs : List ℕ) → Keeps lines (with_all_met (with_reachables f inputs q.name (record { lines = lines; formulas = []; seen = [] }) rs) before).0
  several_keep q before lines rs =
      let m : Reaching = record { lines = lines; formulas = []; seen = [] } in
      let r = with_reachables f inputs q.name m rs in
      keeps_then lines r.lines (with_all_met r before).0 (reachables_keep q.name m rs) (all_met_keeps r before)

  goal_keeps : (q : Query) (before : List ℕ) (lines : List Line) (rs : List ℕ) → Keeps lines (with_goal f inputs q before lines rs).0
  goal_keeps q before lines [] = several_keep q before lines []
  goal_keeps q before lines (r ∷ []) =
      let m = with_formula f.scope inputs lines (formula_at f.reachables r) in
      keeps_then lines m.0 (with_one_met m before).0 (formula_keeps lines (formula_at f.reachables r)) (one_met_keeps m before)
  goal_keeps q before lines (r ∷ s ∷ rs) = several_keep q before lines (r ∷ s ∷ rs)

  chosen_keeps : (b : Bool) (lines : List Line) (m n : Built) → Keeps lines m.0 → Keeps lines n.0 → Keeps lines (cond b m n).0
  chosen_keeps true lines m n g h = g
  chosen_keeps false lines m n g h = h

  query_keeps : (lines : List Line) (q : Query) → Keeps lines (with_query f inputs lines q)
  query_keeps lines q =
      let c = with_conditions f inputs lines q in
      let g = with_goal f inputs q (c.1 ∷ []) c.0 q.reachables in
      let h = with_goal f inputs q [] lines q.reachables in
      let b = has_conditions q.assumptions q.currents in
      let m : Built = cond b g h in
      keeps_then lines m.0 (with_bad q.name m) (chosen_keeps b lines g h (keeps_then lines c.0 g.0 (conditions_keep lines q) (goal_keeps q (c.1 ∷ []) c.0 q.reachables)) (goal_keeps q [] lines q.reachables)) (bad_keeps q.name m)

  pub queries_keep : (lines : List Line) (qs : List Query) → Keeps lines (with_queries f inputs lines qs)
  queries_keep lines [] = keeps_none lines
  queries_keep lines (q ∷ qs) =
      let n = with_query f inputs lines q in
      keeps_then lines n (with_queries f inputs n qs) (query_keeps lines q) (queries_keep n qs)
