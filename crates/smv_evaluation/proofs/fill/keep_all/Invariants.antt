use Rattle.std.proofs.Common.{◌≡◌, ◌≤◌, ℕ, true, List, map}
use Rattle.smv_text.specs.Tree.{Tree}
use Rattle.smv_meaning.specs.Names.{body_of, local, body_at}
use Rattle.smv_evaluation.specs.Rows.{is_marked, FoundIsCached}
use Rattle.smv_instances.specs.View.{instance_plain}
use Rattle.smv_laws.proofs.Ranked.{key}
use Rattle.smv_laws.proofs.Positions.{order_rank}
use Rattle.smv_evaluation.proofs.fill.keep_all.Given as goal

abbrev pub invariant-loop-number : goal.invariant-loop-number
invariant-loop-number l = record {
  state : l.row.state ≡ l.fn.row.state;
  kept : (k : ℕ) (x : List ℕ) (j : ℕ) (e : Tree) → order_rank (map instance_plain l.table) l.reach.order (key k x) ≤ l.number-index → is_marked l.reach.marks k x ≡ true
      → local (map instance_plain l.table) k x ≡ body_of j e → FoundIsCached l.table l.row l.label (body_at k x j e);
}
