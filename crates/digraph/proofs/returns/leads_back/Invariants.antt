use Rattle.std.proofs.Common.{◌≡◌, ℕ, ◌-◌, ◌<◌, ◌≤◌, length, true}
use Rattle.std.specs.Prelude.{slice_index_or}
use Rattle.std.specs.List.{list_all}
use Rattle.digraph.specs.Graph.{is_in, next_of}
use Rattle.digraph.specs.Visiting.{IsVisit}
use Rattle.digraph.proofs.returns.leads_back.Given as goal

abbrev pub invariant-loop-p : goal.invariant-loop-p
invariant-loop-p l = record {
  visit : IsVisit l.graph l.start l.visit;
  low : l.p ≤ length l.visit.queue;
  first : list_all (is_in l.visit.queue) (next_of l.graph l.start) ≡ true;
  done : (q : ℕ) → q < l.p → list_all (is_in l.visit.queue) (next_of l.graph (slice_index_or l.visit.queue q 0)) ≡ true;
}

abbrev pub decreases-loop-p : goal.decreases-loop-p
decreases-loop-p l = length l.graph - l.p
