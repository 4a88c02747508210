use Rattle.std.proofs.Common.{◌≡◌, true, take}
use Rattle.std.specs.List.{list_all}
use Rattle.digraph.specs.Graph.{is_in}
use Rattle.digraph.specs.Visiting.{IsVisit, Extends}
use Rattle.digraph.proofs.returns.Visit.spread.Given as goal

abbrev pub invariant-loop-i : goal.invariant-loop-i
invariant-loop-i l = record {
  visit : IsVisit l.graph l.start l.self;
  all : list_all (is_in l.self.queue) (take l.i l.row) ≡ true;
  extends : Extends l.fn.self l.self;
}
