use Rattle.std.proofs.Common.{◌-◌, ◌≤◌, length}
use Rattle.btor_text.proofs.Search.{Between}
use Rattle.btor_text.proofs.place.searched.Given as goal

abbrev pub invariant-search : goal.invariant-search
invariant-search l = record {
  between : Between l.nodes l.id l.low l.high;
  order : l.low ≤ l.high;
  within : l.high ≤ length l.nodes;
}

abbrev pub decreases-search : goal.decreases-search
decreases-search l = l.high - l.low
