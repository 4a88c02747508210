use Rattle.std.proofs.Common.{◌≡◌, ◌≤◌, drop, length}
use Rattle.smv_meaning.specs.Values.{given}
use Rattle.smv_rows.specs.Places.{NamesHave}
use Rattle.smv_rows.proofs.variables.give_names.Given as goal

abbrev pub invariant-loop-k : goal.invariant-loop-k
invariant-loop-k l = record {
  within : l.k ≤ length l.state;
  size : length l.values.items ≡ length l.names;
  has : NamesHave l.names (given (drop l.k l.state)) l.values.items;
}

abbrev pub decreases-loop-k : goal.decreases-loop-k
decreases-loop-k l = l.k
