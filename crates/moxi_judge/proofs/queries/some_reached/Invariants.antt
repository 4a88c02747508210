use Rattle.std.proofs.Common.{◌≡◌, ℕ, Bool, drop}
use Rattle.std.specs.List.{list_any}
use Rattle.moxi_terms.specs.Value.{at}
use Rattle.moxi_scripts.specs.Meeting.{reaches}
use Rattle.moxi_judge.specs.FlatTests.{free_script}
use Rattle.moxi_judge.proofs.queries.some_reached.Given as goal

abbrev pub invariant-loop-number : goal.invariant-loop-number
invariant-loop-number l =
    let reached : ℕ → Bool = reaches (free_script l.system) (at l.now) in
    list_any reached (drop l.number-index l.numbers) ≡ list_any reached l.numbers
