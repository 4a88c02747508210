use Rattle.std.proofs.Common.{◌≡◌, ℕ, Bool, drop, map}
use Rattle.std.specs.List.{list_all}
use Rattle.moxi_terms.specs.Value.{at}
use Rattle.moxi_scripts.specs.Script.{formula_at, plain_formula}
use Rattle.moxi_scripts.specs.Meeting.{is_true}
use Rattle.moxi_judge.specs.FlatTests.{free_script}
use Rattle.moxi_judge.proofs.queries.all_true.Given as goal

abbrev pub invariant-loop-number : goal.invariant-loop-number
invariant-loop-number l =
    let holds : ℕ → Bool = λ i. is_true (free_script l.system) (at l.now) (at l.now) (formula_at (map plain_formula l.formulas) i) in
    list_all holds (drop l.number-index l.numbers) ≡ list_all holds l.numbers
