use Rattle.std.proofs.Common.{◌≡◌, ℕ, ◌||◌, Bool, drop}
use Rattle.std.specs.List.{list_all, list_any}
use Rattle.moxi_terms.specs.Value.{at}
use Rattle.moxi_scripts.specs.Meeting.{reaches}
use Rattle.moxi_judge.specs.FlatTests.{AreMarks, free_script}
use Rattle.moxi_judge.proofs.queries.are_reached.Given as goal

abbrev pub invariant-loop-i : goal.invariant-loop-i
invariant-loop-i l =
    let reached : ℕ → Bool = reaches (free_script l.system) (at l.now) in record {
      all : (before : ℕ → Bool) → AreMarks before l.numbers l.marks → list_all (λ r. before r || reached r) (drop l.i l.numbers) ≡ list_all (λ r. before r || reached r) l.numbers;
      any : (l.some || list_any reached (drop l.i l.numbers)) ≡ list_any reached l.numbers;
    }
