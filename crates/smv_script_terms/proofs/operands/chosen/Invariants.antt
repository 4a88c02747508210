use Rattle.std.proofs.Common.{◌≡◌, length, map}
use Rattle.moxi_terms.specs.View.{plain}
use Rattle.smv_script_terms.specs.Operands.{case_plain, chosen_cases}
use Rattle.smv_script_terms.proofs.operands.chosen.Given as goal

abbrev pub invariant-cases : goal.invariant-cases
invariant-cases l = chosen_cases (map case_plain l.cases.items) (plain l.whole) ≡ chosen_cases (map case_plain l.fn.cases.items) (plain l.fn.last)

abbrev pub decreases-cases : goal.decreases-cases
decreases-cases l = length l.cases.items
