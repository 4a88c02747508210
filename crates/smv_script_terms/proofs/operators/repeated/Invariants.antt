use Rattle.std.proofs.Common.{◌≡◌}
use Rattle.moxi_terms.specs.View.{plain}
use Rattle.smv_script.specs.Operators.{repeated}
use Rattle.smv_script_terms.proofs.operators.repeated.Given as goal

abbrev pub invariant-loop : goal.invariant-loop
invariant-loop l = plain l.whole ≡ repeated l.op l.counter (plain l.fn.a)
