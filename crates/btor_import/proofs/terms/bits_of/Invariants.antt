use Rattle.std.proofs.Common.{◌≡◌, ◌++◌, ◌-◌, map}
use Rattle.moxi_terms.specs.View.{plain}
use Rattle.btor_import.specs.Assembling.{number_at}
use Rattle.btor_import.specs.Operators.{bits_from, operand_term}
use Rattle.btor_import.proofs.terms.bits_of.Given as goal

abbrev pub invariant-loop-i : goal.invariant-loop-i
invariant-loop-i l = map plain l.bits.items ++ bits_from l.i (l.width - l.i) (operand_term (number_at l.numbers) l.a) ≡ bits_from 0 l.width (operand_term (number_at l.numbers) l.a)
