use Rattle.std.proofs.Common.{◌≡◌, length, map}
use Rattle.moxi_terms.specs.View.{plain}
use Rattle.smv_script_terms.specs.Operands.{operand_plain, implied_end, implied_parts}
use Rattle.smv_script_terms.proofs.operands.implied.Given as goal

abbrev pub invariant-operands : goal.invariant-operands
invariant-operands l = implied_end (plain l.first) (map operand_plain l.operands.items) l.words (plain l.whole) ≡ implied_parts (plain l.fn.first) (map operand_plain l.fn.operands.items)

abbrev pub decreases-operands : goal.decreases-operands
decreases-operands l = length l.operands.items
