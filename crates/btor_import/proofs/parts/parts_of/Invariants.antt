use Rattle.std.proofs.Common.{◌≡◌, ◌++◌, drop, map}
use Rattle.moxi_terms.specs.View.{plain}
use Rattle.btor_import.specs.Assembling.{number_at, part_of}
use Rattle.btor_import.specs.Script.{parts_from}
use Rattle.btor_import.proofs.parts.parts_of.Given as goal

abbrev pub invariant-loop-i : goal.invariant-loop-i
invariant-loop-i l = map plain l.all.items ++ parts_from (part_of l.part (number_at l.numbers) l.nodes) l.i (drop l.i l.nodes) ≡ parts_from (part_of l.part (number_at l.numbers) l.nodes) 0 l.nodes
