use Rattle.std.proofs.Common.{map}
use Rattle.moxi_terms.specs.View.{plain}
use Rattle.btor_import.specs.Assembling.{number_at, part_of}
use Rattle.btor_import.proofs.Steps.{parts_on}
use Rattle.btor_import.proofs.parts.parts_of.Goals as goal

pub loop-i-preserved : goal.loop-i-preserved
loop-i-preserved c =
    parts_on (part_of c.args.part (number_at c.args.numbers.now) c.args.nodes.now) c.args.nodes.now c.loop-i.i c.at.result.now (map plain c.loop-i.all.items) (map plain c.add_part.new.all.items) _ c.at.ensures c.in_ok-add_part.ensures c.loop-i.invariant
