use Rattle.std.specs.Slice.Iter.{iter_rest}
use Rattle.moxi_term_reading.proofs.ReadingLaws.{room_left}
use Rattle.moxi_term_reading.proofs.read.by_name.Goals as goal

pub add-requires : goal.add-requires
add-requires c = record { room = room_left c.loop-variable.locals (iter_rest c.loop-variable.variable-iterator) c.args.variables.now c.in-Some.variable.now (iter_rest c.next.new.self) c.loop-variable.invariant c.in-Some.ensures.steps c.requires }
