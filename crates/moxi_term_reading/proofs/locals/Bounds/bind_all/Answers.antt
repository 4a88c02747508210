use Rattle.std.specs.Slice.Iter.{iter_rest}
use Rattle.moxi_term_reading.proofs.BoundLaws.{name_room}
use Rattle.moxi_term_reading.proofs.locals.Bounds.bind_all.Goals as goal

pub bind-requires : goal.bind-requires
bind-requires c =
    let l = c.loop-local in
    record { room = name_room l.self (iter_rest l.local-iterator) c.args.self.now c.args.names.now c.in-Some.local.now (iter_rest c.next.new.self) l.invariant c.in-Some.ensures.steps c.requires.room }
