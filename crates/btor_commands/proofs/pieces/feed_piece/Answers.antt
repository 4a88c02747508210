use Rattle.std.proofs.Common.{take, arith}
use Rattle.std.proofs.lemmas.List.{length-take-le}
use Rattle.btor_commands.proofs.Fronts.{holds_more}
use Rattle.btor_commands.proofs.pieces.feed_piece.Goals as goal

pub returns-clause-front : goal.returns-clause-front
returns-clause-front g c = λ exposed h.
    holds_more exposed _ _ _ _ _ _ (take c.in-Ok.n c.read.new.buffer) h (c.feed.ensures.represents h.text c.requires.going h.represents) c.in-Ok.ensures.bytes _
    (length-take-le c.in-Ok.n c.read.new.buffer (omega (arith, c.in-Ok.ensures.count, c.read.auto.buffer)))
