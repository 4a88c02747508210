use Rattle.std.proofs.Common.{ℕ, List, subst}
use Rattle.command_core.specs.Sinks.{Puts}
use Rattle.explain_core.proofs.Putting.{caret_is}
use Rattle.explain_core.proofs.messages.put_caret.Goals as goal

pub returns : goal.returns
returns g c =
    subst (λ (w : List ℕ). Puts (g.K.Sink.taken c.args.out.now) (g.K.Sink.taken c.put.new.out) (g.K.Sink.faults c.args.out.now) (g.K.Sink.faults c.put.new.out) w c.put.result)
    (caret_is c.args.front.now c.blanks_of-blanks.result c.args.more c.blanks_of-blanks.ensures c.requires.more)
    c.put.ensures
