use Rattle.std.proofs.Common.{sym, subst}
use Rattle.command_core.specs.declared.answer.Output.{Output}
use Rattle.command_core.specs.Answers.{output_text}
use Rattle.command_core.specs.Sinks.{Puts}
use Rattle.command_core.proofs.notes.put_output.Goals as goal

pub returns-in-Broken : goal.returns-in-Broken
returns-in-Broken g c =
    subst (λ (o : Output). Puts (g.K.Sink.taken c.args.out.now) (g.K.Sink.taken c.put_accepted-in-Broken.new.out) (g.K.Sink.faults c.args.out.now) (g.K.Sink.faults c.put_accepted-in-Broken.new.out) (output_text o) c.put_accepted-in-Broken.result)
    (sym c.in-Broken.is) c.put_accepted-in-Broken.ensures
