use Rattle.text_core.specs.Outside.{HasNewFault}
use Rattle.smv_commands.specs.Lowering.{lowered_answer}
use Rattle.smv_commands.proofs.TraceAnswers.{trace_given, trace_stops}
use Rattle.smv_commands.proofs.traces.LowerSmvFirstFile.answer.Goals as goal

pub returns-in-Ok-clause-answer : goal.returns-in-Ok-clause-answer
returns-in-Ok-clause-answer g c =
    trace_given lowered_answer (g.F.Shelf.files c.args.shelf.now) (HasNewFault (g.F.Shelf.faults c.args.shelf.now) (g.F.Shelf.faults c.answer_file.new.shelf)) c.args.second.now c.args.bytes.now c.args.self.now.j c.in-Ok.chain c.in-Ok.ensures.form
    c.answer_file.result c.answer_file.ensures.answer

pub returns-in-Ok-clause-stop : goal.returns-in-Ok-clause-stop
returns-in-Ok-clause-stop g c =
    trace_stops lowered_answer (g.F.Shelf.files c.args.shelf.now) (HasNewFault (g.F.Shelf.faults c.args.shelf.now) (g.F.Shelf.faults c.answer_file.new.shelf)) c.args.second.now c.args.bytes.now c.args.self.now.j c.in-Ok.chain c.in-Ok.ensures.form
    c.answer_file.result c.answer_file.ensures.stop
