use Rattle.text_core.specs.Outside.{HasNewFault}
use Rattle.smv_commands.proofs.Smv.{witness_given, witness_stops}
use Rattle.smv_commands.proofs.traces.LiftSmvFirstFile.answer.Goals as goal

pub returns-in-Ok-clause-answer : goal.returns-in-Ok-clause-answer
returns-in-Ok-clause-answer g c =
    witness_given (g.F.Shelf.files c.args.shelf.now) (HasNewFault (g.F.Shelf.faults c.args.shelf.now) (g.F.Shelf.faults c.answer_file.new.shelf)) c.args.second.now c.args.bytes.now c.in-Ok.chain c.model_lines_are_spelled.ensures c.in-Ok.ensures.form
    c.answer_file.result c.answer_file.ensures.answer

pub returns-in-Ok-clause-stop : goal.returns-in-Ok-clause-stop
returns-in-Ok-clause-stop g c =
    witness_stops (g.F.Shelf.files c.args.shelf.now) (HasNewFault (g.F.Shelf.faults c.args.shelf.now) (g.F.Shelf.faults c.answer_file.new.shelf)) c.args.second.now c.args.bytes.now c.in-Ok.chain c.model_lines_are_spelled.ensures c.in-Ok.ensures.form
    c.answer_file.result c.answer_file.ensures.stop
