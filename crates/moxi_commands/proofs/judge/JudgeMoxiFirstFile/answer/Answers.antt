use Rattle.std.proofs.Common.{[], ◌∷◌}
use Rattle.text_core.specs.Outside.{HasNewFault}
use Rattle.moxi_scripts.specs.ScriptView.{plain_script}
use Rattle.moxi_commands.proofs.Judged.{bytes_ok, bytes_stop}
use Rattle.moxi_commands.proofs.judge.JudgeMoxiFirstFile.answer.Goals as goal

pub returns-in-Ok-clause-answer : goal.returns-in-Ok-clause-answer
returns-in-Ok-clause-answer g c =
    bytes_ok (g.F.Shelf.files c.args.shelf.now) (c.args.second.now ∷ []) (HasNewFault (g.F.Shelf.faults c.args.shelf.now) (g.F.Shelf.faults c.script_answer-answer.new.shelf)) c.args.second.now (plain_script c.in-Ok.script) c.args.bytes.now
    c.script_answer-answer.result c.in-Ok.ensures.script c.script_answer-answer.ensures.answer

pub returns-in-Ok-clause-stop : goal.returns-in-Ok-clause-stop
returns-in-Ok-clause-stop g c =
    bytes_stop (g.F.Shelf.files c.args.shelf.now) (c.args.second.now ∷ []) (HasNewFault (g.F.Shelf.faults c.args.shelf.now) (g.F.Shelf.faults c.script_answer-answer.new.shelf)) c.args.second.now (plain_script c.in-Ok.script) c.args.bytes.now
    c.script_answer-answer.result c.in-Ok.ensures.script c.script_answer-answer.ensures.stop
