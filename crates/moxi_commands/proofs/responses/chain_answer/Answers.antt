use Rattle.std.proofs.Common.{[], ◌∷◌, subst}
use Rattle.text_core.specs.Outside.{HasNewFault}
use Rattle.btor_tree.specs.declared.lines.Line.{Line}
use Rattle.std.specs.Prelude.{List}
use Rattle.btor_tree.specs.Printing.{printed}
use Rattle.btor_tree.specs.Texts.{SpellsLines}
use Rattle.moxi_lines.specs.Lines.{lines_of}
use Rattle.moxi_scripts.specs.ScriptView.{plain_script}
use Rattle.moxi_commands.proofs.Moxi.{lines_ok, lines_stop}
use Rattle.moxi_commands.proofs.responses.chain_answer.Goals as goal

pub returns-clause-answer : goal.returns-clause-answer
returns-clause-answer g c =
    let spelled : SpellsLines (printed (lines_of c.args.chain.now)) (lines_of c.args.chain.now) = subst (λ (lines : List Line). SpellsLines (printed lines) lines) c.nodes.ensures c.lines_are_spelled.ensures in
    lines_ok (g.F.Shelf.files c.args.shelf.now) (c.args.second.now ∷ []) (HasNewFault (g.F.Shelf.faults c.args.shelf.now) (g.F.Shelf.faults c.answer_file.new.shelf)) c.args.second.now (plain_script c.args.script.now) c.args.chain.now
    c.answer_file.result c.requires.chain spelled c.answer_file.ensures.answer

pub returns-clause-stop : goal.returns-clause-stop
returns-clause-stop g c =
    let spelled : SpellsLines (printed (lines_of c.args.chain.now)) (lines_of c.args.chain.now) = subst (λ (lines : List Line). SpellsLines (printed lines) lines) c.nodes.ensures c.lines_are_spelled.ensures in
    lines_stop (g.F.Shelf.files c.args.shelf.now) (c.args.second.now ∷ []) (HasNewFault (g.F.Shelf.faults c.args.shelf.now) (g.F.Shelf.faults c.answer_file.new.shelf)) c.args.second.now (plain_script c.args.script.now) c.args.chain.now
    c.answer_file.result c.requires.chain spelled c.answer_file.ensures.stop
