use Rattle.std.proofs.Common.{◌∙◌, ap}
use Rattle.moxi_scripts.specs.declared.script.Query.{Query}
use Rattle.moxi_scripts.specs.Asking.{no_query}
use Rattle.moxi_trace.specs.Texts.{symbol_text}
use Rattle.moxi_judge.proofs.Elements.{found_at}
use Rattle.moxi_commands.proofs.Stated.{met_is}
use Rattle.moxi_commands.proofs.judge.met_answer.Goals as goal

pub returns : goal.returns
returns c =
    met_is c.args.script.now c.args.answered.now c.in_ok-symbol.symbol c.last_step.result
    (c.in_ok-symbol.ensures ∙ ap symbol_text c.bytes.ensures ∙ ap (λ (q : Query). symbol_text q.name) (found_at c.args.script.now.check.queries c.args.answered.now.query c.at-query.result.now no_query c.requires.query c.at-query.ensures))
    c.last_step.ensures
