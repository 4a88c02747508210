use Rattle.std.proofs.Common.{ap, ◌∙◌}
use Rattle.btor_tree.specs.Printing.{printed}
use Rattle.smv_commands.proofs.Texts.{form_text}
use Rattle.smv_commands.proofs.translate.chain_text.Goals as goal

pub returns-clause-text : goal.returns-clause-text
returns-clause-text c = λ source form. c.in_ok-print_btor.ensures.printed ∙ ap printed c.nodes.ensures ∙ form_text source c.args.chain.now form
