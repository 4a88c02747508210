use Rattle.moxi_terms.specs.View.{plain}
use Rattle.moxi_to_btor.proofs.PartSteps.{step_whole}
use Rattle.moxi_to_btor.proofs.parts.put_step.Goals as goal

pub put_term-requires : goal.put_term-requires
put_term-requires c = step_whole c.args.scope.now c.args.inputs c.args.builder.now (plain c.args.term.now) c.requires
