use Rattle.moxi_terms.specs.View.{plain}
use Rattle.moxi_to_btor.proofs.PartSteps.{formula_whole}
use Rattle.moxi_to_btor.proofs.parts.put_formula.Goals as goal

pub put_term-requires : goal.put_term-requires
put_term-requires c = formula_whole c.args.scope.now c.args.inputs c.args.builder.now (plain c.args.term.now) c.requires
