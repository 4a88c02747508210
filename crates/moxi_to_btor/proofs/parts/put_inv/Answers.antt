use Rattle.moxi_terms.specs.View.{plain}
use Rattle.std.proofs.Common.{sym, ◌∙◌}
use Rattle.moxi_to_btor.proofs.PartSteps.{inv_formula, inv_truth}
use Rattle.moxi_to_btor.proofs.parts.put_inv.Goals as goal

pub put_formula-requires : goal.put_formula-requires
put_formula-requires c = inv_formula c.args.scope.now c.args.inputs.now c.args.builder.now (plain c.args.term.now) c.requires (sym c.is_true_term.ensures ∙ c.if-is_true_term.false)

pub put_constraint-requires : goal.put_constraint-requires
put_constraint-requires c =
    inv_truth c.args.scope.now c.args.inputs.now c.args.builder.now (plain c.args.term.now) c.requires (sym c.is_true_term.ensures ∙ c.if-is_true_term.false) (c.put_formula.new.builder, c.in_ok-place.place) c.in_ok-place.ensures
