use Rattle.moxi_terms.specs.View.{plain}
use Rattle.std.proofs.Common.{sym, ◌∙◌}
use Rattle.moxi_to_btor.proofs.PartSteps.{trans_step, trans_gate, trans_truth}
use Rattle.moxi_to_btor.proofs.parts.put_trans.Goals as goal

pub put_step-requires : goal.put_step-requires
put_step-requires c = trans_step c.args.scope.now c.args.inputs.now c.args.builder.now (plain c.args.term.now) c.requires (sym c.is_true_term.ensures ∙ c.if-is_true_term.false)

pub put_binary-requires : goal.put_binary-requires
put_binary-requires c =
    trans_gate c.args.scope.now c.args.inputs.now c.args.builder.now (plain c.args.term.now) c.requires (sym c.is_true_term.ensures ∙ c.if-is_true_term.false) (c.put_step.new.builder, c.in_ok-place.place) c.in_ok-place.ensures

pub put_constraint-requires : goal.put_constraint-requires
put_constraint-requires c =
    trans_truth c.args.scope.now c.args.inputs.now c.args.builder.now (plain c.args.term.now) c.requires (sym c.is_true_term.ensures ∙ c.if-is_true_term.false) (c.put_step.new.builder, c.in_ok-place.place) (c.put_binary.new.builder, c.in_ok-gated.gated)
    c.in_ok-place.ensures c.in_ok-gated.ensures
