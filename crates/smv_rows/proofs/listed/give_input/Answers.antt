use Rattle.std.proofs.Common.{sym, ◌∙◌}
use Rattle.smv_flat_evaluation.specs.RowValues.{row_values}
use Rattle.smv_rows.proofs.Inputs.{one_set, none_set}
use Rattle.smv_rows.proofs.listed.give_input.Goals as goal

pub returns-then-is_input-clause-value : goal.returns-then-is_input-clause-value
returns-then-is_input-clause-value c =
    one_set c.args.item.now c.args.values.now.items c.args.k c.item_at.result (row_values c.args.other.now c.args.k) c.requires c.item_at.ensures (sym c.is_input.ensures ∙ c.if-is_input.true)

pub returns-else-is_input-clause-value : goal.returns-else-is_input-clause-value
returns-else-is_input-clause-value c = none_set c.args.item.now c.args.values.now.items c.args.k (row_values c.args.other.now c.args.k) (sym c.is_input.ensures ∙ c.if-is_input.false)
