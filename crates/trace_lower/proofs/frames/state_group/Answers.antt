use Rattle.std.proofs.Common.{◌≡◌, length, map, ◌∙◌, arith}
use Rattle.std.proofs.lemmas.List.{length-map}
use Rattle.smv_items.specs.FlatItemView.{item_plain}
use Rattle.smv_flat_evaluation.specs.RowValues.{row_values}
use Rattle.smv_script_terms.specs.Groups.{group_plain}
use Rattle.trace_lower.proofs.Groups.{all_stated, none_stated}
use Rattle.trace_lower.proofs.frames.state_group.Goals as goal

pub loop-k-init : goal.loop-k-init
loop-k-init c = c.requires.before ∙ none_stated c.args.coder.now (map item_plain c.args.items.now) (row_values c.args.values.now) (group_plain c.args.group)

pub returns : goal.returns
returns c =
    let items = map item_plain c.args.items.now in
    let all : c.loop-k.k ≡ length items = omega (arith, c.loop-k-test.false, c.loop-k.auto.k-end, length-map c.args.items.now item_plain) in
    c.loop-k.invariant ∙ all_stated c.args.coder.now items (row_values c.args.values.now) (group_plain c.args.group) c.loop-k.k all
