use Rattle.std.proofs.Common.{◌<◌, length, map, refl, sym, ap, ◌∙◌, arith}
use Rattle.std.specs.Option.{option_map}
use Rattle.std.proofs.lemmas.Option.{slice_get-map, slice_get_read}
use Rattle.smv_items.specs.FlatItemView.{item_plain}
use Rattle.smv_flat_evaluation.specs.RowValues.{row_values}
use Rattle.smv_script_terms.specs.Groups.{group_plain}
use Rattle.trace_lower.specs.Stating.{variable_count, word_of}
use Rattle.trace_lower.proofs.Groups.{item_numbered, item_skipped, item_stated}
use Rattle.trace_lower.proofs.frames.state_item.Goals as goal

pub overflow_cast-index : goal.overflow_cast-index
overflow_cast-index c =
    let items = c.args.items.now in
    let there = slice_get-map item_plain items c.args.k ∙ ap (option_map item_plain) (slice_get_read items (length items) c.args.k c.index-items-k.result refl c.requires.low c.index-items-k.is) in
    let low : length c.args.inputs.now < variable_count (map item_plain items) =
    item_numbered c.args.coder.now (map item_plain items) (row_values c.args.values.now) (group_plain c.args.group) c.args.k (item_plain c.index-items-k.result) there (sym c.is_in.ensures ∙ c.if-is_in.true) c.args.inputs.now c.requires.before in
    omega (arith, low, c.requires.few, c.len-index.ensures)

pub returns-in_ok-push : goal.returns-in_ok-push
returns-in_ok-push c =
    let items = c.args.items.now in
    let there = slice_get-map item_plain items c.args.k ∙ ap (option_map item_plain) (slice_get_read items (length items) c.args.k c.index-items-k.result refl c.requires.low c.index-items-k.is) in
    item_stated c.args.coder.now (map item_plain items) (row_values c.args.values.now) (group_plain c.args.group) c.args.k (item_plain c.index-items-k.result) there (sym c.is_in.ensures ∙ c.if-is_in.true)
    c.len-index.result c.word_of-value.result c.args.inputs.now c.push.new.self c.requires.before c.len-index.ensures (c.word_of-value.ensures ∙ ap (word_of c.args.coder.now) c.item_at.ensures) c.in_ok-push.ensures.ok

pub returns-else-is_in : goal.returns-else-is_in
returns-else-is_in c =
    let items = c.args.items.now in
    let there = slice_get-map item_plain items c.args.k ∙ ap (option_map item_plain) (slice_get_read items (length items) c.args.k c.index-items-k.result refl c.requires.low c.index-items-k.is) in
    item_skipped c.args.coder.now (map item_plain items) (row_values c.args.values.now) (group_plain c.args.group) c.args.k (item_plain c.index-items-k.result) there (sym c.is_in.ensures ∙ c.if-is_in.false) c.args.inputs.now c.requires.before
