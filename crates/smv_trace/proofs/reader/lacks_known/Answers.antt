use Rattle.std.proofs.Common.{◌+◌, ◌||◌, drop, sym, ap, ◌∙◌}
use Rattle.smv_items.specs.FlatItemView.{item_plain}
use Rattle.smv_trace.specs.Numbering.{lacks_known}
use Rattle.smv_trace.proofs.Lists.{lacks_on}
use Rattle.smv_trace.proofs.reader.lacks_known.Goals as goal

pub returns-then-is_missing : goal.returns-then-is_missing
returns-then-is_missing c =
    let h = c.args.heading in
    let items = c.args.table.now.items in
    let known = c.args.known.now in
    let k = c.loop-k.k in
    let here = lacks_on h items known k c.len-k-end.result (item_plain c.item.result.now) c.item.ensures (c.len-k-end.ensures ∙ sym c.requires) c.loop-k-test.true in
    sym (sym c.loop-k.invariant ∙ here ∙ ap (λ b. b || lacks_known h (drop (k + 1) items) (drop (k + 1) known)) (sym c.is_missing.ensures ∙ c.if-is_missing.true))

pub loop-k-preserved : goal.loop-k-preserved
loop-k-preserved c =
    let h = c.args.heading in
    let items = c.args.table.now.items in
    let known = c.args.known.now in
    let k = c.loop-k.k in
    let here = lacks_on h items known k c.len-k-end.result (item_plain c.item.result.now) c.item.ensures (c.len-k-end.ensures ∙ sym c.requires) c.loop-k-test.true in
    sym (here ∙ ap (λ b. b || lacks_known h (drop (k + 1) items) (drop (k + 1) known)) (sym c.is_missing.ensures ∙ c.if-is_missing.false)) ∙ c.loop-k.invariant
