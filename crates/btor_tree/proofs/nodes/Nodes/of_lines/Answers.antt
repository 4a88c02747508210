use Rattle.std.proofs.Common.{rules, arith}
use Rattle.btor_tree.specs.Fits.{is_input, is_state, is_bad}
use Rattle.btor_tree.proofs.Grows.{item_at, count_step, count_few}
use Rattle.btor_tree.proofs.nodes.Nodes.of_lines.Goals as goal

pub overflow_add-inputs : goal.overflow_add-inputs
overflow_add-inputs c =
    let here = item_at c.args.lines.items c.deref-line-items.result.now c.loop-line.line-index c.line-item.result c.deref-line-items.ensures.value c.line-item.is c.loop-line-test.true in
    omega (arith, count_few is_input c.args.lines.items c.loop-line.line-index c.loop-line.inputs c.one_where-inputs.result c.line-item.result c.requires here c.loop-line.invariant.inputs (search rules))

pub overflow_add-states : goal.overflow_add-states
overflow_add-states c =
    let here = item_at c.args.lines.items c.deref-line-items.result.now c.loop-line.line-index c.line-item.result c.deref-line-items.ensures.value c.line-item.is c.loop-line-test.true in
    omega (arith, count_few is_state c.args.lines.items c.loop-line.line-index c.loop-line.states c.one_where-states.result c.line-item.result c.requires here c.loop-line.invariant.states (search rules))

pub overflow_add-bads : goal.overflow_add-bads
overflow_add-bads c =
    let here = item_at c.args.lines.items c.deref-line-items.result.now c.loop-line.line-index c.line-item.result c.deref-line-items.ensures.value c.line-item.is c.loop-line-test.true in
    omega (arith, count_few is_bad c.args.lines.items c.loop-line.line-index c.loop-line.bads c.one_where-bads.result c.line-item.result c.requires here c.loop-line.invariant.bads (search rules))

pub loop-line-preserved : goal.loop-line-preserved
loop-line-preserved c =
    let here = item_at c.args.lines.items c.deref-line-items.result.now c.loop-line.line-index c.line-item.result c.deref-line-items.ensures.value c.line-item.is c.loop-line-test.true in
    record {
      inputs = count_step is_input c.args.lines.items c.loop-line.line-index c.loop-line.inputs c.one_where-inputs.result c.line-item.result here c.loop-line.invariant.inputs (search rules);
      states = count_step is_state c.args.lines.items c.loop-line.line-index c.loop-line.states c.one_where-states.result c.line-item.result here c.loop-line.invariant.states (search rules);
      bads = count_step is_bad c.args.lines.items c.loop-line.line-index c.loop-line.bads c.one_where-bads.result c.line-item.result here c.loop-line.invariant.bads (search rules);
    }
