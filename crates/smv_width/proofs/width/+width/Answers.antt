use Rattle.std.proofs.Common.{map, option_map, rules}
use Rattle.smv_intervals.specs.View.{seen}
use Rattle.smv_flat.specs.FlatTree.{flat_links_of}
use Rattle.smv_flat.specs.FlatView.{plain_flat_link}
use Rattle.smv_flat.specs.FlatWidth.{links_width}
use Rattle.smv_flat.specs.laws.FlatSteps.{drop_item}
use Rattle.smv_width.proofs.WidthLemmas.{links_on, chain_at}
use Rattle.smv_width.proofs.width.+width.Goals as goal

pub expr_width-returns-in-Chain-clause-value : goal.expr_width-returns-in-Chain-clause-value
expr_width-returns-in-Chain-clause-value t c = rw (chain_at c.args.expr.now c.in-Chain.first c.in-Chain.links c.in-Chain.is) (search rules)

pub links_width-loop-link-preserved : goal.links_width-loop-link-preserved
links_width-loop-link-preserved t c = record {
  value = rw (c.greater-width.ensures.value, c.greater.ensures.value) (
      links_on c.args.links.now c.loop-link.link-index c.link-item.result (option_map seen c.loop-link.whole) (option_map seen c.front-whole.result)
      c.loop-link.width c.operand_width-operand.result c.node_width.result (links_width (option_map seen c.args.first) (flat_links_of (map plain_flat_link c.args.links.now)))
      (drop_item c.args.links.now c.loop-link.link-index c.link-item.result c.loop-link-test.true c.link-item.is) (rw (← c.expr_width.ensures.value) c.operand_width-operand.ensures.value) (rw (← c.divisor_of.ensures) c.front-whole.ensures) c.node_width.ensures.value c.loop-link.invariant.value
      );
  bound = c.greater-width.ensures.bound;
}
