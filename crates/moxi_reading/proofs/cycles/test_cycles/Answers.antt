use Rattle.std.proofs.Common.{length, map, arith, ap, ◌∙◌}
use Rattle.std.proofs.lemmas.List.{length-map}
use Rattle.digraph.specs.Graph.{is_graph}
use Rattle.moxi_scripts.specs.Collecting.{also}
use Rattle.moxi_scripts.specs.Cycles.{all_cycles}
use Rattle.moxi_declarations.specs.Views.{plain_reading}
use Rattle.moxi_scripts.proofs.CycleLaws.{graph_is, graph_long}
use Rattle.moxi_reading.proofs.cycles.test_cycles.Goals as goal

pub of-requires : goal.of-requires
of-requires c = ap is_graph c.in_ok-graph.ensures ∙ graph_is (map plain_reading c.args.systems.now) c.args.names.now

pub test_all_uses-requires-clause-graph : goal.test_all_uses-requires-clause-graph
test_all_uses-requires-clause-graph c = ap is_graph c.in_ok-graph.ensures ∙ graph_is (map plain_reading c.args.systems.now) c.args.names.now

pub test_all_uses-requires-clause-few : goal.test_all_uses-requires-clause-few
test_all_uses-requires-clause-few c =
    let rs = map plain_reading c.args.systems.now in
    omega (arith, ap length c.in_ok-graph.ensures, graph_long rs c.args.names.now, length-map c.args.systems.now plain_reading, c.requires)

pub test_all_uses-requires-clause-there : goal.test_all_uses-requires-clause-there
test_all_uses-requires-clause-there c =
    let rs = map plain_reading c.args.systems.now in
    omega (arith, ap length c.in_ok-graph.ensures, graph_long rs c.args.names.now)

pub returns : goal.returns
returns c =
    let rs = map plain_reading c.args.systems.now in
    c.in_ok-test_all_uses.ensures ∙ ap (λ g. also c.args.found.now (all_cycles g 0 rs)) c.in_ok-graph.ensures
