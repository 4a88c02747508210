use Rattle.std.proofs.Common.{◌≡◌, ◌+◌, ◌≤◌, ◌^◌, drop, min}
use Rattle.moxi_sexpr.specs.Tree.{all_nodes, plain_forms}
use Rattle.moxi_sexpr.proofs.nodes.+count.Given as goal

abbrev pub invariant-add_all_nodes-loop-form : goal.invariant-add_all_nodes-loop-form
invariant-add_all_nodes-loop-form l = record {
  sum : min (l.all + all_nodes (plain_forms (drop l.form-index l.forms))) (2 ^ 32) ≡ min (l.count + all_nodes (plain_forms l.forms)) (2 ^ 32);
  few : l.all ≤ 2 ^ 32;
}
