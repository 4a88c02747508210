use Rattle.std.proofs.Common.{◌≡◌, ◌++◌, ◌+◌, ◌-◌, append-nil, arith, ap, sym, ◌∙◌}
use Rattle.moxi_scripts.specs.Cycles.{nodes_from}
use Rattle.moxi_attributes.specs.laws.Collecting.{list_step}
use Rattle.moxi_scripts.proofs.CycleLaws.{nodes_end, nodes_step}
use Rattle.moxi_reading.proofs.cycles.nodes_from.Goals as goal

pub loop-i-init : goal.loop-i-init
loop-i-init c =
    let s = c.args.start in
    let n = c.args.count in
    ap (λ xs. xs ++ nodes_from (s + 0) (n - 0)) c.new-nodes.ensures ∙ ap (λ k. nodes_from k (n - 0)) (let e : s + 0 ≡ s = omega arith in e) ∙ ap (nodes_from s) (let e : n - 0 ≡ n = omega arith in e)

pub loop-i-preserved : goal.loop-i-preserved
loop-i-preserved c =
    let l = c.loop-i in
    list_step _ _ _ _ _ _ c.in_ok-push.ensures.ok (nodes_step c.args.start c.args.count l.i c.loop-i-test.true) l.invariant

pub returns : goal.returns
returns c =
    let l = c.loop-i in
    sym (append-nil l.nodes) ∙ ap (λ x. l.nodes ++ x) (sym (nodes_end c.args.start c.args.count l.i c.loop-i-test.false)) ∙ l.invariant
