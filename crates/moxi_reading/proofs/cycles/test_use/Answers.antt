use Rattle.std.proofs.Common.{length, suc, ap, sym, rules, ◌∙◌}
use Rattle.digraph.specs.Graph.{leads}
use Rattle.moxi_attributes.specs.laws.Collecting.{also_none}
use Rattle.moxi_scripts.specs.Collecting.{also, fails_if}
use Rattle.moxi_scripts.proofs.CycleLaws.{returning_is}
use Rattle.moxi_reading.proofs.cycles.test_use.Goals as goal

pub returns-then-comes_later : goal.returns-then-comes_later
returns-then-comes_later c =
    let a = c.args in
    sym (c.comes_later.ensures c.if-comes_later.true (leads a.graph.now (suc (length a.graph.now)) a.node a.node))

pub returns-then-not-may_return : goal.returns-then-not-may_return
returns-then-not-may_return c =
    let a = c.args in
    sym (ap (λ b. also a.found.now (fails_if b 11 a.u.now.place)) (c.may_return.ensures (suc (length a.graph.now)) (search (rules, c.if-not-may_return.true))) ∙ also_none a.found.now)

pub returns : goal.returns
returns c =
    let a = c.args in
    c.fail_if.ensures ∙ ap (λ b. also a.found.now (fails_if b 11 a.u.now.place)) (returning_is a.graph.now a.node c.in_ok-leads.leads c.in_ok-leads.ensures)
