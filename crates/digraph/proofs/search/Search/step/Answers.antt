use Rattle.std.proofs.Common.{◌≡◌, length, sym, subst, ap, ◌∙◌}
use Rattle.digraph.specs.Graph.{next_of}
use Rattle.digraph.specs.Searching.{State, IsStep}
use Rattle.digraph.specs.declared.search.Step.TheVariants.{Went}
use Rattle.digraph.proofs.Laws.{closed_step, turned_step, returned_step, row_is}
use Rattle.digraph.proofs.search.Search.step.Goals as goal

pub returns-then-end-len : goal.returns-then-end-len
returns-then-end-len c =
    let h = c.in-Some.ensures in
    let row = row_is c.args.graph.now c.in-Some.end.node c.at-row.result.now h.there c.at-row.ensures in
    let all : c.in-Some.end.edge ≡ length (next_of c.args.graph.now c.in-Some.end.node) = c.if-end-len.true ∙ c.len.ensures ∙ sym (ap length row) in
    subst (λ (t : State). IsStep c.args.graph.now c.args.self.now t Went) (sym c.in_ok-close.ensures)
    (closed_step c.args.graph.now c.args.self.now c.take_end.new.self c.in-Some.end c.requires.search h all)

pub returns-then-is_open : goal.returns-then-is_open
returns-then-is_open c =
    returned_step c.args.graph.now c.args.self.now c.take_end.new.self c.in-Some.end c.at-next.result.now c.at-row.result.now c.requires.graph c.requires.search c.in-Some.ensures c.at-row.ensures
    (λ e. c.if-end-len.false (e ∙ sym c.len.ensures)) c.at-next.ensures (sym c.is_open.ensures ∙ c.if-is_open.true)

pub returns : goal.returns
returns c =
    subst (λ (t : State). IsStep c.args.graph.now c.args.self.now t Went) (sym c.in_ok-turn.ensures)
    (turned_step c.args.graph.now c.args.self.now c.take_end.new.self c.in-Some.end c.at-next.result.now c.at-row.result.now c.requires.graph c.requires.search c.in-Some.ensures c.at-row.ensures
    (λ e. c.if-end-len.false (e ∙ sym c.len.ensures)) c.at-next.ensures (sym c.is_open.ensures ∙ c.if-is_open.false))
