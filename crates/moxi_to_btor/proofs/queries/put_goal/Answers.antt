use Rattle.std.proofs.Common.{◌∙◌, ◌∷◌, [], map, ap, subst, sym}
use Rattle.moxi_scripts.specs.Script.{formula_at, plain_formula}
use Rattle.moxi_lines.specs.Lines.{with_formula}
use Rattle.moxi_to_btor.specs.Queries.{CanPutNumbered}
use Rattle.moxi_to_btor.proofs.GoalSteps.{goal_numbered, goal_one, goal_several_can, only_one}
use Rattle.moxi_to_btor.proofs.queries.put_goal.Goals as goal
use Rattle.moxi_to_btor.proofs.Stepping.{made}

pub put_numbered-requires : goal.put_numbered-requires
put_numbered-requires c =
    let f = c.args.system.now in
    let inputs = c.args.inputs.now in
    let q = c.args.query.now in
    let before = c.args.before.now in
    let lines = c.args.builder.now in
    let r = c.at-number.result.now in
    let only = only_one q.reachables r (sym c.len.ensures ∙ c.if-len-eq1.true) ∙ ap (λ y. y ∷ []) (sym c.at-number.ensures) in
    subst (λ s. CanPutNumbered s inputs lines (map plain_formula c.reachables.result.now) r) (sym c.scope.ensures) (subst (λ fs. CanPutNumbered f.scope inputs lines fs r) (sym c.reachables.ensures) (goal_numbered f inputs q before lines c.requires r only))

pub put_one_met-requires : goal.put_one_met-requires
put_one_met-requires c =
    let f = c.args.system.now in
    let inputs = c.args.inputs.now in
    let q = c.args.query.now in
    let before = c.args.before.now in
    let lines = c.args.builder.now in
    let r = c.at-number.result.now in
    let only = only_one q.reachables r (sym c.len.ensures ∙ c.if-len-eq1.true) ∙ ap (λ y. y ∷ []) (sym c.at-number.ensures) in
    let place = c.in_ok-place.ensures ∙ ap (λ s. with_formula s inputs lines (formula_at (map plain_formula c.reachables.result.now) r)) c.scope.ensures ∙ ap (λ fs. with_formula f.scope inputs lines (formula_at fs r)) c.reachables.ensures in
    goal_one f inputs q before lines c.requires r (made c.put_numbered.new.builder c.in_ok-place.place) only place

pub put_several-requires : goal.put_several-requires
put_several-requires c =
    let f = c.args.system.now in
    let inputs = c.args.inputs.now in
    let q = c.args.query.now in
    let before = c.args.before.now in
    let lines = c.args.builder.now in
    goal_several_can f inputs q before lines c.requires (λ e. c.if-len-eq1.false (c.len.ensures ∙ e))
