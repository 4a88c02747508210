use Rattle.std.proofs.Common.{◌∙◌, [], ap}
use Rattle.moxi_to_btor.proofs.Stepping.{made_same}
use Rattle.moxi_lines.specs.Lines.{with_all_met}
use Rattle.moxi_to_btor.specs.Queries.{reaching}
use Rattle.moxi_to_btor.proofs.GoalSteps.{several_all_met, several_end, several_start}
use Rattle.moxi_to_btor.proofs.queries.put_several.Goals as goal

pub put_reachables-requires : goal.put_reachables-requires
put_reachables-requires c =
    let f = c.args.system.now in
    let inputs = c.args.inputs.now in
    let q = c.args.query.now in
    let before = c.args.before.now in
    let lines = c.args.builder.now in
    let m = reaching lines c.new-formulas.result.items c.new-seen.result.items in
    let nothing = ap (λ fs. reaching lines fs c.new-seen.result.items) c.new-formulas.ensures.items ∙ ap (reaching lines []) c.new-seen.ensures.items in
    several_start f inputs q before lines c.requires c.bytes.result.now m c.as_slice.result.now c.bytes.ensures nothing c.as_slice.ensures

pub put_all_met-requires : goal.put_all_met-requires
put_all_met-requires c =
    let f = c.args.system.now in
    let inputs = c.args.inputs.now in
    let q = c.args.query.now in
    let before = c.args.before.now in
    let lines = c.args.builder.now in
    let m = reaching lines c.new-formulas.result.items c.new-seen.result.items in
    let nothing = ap (λ fs. reaching lines fs c.new-seen.result.items) c.new-formulas.ensures.items ∙ ap (reaching lines []) c.new-seen.ensures.items in
    let new = c.put_reachables.new.builder in
    let n = reaching new c.deref.result.now c.deref-2.result.now in
    let all = ap (λ fs. reaching new fs c.deref-2.result.now) c.deref.ensures.value ∙ ap (reaching new c.put_reachables.new.formulas.items) c.deref-2.ensures.value ∙ c.in_ok-put_reachables.ensures
    ∙ several_end f inputs q before lines c.requires c.bytes.result.now m c.as_slice.result.now c.bytes.ensures nothing c.as_slice.ensures in
    several_all_met f inputs q before lines c.requires n all

pub returns : goal.returns
returns c =
    let f = c.args.system.now in
    let inputs = c.args.inputs.now in
    let q = c.args.query.now in
    let before = c.args.before.now in
    let lines = c.args.builder.now in
    let m = reaching lines c.new-formulas.result.items c.new-seen.result.items in
    let nothing = ap (λ fs. reaching lines fs c.new-seen.result.items) c.new-formulas.ensures.items ∙ ap (reaching lines []) c.new-seen.ensures.items in
    let new = c.put_reachables.new.builder in
    let n = reaching new c.deref.result.now c.deref-2.result.now in
    let all = ap (λ fs. reaching new fs c.deref-2.result.now) c.deref.ensures.value ∙ ap (reaching new c.put_reachables.new.formulas.items) c.deref-2.ensures.value ∙ c.in_ok-put_reachables.ensures
    ∙ several_end f inputs q before lines c.requires c.bytes.result.now m c.as_slice.result.now c.bytes.ensures nothing c.as_slice.ensures in
    made_same c.put_all_met.result c.put_all_met.new.builder _ _ (ap (λ m. with_all_met m before) all) c.put_all_met.ensures
