use Rattle.std.proofs.Common.{◌∙◌, ◌+◌, get_or, map, drop, subst, sym, ap}
use Rattle.moxi_scripts.specs.Script.{plain_formula}
use Rattle.moxi_lines.specs.Lines.{with_currents}
use Rattle.moxi_to_btor.specs.Queries.{CanPutCurrent, CanPutCurrents, current_lines}
use Rattle.moxi_to_btor.proofs.ConditionSteps.{first_current, rest_currents, current_is}
use Rattle.moxi_to_btor.proofs.VariableSteps.{next_number}
use Rattle.moxi_to_btor.proofs.conditions.put_currents.Goals as goal
use Rattle.moxi_to_btor.proofs.Stepping.{all_made}

pub put_current-requires : goal.put_current-requires
put_current-requires c =
    let f = c.args.system.now in
    let inputs = c.args.inputs.now in
    let l = c.loop-number in
    let ns = c.args.numbers.now in
    let x = get_or ns l.number-index 0 in
    let m = all_made l.builder l.parts.items in
    let e = next_number ns l.number-index c.loop-number-test.true in
    subst (λ s. CanPutCurrent s inputs l.builder (map plain_formula c.currents.result.now) x) (sym c.scope.ensures) (subst (λ fs. CanPutCurrent f.scope inputs l.builder fs x) (sym c.currents.ensures)
    (first_current f inputs m x (drop (l.number-index + 1) ns) (subst (CanPutCurrents f inputs m) e l.invariant.can)))

pub loop-number-preserved : goal.loop-number-preserved
loop-number-preserved c =
    let f = c.args.system.now in
    let inputs = c.args.inputs.now in
    let l = c.loop-number in
    let ns = c.args.numbers.now in
    let x = get_or ns l.number-index 0 in
    let m = all_made l.builder l.parts.items in
    let n = all_made c.put_current.new.builder c.put_place.new.places.items in
    let rest = drop (l.number-index + 1) ns in
    let e = next_number ns l.number-index c.loop-number-test.true in
    let here = c.in_ok-place.ensures ∙ ap (λ s. current_lines s inputs l.builder (map plain_formula c.currents.result.now) x) c.scope.ensures ∙ ap (λ fs. current_lines f.scope inputs l.builder fs x) c.currents.ensures in
    let one = current_is f inputs m x c.put_current.new.builder c.in_ok-place.place c.put_place.new.places.items here c.in_ok-put_place.ensures in
    record {
      told = ap (λ n. with_currents f inputs n rest) one ∙ sym (ap (with_currents f inputs m) e) ∙ l.invariant.told;
      can = rest_currents f inputs m n x rest (subst (CanPutCurrents f inputs m) e l.invariant.can) one;
    }
