use Rattle.std.proofs.Common.{◌∙◌, ◌+◌, get_or, map, drop, subst, sym, ap}
use Rattle.moxi_scripts.specs.Script.{formula_at, plain_formula}
use Rattle.moxi_lines.specs.Lines.{with_assumptions, with_formula}
use Rattle.moxi_to_btor.specs.Queries.{CanPutNumbered, CanPutAssumptions}
use Rattle.moxi_to_btor.proofs.ConditionSteps.{first_assumption, rest_assumptions, assumption_is}
use Rattle.moxi_to_btor.proofs.VariableSteps.{next_number}
use Rattle.moxi_to_btor.proofs.conditions.put_assumptions.Goals as goal
use Rattle.moxi_to_btor.proofs.Stepping.{all_made}

pub put_numbered-requires : goal.put_numbered-requires
put_numbered-requires c =
    let f = c.args.system.now in
    let inputs = c.args.inputs.now in
    let l = c.loop-number in
    let ns = c.args.numbers.now in
    let x = get_or ns l.number-index 0 in
    let m = all_made l.builder l.parts.items in
    let e = next_number ns l.number-index c.loop-number-test.true in
    subst (λ s. CanPutNumbered s inputs l.builder (map plain_formula c.assumptions.result.now) x) (sym c.scope.ensures) (subst (λ fs. CanPutNumbered f.scope inputs l.builder fs x) (sym c.assumptions.ensures)
    (first_assumption f inputs m x (drop (l.number-index + 1) ns) (subst (CanPutAssumptions f inputs m) e l.invariant.can)))

pub loop-number-preserved : goal.loop-number-preserved
loop-number-preserved c =
    let f = c.args.system.now in
    let inputs = c.args.inputs.now in
    let l = c.loop-number in
    let ns = c.args.numbers.now in
    let x = get_or ns l.number-index 0 in
    let m = all_made l.builder l.parts.items in
    let n = all_made c.put_numbered.new.builder c.put_place.new.places.items in
    let rest = drop (l.number-index + 1) ns in
    let e = next_number ns l.number-index c.loop-number-test.true in
    let here = c.in_ok-place.ensures ∙ ap (λ s. with_formula s inputs l.builder (formula_at (map plain_formula c.assumptions.result.now) x)) c.scope.ensures ∙ ap (λ fs. with_formula f.scope inputs l.builder (formula_at fs x)) c.assumptions.ensures in
    let one = assumption_is f inputs m x c.put_numbered.new.builder c.in_ok-place.place c.put_place.new.places.items here c.in_ok-put_place.ensures in
    record {
      told = ap (λ n. with_assumptions f inputs n rest) one ∙ sym (ap (with_assumptions f inputs m) e) ∙ l.invariant.told;
      can = rest_assumptions f inputs m n x rest (subst (CanPutAssumptions f inputs m) e l.invariant.can) one;
    }
