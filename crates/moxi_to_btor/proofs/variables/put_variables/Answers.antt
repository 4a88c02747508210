use Rattle.std.proofs.Common.{◌∙◌, ◌+◌, drop, subst, sym, ap}
use Rattle.moxi_lines.specs.TermLines.{AllBuilt}
use Rattle.moxi_lines.specs.Lines.{with_variables}
use Rattle.moxi_to_btor.specs.Putting.{CanPutVariables}
use Rattle.moxi_to_btor.proofs.VariableSteps.{first_variable, next_item, one_is, rest_variables}
use Rattle.moxi_to_btor.proofs.variables.put_variables.Goals as goal

pub put_variable-requires : goal.put_variable-requires
put_variable-requires c =
    let l = c.loop-variable in
    let vs = c.as_slice-variable-items.result.now in
    let x = c.variable-item.result in
    let m : AllBuilt = (l.builder, l.inputs.items) in
    let e = next_item vs l.variable-index x c.loop-variable-test.true c.variable-item.is in
    first_variable c.args.enumerations.now m x (drop (l.variable-index + 1) vs) (subst (CanPutVariables c.args.enumerations.now m) e l.invariant.can)

pub loop-variable-preserved : goal.loop-variable-preserved
loop-variable-preserved c =
    let es = c.args.enumerations.now in
    let l = c.loop-variable in
    let vs = c.as_slice-variable-items.result.now in
    let x = c.variable-item.result in
    let m : AllBuilt = (l.builder, l.inputs.items) in
    let n : AllBuilt = (c.put_variable.new.builder, c.put_place.new.places.items) in
    let rest = drop (l.variable-index + 1) vs in
    let e = next_item vs l.variable-index x c.loop-variable-test.true c.variable-item.is in
    let made = one_is es m x c.put_variable.new.builder c.in_ok-input.input c.put_place.new.places.items c.in_ok-input.ensures c.in_ok-put_place.ensures in
    record {
      told = ap (λ n. with_variables es n rest) made ∙ sym (ap (with_variables es m) e) ∙ l.invariant.told;
      can = rest_variables es m n x rest (subst (CanPutVariables es m) e l.invariant.can) made;
    }
