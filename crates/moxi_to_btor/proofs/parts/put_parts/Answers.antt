use Rattle.std.proofs.Common.{◌∙◌, ◌+◌, map, drop, subst, sym, ap}
use Rattle.moxi_instantiate.specs.PlainParts.{plain_part}
use Rattle.moxi_lines.specs.Lines.{with_parts}
use Rattle.moxi_to_btor.specs.Putting.{CanPutParts}
use Rattle.moxi_to_btor.proofs.PartSteps.{first_part, rest_parts}
use Rattle.moxi_to_btor.proofs.VariableSteps.{next_item}
use Rattle.moxi_to_btor.proofs.parts.put_parts.Goals as goal

pub put_part-requires : goal.put_part-requires
put_part-requires c =
    let l = c.loop-part in
    let ps = c.args.parts.now in
    let x = c.part-item.result in
    let e = ap (map plain_part) (next_item ps l.part-index x c.loop-part-test.true c.part-item.is) in
    first_part c.args.scope.now c.args.inputs.now l.builder (plain_part x) (map plain_part (drop (l.part-index + 1) ps)) (subst (CanPutParts c.args.scope.now c.args.inputs.now l.builder) e l.invariant.can)

pub loop-part-preserved : goal.loop-part-preserved
loop-part-preserved c =
    let s = c.args.scope.now in
    let inputs = c.args.inputs.now in
    let l = c.loop-part in
    let ps = c.args.parts.now in
    let x = c.part-item.result in
    let rest = map plain_part (drop (l.part-index + 1) ps) in
    let e = ap (map plain_part) (next_item ps l.part-index x c.loop-part-test.true c.part-item.is) in
    record {
      told = ap (λ ls. with_parts s inputs ls rest) c.in_ok-put_part.ensures ∙ sym (ap (with_parts s inputs l.builder) e) ∙ l.invariant.told;
      can = rest_parts s inputs l.builder c.put_part.new.builder (plain_part x) rest (subst (CanPutParts s inputs l.builder) e l.invariant.can) c.in_ok-put_part.ensures;
    }
