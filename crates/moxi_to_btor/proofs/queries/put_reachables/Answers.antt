use Rattle.std.proofs.Common.{◌∙◌, ◌+◌, get_or, drop, subst, sym, ap}
use Rattle.moxi_lines.specs.Lines.{with_reachables}
use Rattle.moxi_to_btor.specs.Queries.{CanPutReachables, reaching}
use Rattle.moxi_to_btor.proofs.QuerySteps.{first_reachable, rest_reachables}
use Rattle.moxi_to_btor.proofs.VariableSteps.{next_number}
use Rattle.moxi_to_btor.proofs.queries.put_reachables.Goals as goal

pub put_reachable-requires : goal.put_reachable-requires
put_reachable-requires c =
    let f = c.args.system.now in
    let inputs = c.args.inputs.now in
    let name = c.args.name.now in
    let l = c.loop-number in
    let ns = c.args.numbers.now in
    let x = get_or ns l.number-index 0 in
    let m = reaching l.builder l.formulas.items l.seen.items in
    first_reachable f inputs name m x (drop (l.number-index + 1) ns) (subst (CanPutReachables f inputs name m) (next_number ns l.number-index c.loop-number-test.true) l.invariant.can)

pub loop-number-preserved : goal.loop-number-preserved
loop-number-preserved c =
    let f = c.args.system.now in
    let inputs = c.args.inputs.now in
    let name = c.args.name.now in
    let l = c.loop-number in
    let ns = c.args.numbers.now in
    let x = get_or ns l.number-index 0 in
    let m = reaching l.builder l.formulas.items l.seen.items in
    let n = reaching c.put_reachable.new.builder c.put_reachable.new.formulas.items c.put_reachable.new.seen.items in
    let rest = drop (l.number-index + 1) ns in
    let e = next_number ns l.number-index c.loop-number-test.true in
    record {
      told = ap (λ n. with_reachables f inputs name n rest) c.in_ok-put_reachable.ensures ∙ sym (ap (with_reachables f inputs name m) e) ∙ l.invariant.told;
      can = rest_reachables f inputs name m n x rest (subst (CanPutReachables f inputs name m) e l.invariant.can) c.in_ok-put_reachable.ensures;
    }
