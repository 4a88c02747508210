use Rattle.std.proofs.Common.{◌≡◌, ◌≤◌, ◌++◌, ◌∷◌, [], List, length, ap, sym, subst, arith, rules}
use Rattle.std.proofs.lemmas.List.{length-append}
use Rattle.smv_operators.specs.declared.seen.Seen.{Seen}
use Rattle.smv_rows.proofs.VariableRows.{row_empty, row_grown}
use Rattle.smv_rows.proofs.variables.clear_values.Goals as goal

pub loop-values-init : goal.loop-values-init
loop-values-init c = record {
  most = subst (λ (xs : List Seen). length xs ≤ c.args.count) (sym c.clear.ensures.items) (omega arith);
  none = row_empty c.clear.new.self.items c.clear.ensures.items;
}

pub loop-values-preserved : goal.loop-values-preserved
loop-values-preserved c =
    let items : c.push.new.self.items ≡ c.loop-values.values.items ++ c.no_seen.result ∷ [] = search (rules, c.push.ensures.items, c.is_err.ensures.value, c.is_err.ensures.negation, c.if-is_err.false) in
    let grown = ap length items in
    let more = length-append c.loop-values.values.items (c.no_seen.result ∷ []) in
    record {
      most = omega (arith, grown, more, c.loop-values-test.true, c.len.ensures);
      none = row_grown c.loop-values.values.items c.push.new.self.items c.no_seen.result items c.no_seen.ensures c.loop-values.invariant.none;
    }
