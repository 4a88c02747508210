use Rattle.std.proofs.Common.{◌<◌, Some, length, sym, ◌∙◌, arith, ◌≡◌, get_or, ap}
use Rattle.std.proofs.Math.ListN.{length-set}
use Rattle.btor_witness.specs.Printing.{IsBelow}
use Rattle.btor_witness.proofs.Tables.{all_at, table_more}
use Rattle.btor_witness.proofs.print.table_of.Goals as goal

pub loop-one-preserved : goal.loop-one-preserved
loop-one-preserved c =
    let stated = c.args.stated.now in
    let s = c.one-item.result in
    let lt : c.loop-one.one-index < length stated = omega (arith, c.loop-one-test.true, ap length c.as_slice-one-items.ensures) in
    let at : get_or stated c.loop-one.one-index s ≡ s =
    ap (λ xs. get_or xs c.loop-one.one-index s) (sym c.as_slice-one-items.ensures) ∙ sym c.one-item.is in
    let below : s.index < c.args.count = all_at (IsBelow c.args.count) stated c.loop-one.one-index s c.requires lt at in
    record {
      long = length-set c.loop-one.table.items s.index (Some s.value) ∙ c.loop-one.invariant.long;
      by_index = table_more c.loop-one.table.items stated c.loop-one.one-index s lt at (omega (arith, below, c.loop-one.invariant.long)) c.loop-one.invariant.by_index;
    }
