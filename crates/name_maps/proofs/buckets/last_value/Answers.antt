use Rattle.std.proofs.Common.{sym, ◌∙◌, arith}
use Rattle.name_maps.proofs.RowLemmas.{last_found, last_passed}
use Rattle.name_maps.proofs.buckets.last_value.Goals as goal

pub returns-then-is_row_of : goal.returns-then-is_row_of
returns-then-is_row_of g c =
    last_found c.args.rows.now c.loop-k.k c.index-rows-k.result c.args.i c.args.name.now (omega (arith, c.loop-k-test.true)) c.loop-k.invariant.within c.index-rows-k.is (sym c.is_row_of.ensures ∙ c.if-is_row_of.true) c.loop-k.invariant.has

pub loop-k-preserved : goal.loop-k-preserved
loop-k-preserved g c = record {
  within = omega (arith, c.loop-k.invariant.within);
  has = last_passed c.args.rows.now c.loop-k.k c.index-rows-k.result c.args.i c.args.name.now (omega (arith, c.loop-k-test.true)) c.loop-k.invariant.within c.index-rows-k.is (sym c.is_row_of.ensures ∙ c.if-is_row_of.false) c.loop-k.invariant.has;
}
