use Rattle.std.proofs.Common.{length, refl}
use Rattle.std.proofs.lemmas.List.{get_or_default}
use Rattle.name_maps.specs.Rows.{row_in}
use Rattle.smv_references.specs.laws.NumberLemmas.{with_body, read}
use Rattle.smv_references.proofs.references.numbers_of.Goals as goal

pub loop-k-preserved : goal.loop-k-preserved
loop-k-preserved c = λ i x.
    with_body c.args.bodies.now c.loop-k.k (length c.args.bodies.now) (read c.args.bodies.now c.loop-k.k) i x (row_in c.loop-k.numbers i x) (row_in c.add_first_in.new.numbers i x)
    refl c.loop-k-test.true (get_or_default c.args.bodies.now c.loop-k.k _ _ c.loop-k-test.true) (c.loop-k.invariant i x) (c.in_ok-add_first_in.ensures i x)
