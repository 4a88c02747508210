use Rattle.std.proofs.Common.{◌<◌, ◌+◌, length, refl, ap, ◌∙◌, subst}
use Rattle.std.specs.Prelude.{slice_index_or}
use Rattle.moxi_instantiate.specs.Copying.{number_in}
use Rattle.moxi_instantiate.proofs.Placed.{actual_placed, local_placed, more_long, one_place, placed_on}
use Rattle.moxi_instantiate.proofs.parts.places_inside.Goals as goal

pub loop-number-preserved : goal.loop-number-preserved
loop-number-preserved c =
    let place = number_in c.args.places.now in
    let actuals = c.args.actuals.now in
    let a = c.loop-number.number-index in
    let x = c.number_of-place.result in
    let l : c.loop-number.number-index < length c.args.actuals.now = subst (λ xs. a < length xs) c.as_slice-numbers.ensures c.loop-number-test.true in
    let own = c.number_of-place.ensures ∙ ap (λ xs. place (slice_index_or xs a 0)) c.as_slice-numbers.ensures in
    record {
      long = one_place c.loop-number.inside.items c.put_place.new.places.items x a c.in_ok-put_place.ensures c.loop-number.invariant.long;
      placed =
          placed_on place actuals c.args.fresh x c.loop-number.inside.items c.put_place.new.places.items c.in_ok-put_place.ensures
          (actual_placed place actuals c.args.fresh a x (length c.loop-number.inside.items) c.loop-number.invariant.long l own) c.loop-number.invariant.placed;
    }

pub loop-k-preserved : goal.loop-k-preserved
loop-k-preserved c =
    let place = number_in c.args.places.now in
    let actuals = c.args.actuals.now in
    record {
      long = more_long c.loop-k.inside.items c.put_place-in-loop-k.new.places.items (c.args.fresh + c.loop-k.k) (length actuals) c.loop-k.k c.in_ok-put_place-2.ensures c.loop-k.invariant.long;
      placed =
          placed_on place actuals c.args.fresh (c.args.fresh + c.loop-k.k) c.loop-k.inside.items c.put_place-in-loop-k.new.places.items c.in_ok-put_place-2.ensures
          (local_placed place actuals c.args.fresh c.loop-k.k (c.args.fresh + c.loop-k.k) (length c.loop-k.inside.items) c.loop-k.invariant.long refl) c.loop-k.invariant.placed;
    }
