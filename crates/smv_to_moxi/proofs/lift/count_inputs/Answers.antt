use Rattle.std.proofs.Common.{◌≡◌, ◌+◌, Some, map, length, refl, sym, ap, ◌∙◌, arith}
use Rattle.std.proofs.lemmas.List.{length-map}
use Rattle.std.specs.Prelude.{slice_get}
use Rattle.std.proofs.lemmas.Option.{slice_get_read}
use Rattle.smv_items.specs.FlatItemView.{item_plain}
use Rattle.smv_to_moxi.specs.declared.lift.Part.TheVariants.{Label}
use Rattle.smv_to_moxi.proofs.LiftedParts.{before, before_more, before_end, one_if, plain_there}
use Rattle.smv_to_moxi.proofs.lift.count_inputs.Goals as goal
use Rattle.smv_to_moxi.proofs.lift.count_inputs.Goals.{then-picks, else-picks}

pub loop-item-preserved : goal.loop-item-preserved
loop-item-preserved c =
    let items = map item_plain c.args.items.now in
    let k = c.loop-item.item-index in
    let there : slice_get items k ≡ Some (item_plain c.item-item.result) =
    plain_there c.args.items.now k c.item-item.result (slice_get_read c.args.items.now (length c.args.items.now) k c.item-item.result refl c.loop-item-test.true c.item-item.is) in
    let more = before_more Label items k (item_plain c.item-item.result) there in
    elim c.if-picks.branch [
      | then-picks w ↦
          let e : before Label items (k + 1) ≡ before Label items k + 1 = more ∙ ap (λ b. before Label items k + one_if b) (sym c.picks.ensures ∙ w.if-picks.true) in
          let counted = c.loop-item.invariant.counted in
          let small = c.loop-item.invariant.small in
          let is = w.count-is in
          record { counted = omega (arith, is, counted, e); small = omega (arith, is, small) }
      | else-picks w ↦
          let e : before Label items (k + 1) ≡ before Label items k + 0 = more ∙ ap (λ b. before Label items k + one_if b) (sym c.picks.ensures ∙ w.if-picks.false) in
          let counted = c.loop-item.invariant.counted in
          let small = c.loop-item.invariant.small in
          let is = w.count-is in
          record { counted = omega (arith, is, counted, e); small = omega (arith, is, small) }
    ]

pub returns : goal.returns
returns c =
    let end = c.loop-item-test.false in
    let long = length-map c.args.items.now item_plain in
    c.loop-item.invariant.counted ∙ before_end Label (map item_plain c.args.items.now) c.loop-item.item-index (omega (arith, end, long))
