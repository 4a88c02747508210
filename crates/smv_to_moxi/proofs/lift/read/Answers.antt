use Rattle.std.proofs.Common.{◌≡◌, ◌+◌, ◌++◌, ◌<◌, length, sym, ap, ◌∙◌, arith, rules}
use Rattle.std.proofs.lemmas.List.{length-map}
use Rattle.smv_items.specs.FlatItemView.{item_plain}
use Rattle.smv_script.specs.Script.{group_start, place_of_item}
use Rattle.moxi_terms.specs.Value.{at}
use Rattle.smv_to_moxi.specs.Lifting.{group_in}
use Rattle.smv_to_moxi.proofs.LiftedParts.{before, before_more, one_if, items_of, rest_read, read_passed, read_next, read_end, item_here, place_within, datum_sorted}
use Rattle.smv_to_moxi.proofs.lift.read.Goals as goal
use Rattle.smv_to_moxi.proofs.lift.read.Goals.{then-picks+in_ok-given+in_ok-push, else-picks}

pub loop-item-init : goal.loop-item-init
loop-item-init c = record {
  whole = c.as_slice-item-items.ensures ∙ c.items.ensures;
  read = ap (λ gs. gs ++ rest_read c.args.flat.now.symbols (place_of_item (items_of c.args.flat.now)) c.args.part (at c.args.env.now) (items_of c.args.flat.now) 0) c.in_ok-state.ensures;
  place = let first = c.requires.first in omega (arith, first);
}

pub offset_bounds-env-place : goal.offset_bounds-env-place
offset_bounds-env-place c =
    let f = c.args.flat.now in
    let p = c.args.part in
    let k = c.loop-item.item-index in
    let m = item_plain c.item-item.result in
    let there = item_here f c.as_slice-item-items.result.now k c.item-item.result c.loop-item.invariant.whole c.loop-item-test.true c.item-item.is in
    let within : c.loop-item.place < length c.args.env.now = place_within f p c.args.env.now k c.loop-item.place m c.requires.step there (sym c.picks.ensures ∙ c.if-picks.true) c.loop-item.invariant.place in
    search rules

pub bounds-env-place : goal.bounds-env-place
bounds-env-place c =
    let f = c.args.flat.now in
    let p = c.args.part in
    let k = c.loop-item.item-index in
    let m = item_plain c.item-item.result in
    let there = item_here f c.as_slice-item-items.result.now k c.item-item.result c.loop-item.invariant.whole c.loop-item-test.true c.item-item.is in
    place_within f p c.args.env.now k c.loop-item.place m c.requires.step there (sym c.picks.ensures ∙ c.if-picks.true) c.loop-item.invariant.place

pub given-requires : goal.given-requires
given-requires c =
    let f = c.args.flat.now in
    let p = c.args.part in
    let k = c.loop-item.item-index in
    let m = item_plain c.item-item.result in
    let there = item_here f c.as_slice-item-items.result.now k c.item-item.result c.loop-item.invariant.whole c.loop-item-test.true c.item-item.is in
    datum_sorted f p c.args.env.now k c.loop-item.place m c.requires.step there (sym c.picks.ensures ∙ c.if-picks.true) c.loop-item.invariant.place c.index-env-place.result c.index-env-place.is

pub overflow_add-place : goal.overflow_add-place
overflow_add-place c =
    let f = c.args.flat.now in
    let p = c.args.part in
    let k = c.loop-item.item-index in
    let m = item_plain c.item-item.result in
    let there = item_here f c.as_slice-item-items.result.now k c.item-item.result c.loop-item.invariant.whole c.loop-item-test.true c.item-item.is in
    let within : c.loop-item.place < length c.args.env.now = place_within f p c.args.env.now k c.loop-item.place m c.requires.step there (sym c.picks.ensures ∙ c.if-picks.true) c.loop-item.invariant.place in
    search rules

pub loop-item-preserved : goal.loop-item-preserved
loop-item-preserved c =
    let f = c.args.flat.now in
    let p = c.args.part in
    let k = c.loop-item.item-index in
    let m = item_plain c.item-item.result in
    let there = item_here f c.as_slice-item-items.result.now k c.item-item.result c.loop-item.invariant.whole c.loop-item-test.true c.item-item.is in
    let items = items_of f in
    let start = group_start items (group_in p) in
    let rest = rest_read f.symbols (place_of_item items) p (at c.args.env.now) items in
    let more = before_more p items k m there in
    let place = c.loop-item.invariant.place in
    elim c.if-picks.branch [
      | then-picks+in_ok-given+in_ok-push w ↦
          let picked = sym c.picks.ensures ∙ w.if-picks.true in
          let one : before p items (k + 1) ≡ before p items k + 1 = more ∙ ap (λ b. before p items k + one_if b) picked in
          let pushed = w.state-is ∙ w.in_ok-push.ensures.ok in
          let is = w.place-is in
          record {
            whole = c.loop-item.invariant.whole;
            read = ap (λ gs. gs ++ rest (k + 1)) pushed
                ∙ read_next f p c.args.env.now k c.loop-item.place m c.requires.step there picked place c.loop-item.state w.in_ok-given.given w.index-env-place.result w.index-env-place.is w.in_ok-given.ensures
                ∙ c.loop-item.invariant.read;
            place = omega (arith, is, one, place);
          }
      | else-picks w ↦
          let passed = sym c.picks.ensures ∙ w.if-picks.false in
          let none : before p items (k + 1) ≡ before p items k + 0 = more ∙ ap (λ b. before p items k + one_if b) passed in
          let is = w.place-is in
          record {
            whole = c.loop-item.invariant.whole;
            read = ap (λ gs. gs ++ rest (k + 1)) w.state-is ∙ ap (λ gs. c.loop-item.state ++ gs) (sym (read_passed f.symbols (place_of_item items) p (at c.args.env.now) items k m there passed)) ∙ c.loop-item.invariant.read;
            place = omega (arith, is, none, place);
          }
    ]

pub returns : goal.returns
returns c =
    let end = c.loop-item-test.false in
    let long = length-map c.args.flat.now.items item_plain in
    let whole = ap length c.loop-item.invariant.whole in
    sym (read_end c.args.flat.now.symbols (place_of_item (items_of c.args.flat.now)) c.args.part (at c.args.env.now) (items_of c.args.flat.now) c.loop-item.state c.loop-item.item-index (omega (arith, end, long, whole)))
    ∙ c.loop-item.invariant.read
