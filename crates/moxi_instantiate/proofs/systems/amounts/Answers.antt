use Rattle.std.proofs.Common.{◌≡◌, ◌<◌, length, map, refl, sym, ap, ◌∙◌, subst, arith, add-one}
use Rattle.std.specs.Prelude.{slice_index_or, slice_set as set}
use Rattle.std.proofs.lemmas.List.{get_or_default, length-map, length-set}
use Rattle.moxi_scripts.specs.Script.{plain_system, system_at}
use Rattle.moxi_instantiate.specs.Amounts.{amount_with}
use Rattle.moxi_instantiate.specs.Counting.{capped, known}
use Rattle.moxi_instantiate.proofs.Filling.{AreFilled, filled_all, filled_on, is_there, system_read}
use Rattle.moxi_instantiate.proofs.systems.amounts.Goals as goal

pub at-requires : goal.at-requires
at-requires c =
    let ss = map plain_system c.args.systems.now in
    let k = c.loop-number.number-index in
    let xs = c.as_slice-number-items.result.now in
    let i = slice_index_or xs k 0 in
    let l = subst (λ ys. k < length ys) c.as_slice-number-items.ensures c.loop-number-test.true in
    let is = subst (λ ys. i ≡ slice_index_or ys k i) c.as_slice-number-items.ensures (get_or_default xs k 0 i c.loop-number-test.true) in
    subst (λ n. i < n) (length-map c.args.systems.now plain_system) (is_there c.args.measure (known c.args.calls.now) ss c.args.order.now k i c.requires.order l is)

pub loop-number-preserved : goal.loop-number-preserved
loop-number-preserved c =
    let ss = map plain_system c.args.systems.now in
    let k = c.loop-number.number-index in
    let xs = c.as_slice-number-items.result.now in
    let i = slice_index_or xs k 0 in
    let counts = c.loop-number.counts.items in
    let count = c.amount-count.result in
    let calls = known c.args.calls.now in
    let order = c.args.order.now in
    let l = subst (λ ys. k < length ys) c.as_slice-number-items.ensures c.loop-number-test.true in
    let is = subst (λ ys. i ≡ slice_index_or ys k i) c.as_slice-number-items.ensures (get_or_default xs k 0 i c.loop-number-test.true) in
    let there = subst (λ n. i < n) (length-map c.args.systems.now plain_system) (is_there c.args.measure calls ss order k i c.requires.order l is) in
    let own : c.amount-count.result ≡ capped (amount_with c.args.measure (known c.args.calls.now) (known c.loop-number.counts.items) (system_at (map plain_system c.args.systems.now) (slice_index_or c.as_slice-number-items.result.now c.loop-number.number-index 0))) =
    c.amount-count.ensures ∙ ap (λ xs. capped (amount_with c.args.measure calls (known xs) (plain_system c.at.result.now))) c.deref.ensures.value
    ∙ ap (λ s. capped (amount_with c.args.measure calls (known counts) s)) (system_read c.args.systems.now i c.at.result.now there c.at.ensures) in
    record {
      long = length-set counts i count ∙ c.loop-number.invariant.long;
      filled =
          subst (λ n. AreFilled c.args.measure calls ss order n (set counts i count)) (sym (add-one k))
          (filled_on c.args.measure calls ss order k i count counts (set counts i count) c.requires.ranked c.requires.order l is
          (c.loop-number.invariant.long ∙ sym (length-map c.args.systems.now plain_system)) c.loop-number.invariant.filled own refl);
    }

pub returns : goal.returns
returns c =
    let e : c.loop-number.number-index ≡ length c.as_slice-number-items.result.now = omega (arith, c.loop-number-test.false, c.loop-number.auto.number-index-end) in
    filled_all c.args.measure (known c.args.calls.now) (map plain_system c.args.systems.now) c.args.order.now c.loop-number.number-index c.loop-number.counts.items c.requires.order
    (e ∙ ap length c.as_slice-number-items.ensures) c.loop-number.invariant.filled
