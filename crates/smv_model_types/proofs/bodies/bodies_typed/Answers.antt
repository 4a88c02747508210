use Rattle.std.proofs.Common.{map, sym, subst}
use Rattle.std.specs.Prelude.{slice_index_or}
use Rattle.std.proofs.lemmas.List.{get_or_default, take_all}
use Rattle.smv_meaning.specs.Bodies.{IsBodyOrder}
use Rattle.smv_meaning.specs.Orders.{numbered}
use Rattle.smv_instances.specs.View.{instance_plain}
use Rattle.smv_model_types.specs.Entries.{entries_seen}
use Rattle.smv_model_types.proofs.Filling.{Holds, none_right, none_held, all_held}
use Rattle.smv_model_types.proofs.KeptLemmas.{none_kept}
use Rattle.smv_model_types.proofs.Stored.{none_stored}
use Rattle.smv_model_types.proofs.InOrder.{number_low, next_put, next_referred}
use Rattle.smv_model_types.proofs.bodies.bodies_typed.Goals as goal

pub numbered_body-body-requires : goal.numbered_body-body-requires
numbered_body-body-requires c =
    let t = map instance_plain c.args.model.now.table.now in
    let k = c.loop-number.number-index in
    let order = c.as_slice-number-items.result.now in
    let number = slice_index_or order k 0 in
    let sorted = subst (IsBodyOrder t) (sym c.as_slice-number-items.ensures) c.requires.order in
    number_low t c.args.bodies.now order k number c.requires.bodies sorted c.loop-number-test.true (get_or_default order k 0 number c.loop-number-test.true)

pub loop-number-init : goal.loop-number-init
loop-number-init c =
    let t = map instance_plain c.args.model.now.table.now in
    let entries = entries_seen c.args.model.now.numbers.now.bodies c.new-entries.result.items in (
      none_held t entries (none_right t entries (none_stored c.args.model.now.numbers.now.bodies c.new-entries.result.items c.new-entries.ensures.items)),
      none_kept t c.new-kept.result.items c.new-kept.ensures.items,
    )

pub put_body-requires : goal.put_body-requires
put_body-requires c =
    let t = map instance_plain c.args.model.now.table.now in
    let k = c.loop-number.number-index in
    let order = c.as_slice-number-items.result.now in
    let number = slice_index_or order k 0 in
    let sorted = subst (IsBodyOrder t) (sym c.as_slice-number-items.ensures) c.requires.order in
    record {
      differ = c.requires.differ;
      referred = next_referred t c.args.bodies.now order k number c.numbered_body-body.result.now (entries_seen c.args.model.now.numbers.now.bodies c.loop-number.entries.items) c.requires.bodies sorted c.names_settle.ensures c.types_settle.ensures c.references_come_before.ensures
          c.loop-number-test.true (get_or_default order k 0 number c.loop-number-test.true) c.numbered_body-body.ensures c.loop-number.invariant.0;
      kept = c.loop-number.invariant.1;
    }

pub loop-number-preserved : goal.loop-number-preserved
loop-number-preserved c =
    let t = map instance_plain c.args.model.now.table.now in
    let k = c.loop-number.number-index in
    let order = c.as_slice-number-items.result.now in
    let number = slice_index_or order k 0 in
    let sorted = subst (IsBodyOrder t) (sym c.as_slice-number-items.ensures) c.requires.order in (
      next_put t c.args.bodies.now order k number c.numbered_body-body.result.now (entries_seen c.args.model.now.numbers.now.bodies c.loop-number.entries.items) (entries_seen c.args.model.now.numbers.now.bodies c.put_body.new.entries.items) c.requires.bodies sorted
          c.names_settle.ensures c.types_settle.ensures c.types_hang_on_paths.ensures c.references_come_before.ensures c.loop-number-test.true (get_or_default order k 0 number c.loop-number-test.true) c.numbered_body-body.ensures c.in_ok-put_body.ensures.put
          c.loop-number.invariant.0,
      c.in_ok-put_body.ensures.kept,
    )

pub returns-clause-entries : goal.returns-clause-entries
returns-clause-entries c =
    let t = map instance_plain c.args.model.now.table.now in
    let order = c.as_slice-number-items.result.now in
    let sorted = subst (IsBodyOrder t) (sym c.as_slice-number-items.ensures) c.requires.order in
    all_held t (entries_seen c.args.model.now.numbers.now.bodies c.loop-number.entries.items) order sorted c.names_settle.ensures c.types_settle.ensures c.order_is_complete.ensures
    (subst (λ order. Holds t (entries_seen c.args.model.now.numbers.now.bodies c.loop-number.entries.items) (map (numbered t) order)) (take_all c.loop-number.number-index order c.loop-number-test.false) c.loop-number.invariant.0)

pub returns-clause-kept : goal.returns-clause-kept
returns-clause-kept c = c.loop-number.invariant.1
