use Rattle.std.proofs.Common.{◌+◌, map, drop, refl, ap, sym, ◌∙◌, length}
use Rattle.std.specs.Prelude.{slice_index_or}
use Rattle.std.proofs.lemmas.List.{get_or_default}
use Rattle.smv_meaning.specs.laws.Lists.{front_is}
use Rattle.smv_items.specs.FlatItemView.{item_plain}
use Rattle.smv_numbered.specs.declared.heading.Heading.TheVariants.{State, Input}
use Rattle.smv_numbered.specs.Values.{values_of, stated_value}
use Rattle.smv_numbered.specs.Runs.{state_at, label_at}
use Rattle.smv_numbered.proofs.Listed.{grown, rising_rest, values_next, within_changes}
use Rattle.smv_numbered.proofs.listing.list_run.Goals as goal

pub loop-end-preserved : goal.loop-end-preserved
loop-end-preserved c =
    let i = c.loop-end.invariant in
    let items = map item_plain c.args.items.now in
    let cs = c.args.numbered.now.changes in
    let k = c.loop-end.end-index in
    let left = drop k c.in-Some.following.now in
    let n = slice_index_or c.in-Some.following.now k 0 in
    let more = drop (k + 1) c.in-Some.following.now in
    let rest = front_is c.in-Some.following.now k (length c.in-Some.following.now) n refl c.loop-end-test.true (get_or_default c.in-Some.following.now k 0 n c.loop-end-test.true) in
    let rising = rising_rest c.loop-end.at left more n (length cs) rest i.rising in
    let values = values_next items c.as_slice-changes.result.now cs c.changes_between-in-loop-end.result.now c.loop-end.at n (map stated_value c.loop-end.stated.items) (map stated_value c.give_changes-in-loop-end.new.stated.items)
    rising.0 c.as_slice-changes.ensures c.changes_between-in-loop-end.ensures i.values c.give_changes-in-loop-end.ensures.values in
    record {
      size = c.give_changes-in-loop-end.ensures.size ∙ i.size;
      values = values;
      rising = rising.1;
      states = grown (state_at items cs) c.loop-end.run.states c.add_values-in-loop-end-2.new.lists _ _ left more n c.in_ok-add_values-3.ensures
          (ap (λ vs. values_of State items (map stated_value vs)) c.as_slice-in-loop-end-2.ensures.value ∙ ap (values_of State items) values) rest i.states;
      labels = grown (label_at items cs) c.loop-end.run.labels c.add_values-in-loop-end.new.lists _ _ left more n c.in_ok-add_values-2.ensures
          (ap (λ vs. values_of Input items (map stated_value vs)) c.as_slice-in-loop-end.ensures.value ∙ ap (values_of Input items) values) rest i.labels;
    }

pub changes_between-requires-clause-within : goal.changes_between-requires-clause-within
changes_between-requires-clause-within c =
    within_changes 0 c.args.numbered.now.ends c.in-Some.following.now c.in-Some.first.now c.args.numbered.now.changes c.as_slice-changes.result.now c.as_slice-changes.ensures (sym c.as_slice.ensures ∙ c.in-Some.ensures.cases.0) c.requires.numbered

pub changes_between-requires-in-loop-end-clause-within : goal.changes_between-requires-in-loop-end-clause-within
changes_between-requires-in-loop-end-clause-within c =
    let ends = c.in-Some.following.now in
    let k = c.loop-end.end-index in
    let n = slice_index_or ends k 0 in
    within_changes c.loop-end.at (drop k ends) (drop (k + 1) ends) n c.args.numbered.now.changes c.as_slice-changes.result.now c.as_slice-changes.ensures (front_is ends k (length ends) n refl c.loop-end-test.true (get_or_default ends k 0 n c.loop-end-test.true)) c.loop-end.invariant.rising
