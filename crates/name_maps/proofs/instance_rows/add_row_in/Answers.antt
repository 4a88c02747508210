use Rattle.std.proofs.Common.{sym, ap, ◌∙◌, subst}
use Rattle.name_maps.specs.Rows.{row_in, buckets_named, TakesRow}
use Rattle.name_maps.specs.Sorted.{sorted_named}
use Rattle.name_maps.proofs.RowLemmas.{bucket_set, other_set}
use Rattle.name_maps.proofs.instance_rows.add_row_in.Goals as goal

pub returns-in-None : goal.returns-in-None
unfolding row_in
returns-in-None g c =
    let a = c.args in
    let m = a.map.now in
    bucket_set (sorted_named m.others) (buckets_named m.buckets) (buckets_named c.add_to_buckets.new.buckets) a.i a.x.now a.value (sym c.is_other.ensures ∙ c.if-is_other.false)
    (subst (λ o. TakesRow o a.i a.x.now a.value m.buckets c.add_to_buckets.new.buckets) c.in-None.is c.in_ok-add_to_buckets.ensures)

pub returns-in-Some : goal.returns-in-Some
unfolding row_in
returns-in-Some g c =
    let a = c.args in
    let m = a.map.now in
    let left = subst (λ o. TakesRow o a.i a.x.now a.value m.buckets c.add_to_buckets.new.buckets) c.in-Some.is c.in_ok-add_to_buckets.ensures in
    other_set c.set_sorted-in-Some.result (sorted_named m.others) (sorted_named c.set_sorted-in-Some.new.others) (buckets_named m.buckets) (buckets_named c.add_to_buckets.new.buckets) a.i a.x.now a.value c.in-Some.value left.0
    (λ j y. ap (λ l. buckets_named l j y) left.1) c.set_sorted-in-Some.ensures
