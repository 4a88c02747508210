use Rattle.std.proofs.Common.{◌%◌, ◌<◌, ◌&&◌, ◌==◌, Some, bytes_eq, if◌then◌else◌, refl, ap, ◌∙◌, subst}
use Rattle.name_maps.specs.Rows.{number_on, buckets_named}
use Rattle.name_maps.proofs.RowLemmas.{bucket_put}
use Rattle.name_maps.proofs.buckets.add_to_buckets.Goals as goal

pub returns : goal.returns
returns g c = λ j y.
    let bs = c.buckets.inside.list in
    bucket_put bs.items _ c.bucket_of-k.result c.index_mut.result.now c.add_to.new.bucket c.args.i c.args.name.now c.args.value (c.bucket_of-k.ensures.number ∙ ap (λ n. number_on (c.args.i % 4294967296) c.args.name.now % n) (c.len.ensures ∙ bs.ok.0)) (subst (λ n. c.bucket_of-k.result < n) (c.len.ensures ∙ bs.ok.0) c.bucket_of-k.ensures.bound) c.index_mut.ensures.value
    c.in_ok-add_to.ensures refl j y
    ∙ ap (λ l. if c.args.i == j && bytes_eq c.args.name.now y then Some c.args.value else buckets_named l j y) c.buckets.view_is
