use Rattle.std.proofs.Common.{map, option_map, ap, ◌∙◌}
use Rattle.smv_instances.specs.View.{instance_plain}
use Rattle.smv_intervals.specs.View.{seen}
use Rattle.smv_items.specs.FlatItems.{origins_of}
use Rattle.smv_items.specs.FlatOrigins.{origin_plain}
use Rattle.smv_flatten.proofs.Items.{items_made}
use Rattle.smv_flatten.proofs.contents.contents_of.Goals as goal

pub returns-clause-items : goal.returns-clause-items
returns-clause-items c =
    let t = map instance_plain c.args.table.now in
    let made = items_made t (map origin_plain c.deref.result.now) (origins_of t) c.in_ok-sources.sources.paths.items (map (option_map seen) c.deref-2.result.now)
    (ap (map origin_plain) c.deref.ensures.value ∙ c.in_ok-sources.ensures.origins) c.in_ok-sources.ensures.paths (ap (map (option_map seen)) c.deref-2.ensures.value ∙ c.in_ok-formed.ensures.types) in
    c.in_ok-items.ensures ∙ made
