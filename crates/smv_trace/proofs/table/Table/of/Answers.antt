use Rattle.std.proofs.Common.{[], List, map, ap, ◌∙◌}
use Rattle.name_maps.specs.Names.{are_fresh}
use Rattle.smv_items.specs.declared.items.FlatItem.{FlatItem}
use Rattle.smv_items.specs.FlatItems.{PlainFlatItem}
use Rattle.smv_items.specs.FlatItemView.{item_plain}
use Rattle.smv_trace.proofs.Told.{names_fresh}
use Rattle.smv_trace.proofs.table.Table.of.Goals as goal

pub names_of-requires : goal.names_of-requires
names_of-requires c =
    ap (λ (ms : List FlatItem). are_fresh [] (map (λ (m : PlainFlatItem). m.name) (map item_plain ms))) c.items-items.ensures ∙ names_fresh c.args.flat.now c.is_of_model.ensures
