-- What the code's items stand for.
use Rattle.smv_intervals.specs.View.{seen}
use Rattle.smv_items.specs.declared.items.FlatItem.{FlatItem}
use Rattle.smv_items.specs.FlatItems.{PlainFlatItem}

abbrev pub item_plain : FlatItem → PlainFlatItem
item_plain m = record { name = m.name; instance = m.instance; kind = m.kind; type = seen m.ty; members = m.members }
