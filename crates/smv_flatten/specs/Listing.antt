-- Items from their origins, dotted paths and types.
use Rattle.std.specs.Prelude.{ℕ, List, [], ◌∷◌, Option}
use Rattle.smv_meaning.specs.Types.{ExprType}
use Rattle.smv_items.specs.FlatItems.{Origin, PlainFlatItem, kind_of, content_members, type_or_truth}

abbrev pub item_with : Origin → List ℕ → Option ExprType → PlainFlatItem
item_with m path t = record { name = path; instance = m.instance; kind = kind_of m.content; type = type_or_truth t; members = content_members m.content }

-- item by item
abbrev pub items_with : List Origin → List (List ℕ) → List (Option ExprType) → List PlainFlatItem
items_with (m ∷ ms) (path ∷ paths) (t ∷ ts) = item_with m path t ∷ items_with ms paths ts
items_with ms paths ts = []
