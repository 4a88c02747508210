-- The plain form of what is declared.
use Rattle.std.specs.Prelude.{ℕ, List, map, reverse, Option, Some, None}
use Rattle.std.specs.Borrow.{Bor}
use Rattle.smv_text.specs.declared.tree.Item.{Item}
use Rattle.smv_text.specs.Tree.{PlainItem}
use Rattle.smv_text.specs.View.{plain_item}
use Rattle.smv_meaning.specs.Phases.{Declared}
use Rattle.smv_names.specs.declared.declared.Declaration.{Declaration}

abbrev pub item_or_none : Option (Bor Item) → Option PlainItem
item_or_none None = None
item_or_none (Some i) = Some (plain_item i.now)

abbrev pub declared_plain : Declaration → Declared
declared_plain d = record { name = d.name.now; place = d.place; item = item_or_none d.item }

-- the names of modules that stand one inside another, the innermost first
abbrev pub names_above : List (Bor (List ℕ)) → List (List ℕ)
names_above names = reverse (map (λ m. m.now) names)
