use Rattle.std.proofs.Common.{map}
use Rattle.smv_items.specs.FlatItemView.{item_plain}
use Rattle.smv_script_terms.proofs.Numbered.{places_are}
use Rattle.smv_to_moxi.proofs.script.coding_of.Goals as goal

pub returns-clause-places : goal.returns-clause-places
returns-clause-places c = places_are (map item_plain c.args.items.now) c.in_ok-places.places.items c.in_ok-places.ensures
