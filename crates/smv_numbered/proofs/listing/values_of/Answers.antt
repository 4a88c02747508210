use Rattle.std.proofs.Common.{sym, ◌∙◌}
use Rattle.std.specs.Slice.Iter.{iter_rest}
use Rattle.std.specs.Iterator.Adapters.{zip_first, zip_second}
use Rattle.std.proofs.lemmas.Slice.Zip.{either_empty_from_Zip}
use Rattle.smv_items.specs.FlatItemView.{item_plain}
use Rattle.smv_numbered.specs.Values.{stated_value}
use Rattle.smv_numbered.proofs.Listed.{no_values}
use Rattle.smv_numbered.proofs.listing.values_of.Goals as goal

pub returns : goal.returns
returns c =
    let left = c.loop-item.item-iterator in
    sym (no_values item_plain stated_value c.args.heading (iter_rest (zip_first left)) (iter_rest (zip_second left)) c.loop-item.state (either_empty_from_Zip left c.next.new.self _ c.in-None.is c.next.ensures.steps)) ∙ c.loop-item.invariant
