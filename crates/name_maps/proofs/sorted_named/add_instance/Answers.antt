use Rattle.name_maps.proofs.SortedLemmas.{name_first}
use Rattle.name_maps.proofs.sorted_named.add_instance.Goals as goal

pub returns : goal.returns
returns g c =
    name_first c.args.others.now c.insert-2.new.self c.args.i c.new-names.result c.insert.new.self c.args.name.items c.args.value c.requires c.new-names.ensures.empty c.in_ok-insert.ensures.updates c.in_ok-insert-2.ensures.updates.0
