use Rattle.std.proofs.lemmas.Map.Text.{hash_map_updates_str}
use Rattle.name_maps.proofs.name_map.put.Goals as goal

pub returns : goal.returns
returns g c = hash_map_updates_str c.args.name.now c.args.map.now c.insert.new.self _ c.in_ok-insert.ensures.updates
