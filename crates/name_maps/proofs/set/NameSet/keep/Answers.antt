use Rattle.std.proofs.Common.{take, map, ap, ◌∙◌}
use Rattle.name_maps.proofs.KeyLaws.{take_names}
use Rattle.name_maps.proofs.set.NameSet.keep.Goals as goal

pub returns : goal.returns
returns c = ap (map (λ key. key.name)) c.truncate.ensures.keys ∙ take_names c.args.count c.self.inside.names.keys ∙ ap (take c.args.count) c.self.view_is
