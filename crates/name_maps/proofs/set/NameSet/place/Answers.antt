use Rattle.std.proofs.Common.{◌∙◌, ap}
use Rattle.name_maps.specs.Names.{place_of}
use Rattle.name_maps.proofs.KeyLaws.{place_in}
use Rattle.name_maps.proofs.set.NameSet.place.Goals as goal

pub returns : goal.returns
returns c = c.get_index_of.ensures.index ∙ place_in c.args.name.now _ ∙ ap (λ names. place_of names c.args.name.now) c.self.view_is
