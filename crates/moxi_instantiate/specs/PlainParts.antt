-- The plain form of a part.
use Rattle.moxi_terms.specs.View.{plain}
use Rattle.moxi_flat.specs.FlatSystem.{PlainPart}
use Rattle.moxi_instantiate.specs.declared.parts.Part.{Part}

abbrev pub plain_part : Part → PlainPart
plain_part p = record { init = plain p.init; trans = plain p.trans; inv = plain p.inv }
