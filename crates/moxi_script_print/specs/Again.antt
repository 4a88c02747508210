-- What forms that show a valid script spell.
use Rattle.text_core.specs.declared.place.Place.{Place}
use Rattle.moxi_sexpr.specs.Tree.{Trees}
use Rattle.moxi_scripts.specs.Script.{PlainScript}
use Rattle.moxi_scripts.specs.Spelling.{SpellsScript}

-- the script with its check at this place
abbrev pub with_place : PlainScript → Place → PlainScript
with_place s p = record s { check = record s.check { place = p } }

-- forms whose text ends at `end` spell the script but for the place of its check, which stands where its form does
abbrev pub ReadsAs : Trees → Place → PlainScript → Type 0
ReadsAs ts end s = (p : Place) × SpellsScript ts end (with_place s p)
