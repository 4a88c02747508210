-- The lines of a flat system lay it out.
use Rattle.std.specs.Prelude.{◌<◌, length}
use Rattle.btor_tree.specs.Fits.{IsWellFormed, greatest_id}
use Rattle.moxi_flat.specs.FlatSorts.{IsSortedFlat}
use Rattle.moxi_flat.specs.FlatSystem.{PlainFlatSystem}
use Rattle.moxi_lines.specs.TermLaws.{HaveCodes}
use Rattle.moxi_lines.specs.Lines.{lines_of}
use Rattle.moxi_layout.specs.Layout.{LaysOut}

-- where there are ids for all of them, they are in the system's order, and each says what it has to say
abbrev pub LinesLayOut : Type 0
LinesLayOut = (f : PlainFlatSystem) → HaveCodes f.scope.enumerations → IsSortedFlat f → length (lines_of f) < greatest_id → LaysOut f (lines_of f)

-- and each may follow the ones before it
abbrev pub LinesAreWellFormed : Type 0
LinesAreWellFormed = (f : PlainFlatSystem) → HaveCodes f.scope.enumerations → IsSortedFlat f → length (lines_of f) < greatest_id → IsWellFormed (lines_of f)
