-- The script that stands for lines is one that can be printed and is read again as itself (MoXI, SPIN 2024).
use Rattle.std.specs.Prelude.{List}
use Rattle.btor_tree.specs.declared.lines.Line.{Line}
use Rattle.btor_tree.specs.Fits.{IsWellFormed}
use Rattle.moxi_scripts.specs.Invariant.{IsSpelled}
use Rattle.moxi_script_print.specs.NamesOfScripts.{HasSpellableNames}
use Rattle.moxi_scripts.specs.Valid.{IsValid}
use Rattle.btor_import.specs.Script.{import_of}

abbrev pub ScriptsAreValid : Type 0
ScriptsAreValid = (lines : List Line) → IsWellFormed lines → IsValid (import_of lines)

abbrev pub NamesAreSpellable : Type 0
NamesAreSpellable = (lines : List Line) → IsWellFormed lines → HasSpellableNames (import_of lines)

abbrev pub ScriptsAreSpelled : Type 0
ScriptsAreSpelled = (lines : List Line) → IsWellFormed lines → IsSpelled (import_of lines)
