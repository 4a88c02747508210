-- Forms that are shown so, all at the start of a text, spell the script of a model with its check there.
use Rattle.std.proofs.Common.{refl}
use Rattle.smv_script_laws.specs.ValidLaws.{ScriptsAreSpelled}
use Rattle.smv_script.specs.Script.{script_for}
use Rattle.smv_script_laws.proofs.SpellableNames.{names_are_spellable_law}
use Rattle.smv_script_laws.proofs.WholeScripts.{scripts_are_valid_law}
use Rattle.moxi_script_print.proofs.SpelledCommands.{CanBePrinted, IsReadAs, spelled_at_start}

pub spelled_from : CanBePrinted → IsReadAs → ScriptsAreSpelled
spelled_from printed read source end text xs lexed spelled needed accepted =
    spelled_at_start printed read (script_for source) refl (scripts_are_valid_law source end text xs lexed spelled needed accepted) (names_are_spellable_law source end text xs lexed spelled needed accepted)
