use Rattle.std.proofs.Common.{refl}
use Rattle.btor_import.specs.Script.{import_of}
use Rattle.btor_import.proofs.SpellableNames.{names_spellable}
use Rattle.btor_import.proofs.Whole.{whole_script}
use Rattle.btor_import.proofs.laws.scripts_are_spelled.Goals as goal
use Rattle.moxi_script_print.proofs.SpelledCommands.{spelled_at_start}

pub returns : goal.returns
returns c = λ lines well. spelled_at_start c.valid_scripts_can_be_shown.ensures c.printed_scripts_are_spelled.ensures (import_of lines) refl (whole_script lines well) (names_spellable lines well)
