use Rattle.smv_script_laws.proofs.SpelledScripts.{spelled_from}
use Rattle.smv_script_laws.proofs.whole_laws.scripts_are_spelled.Goals as goal

pub returns : goal.returns
returns c = spelled_from c.valid_scripts_can_be_shown.ensures c.printed_scripts_are_spelled.ensures
