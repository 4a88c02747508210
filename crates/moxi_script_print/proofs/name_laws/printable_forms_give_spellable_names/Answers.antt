use Rattle.moxi_script_print.proofs.NamesLawsScript.{script_spellable}
use Rattle.moxi_term_print.proofs.StandingSpelled.{read_spelled}
use Rattle.moxi_term_print.proofs.StandingAdded.{spelled_enumeration, spelled_function, spelled_sort}
use Rattle.moxi_script_print.proofs.name_laws.printable_forms_give_spellable_names.Goals as goal

pub returns : goal.returns
returns c = script_spellable read_spelled spelled_enumeration spelled_sort spelled_function
