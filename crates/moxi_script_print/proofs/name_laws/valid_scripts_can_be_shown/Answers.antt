use Rattle.moxi_script_print.proofs.NamesLawsShown.{script_shown}
use Rattle.moxi_term_print.proofs.StandingSorts.{sort_stands}
use Rattle.moxi_term_print.proofs.StandingGrow.{stands_on}
use Rattle.moxi_term_print.proofs.StandingShown.{sort_shown, term_shown}
use Rattle.moxi_script_print.proofs.name_laws.valid_scripts_can_be_shown.Goals as goal

pub returns : goal.returns
returns c = script_shown (λ ctx bounds t s scope vars within stands names. term_shown ctx scope vars bounds t s within stands names) sort_shown sort_stands (λ ctx bounds t s u h g. stands_on ctx u g bounds t s h)
