use Rattle.moxi_script_print.proofs.AgainScript.{script_read}
use Rattle.moxi_term_print.proofs.StandingSorts.{sort_read, sort_stands}
use Rattle.moxi_term_print.proofs.StandingRead.{term_read}
use Rattle.moxi_script_print.proofs.again_laws.printed_scripts_are_spelled.Goals as goal

pub returns : goal.returns
returns c =
    script_read term_read sort_read
    (λ s sort fresh apart. sort_stands s sort (record { fresh = fresh; apart = apart }))
