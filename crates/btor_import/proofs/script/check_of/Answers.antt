use Rattle.std.proofs.Common.{ap, ◌∙◌, map}
use Rattle.btor_tree.specs.Fits.{is_bad}
use Rattle.moxi_scripts.specs.Script.{plain_formula, plain_system}
use Rattle.btor_import.specs.Script.{lines_in, reachables_from}
use Rattle.btor_import.proofs.Scripts.{check_form_is, system_lists}
use Rattle.btor_import.proofs.script.check_of.Goals as goal
use Rattle.moxi_script_print.proofs.Assembled.{check_same}

pub returns : goal.returns
returns c =
    let lists = system_lists c.args.nodes.now (plain_system c.args.system.now) c.requires.system in
    check_same _ _ _ _ _ _ _ _ _ _ _ _ _ _ (c.in_ok-inputs.ensures ∙ lists.0) (c.in_ok-outputs.ensures ∙ lists.1) (c.in_ok-locals.ensures ∙ lists.2) (ap (map plain_formula) c.new.ensures) (ap (map plain_formula) c.new-2.ensures)
    (c.in_ok-reachables.ensures ∙ ap (λ number. reachables_from number 0 (lines_in is_bad c.args.nodes.now)) c.requires.numbers) c.in_ok-queries.ensures
    ∙ check_form_is c.args.nodes.now
