use Rattle.std.proofs.Common.{◌∙◌, ap, map}
use Rattle.smv_flat.specs.FlatTruth.{forms_invariants}
use Rattle.moxi_scripts.specs.Script.{plain_formula, plain_system}
use Rattle.smv_script.specs.Script.{reachables_from}
use Rattle.smv_flat.specs.FlatParts.{parts_plain}
use Rattle.smv_to_moxi.proofs.Scripts.{check_form_is, system_lists}
use Rattle.smv_to_moxi.proofs.script.check_of.Goals as goal
use Rattle.moxi_script_print.proofs.Assembled.{check_same}

pub returns : goal.returns
returns c =
    let flat = parts_plain c.args.flat.now.parts in
    let lists = system_lists flat c.args.coding.now.width (plain_system c.args.system.now) c.requires.system in
    check_same _ _ _ _ _ _ _ _ _ _ _ _ _ _ (c.in_ok-inputs.ensures ∙ lists.0) (c.in_ok-outputs.ensures ∙ lists.1) (c.in_ok-locals.ensures ∙ lists.2) (ap (map plain_formula) c.new.ensures) (ap (map plain_formula) c.new-2.ensures)
    (c.in_ok-reachables.ensures ∙ ap (λ d. reachables_from d 0 (forms_invariants flat.forms)) c.requires.coding) c.in_ok-queries.ensures ∙ check_form_is flat c.args.coding.now.width
