use Rattle.std.proofs.Common.{◌∙◌, ap}
use Rattle.smv_text.specs.declared.tree.When.TheVariants.{Always, First, Following}
use Rattle.smv_script.specs.Script.{formula_of}
use Rattle.smv_flat.specs.FlatParts.{parts_plain}
use Rattle.smv_to_moxi.proofs.Scripts.{system_form_is}
use Rattle.smv_to_moxi.proofs.script.system_with.Goals as goal
use Rattle.moxi_script_print.proofs.Assembled.{system_same}

pub returns : goal.returns
returns c =
    system_same _ _ _ _ _ _ _ _ _ _ _ _ _ _ _ _ c.in_ok-name.ensures c.in_ok-inputs.ensures c.in_ok-outputs.ensures c.in_ok-locals.ensures
    (c.in_ok-init.ensures ∙ ap (λ d. formula_of (parts_plain c.args.flat.now.parts) d First) c.requires.coding)
    (c.in_ok-trans.ensures ∙ ap (λ d. formula_of (parts_plain c.args.flat.now.parts) d Following) c.requires.coding)
    (c.in_ok-inv.ensures ∙ ap (λ d. formula_of (parts_plain c.args.flat.now.parts) d Always) c.requires.coding) c.new.ensures
    ∙ system_form_is (parts_plain c.args.flat.now.parts) c.args.coding.now.width
