use Rattle.std.proofs.Common.{ap, ◌∙◌}
use Rattle.btor_import.specs.Assembling.{part_of}
use Rattle.btor_import.specs.Script.{formula_of}
use Rattle.btor_import.specs.declared.parts.Part.TheVariants.{Init, Trans, Inv}
use Rattle.btor_import.proofs.Scripts.{system_form_is}
use Rattle.btor_import.proofs.script.system_of.Goals as goal
use Rattle.moxi_script_print.proofs.Assembled.{system_same}

pub returns : goal.returns
returns c =
    system_same _ _ _ _ _ _ _ _ _ _ _ _ _ _ _ _ c.in_ok-name.ensures c.in_ok-inputs.ensures c.in_ok-outputs.ensures c.in_ok-locals.ensures
    (c.in_ok-init.ensures ∙ ap (λ number. formula_of (part_of Init number c.args.nodes.now) c.args.nodes.now) c.requires)
    (c.in_ok-trans.ensures ∙ ap (λ number. formula_of (part_of Trans number c.args.nodes.now) c.args.nodes.now) c.requires)
    (c.in_ok-inv.ensures ∙ ap (λ number. formula_of (part_of Inv number c.args.nodes.now) c.args.nodes.now) c.requires) c.new.ensures
    ∙ system_form_is c.args.nodes.now
