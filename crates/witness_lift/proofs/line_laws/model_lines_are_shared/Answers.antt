use Rattle.smv_script.specs.Script.{script_for}
use Rattle.witness_lift.specs.LineLaws.{model_system}
use Rattle.witness_lift.proofs.line_laws.model_lines_are_shared.Goals as goal

pub returns : goal.returns
returns c source end text xs l s needed a low =
    let whole = c.scripts_are_valid.ensures source end text xs l s needed a in
    c.no_duplicate_lines.ensures (model_system source) (c.flat_systems_are_sorted.ensures (script_for source) whole)
