use Rattle.std.proofs.Common.{refl}
use Rattle.smv_flat.specs.FlatForms.{flat_smv}
use Rattle.smv_flat.specs.FlatWidth.{width_of}
use Rattle.smv_script.specs.Script.{script_for}
use Rattle.witness_lift.proofs.Models.{has_flat_system}
use Rattle.witness_lift.proofs.line_laws.models_have_flat_systems.Goals as goal

pub returns : goal.returns
returns c source end text xs l s needed a low =
    let whole = c.scripts_are_valid.ensures source end text xs l s needed a in
    let small = c.scripts_are_small.ensures source end xs s needed a low (width_of (flat_smv source)) in
    let own = c.single_systems_are_flat.ensures (script_for source) whole refl in
    has_flat_system (script_for source) small.size small.height small.nesting own.names
