use Rattle.std.proofs.Common.{◌≡◌, length, refl, ap, arith}
use Rattle.smv_flat.specs.FlatForms.{flat_smv}
use Rattle.smv_flat.specs.FlatTruth.{forms_invariants}
use Rattle.smv_flat.specs.FlatWidth.{width_of}
use Rattle.smv_script.specs.Script.{script_for}
use Rattle.moxi_flat.specs.Systems.{script_size}
use Rattle.moxi_layout.specs.Counts.{flat_size}
use Rattle.witness_lift.specs.LineLaws.{model_system}
use Rattle.witness_lift.proofs.Models.{queries_name_one}
use Rattle.witness_lift.proofs.line_laws.model_lines_are_counted.Goals as goal

pub returns : goal.returns
returns c source end text xs l s needed a low =
    let width = width_of (flat_smv source) in
    let whole = c.scripts_are_valid.ensures source end text xs l s needed a in
    let out = c.model_lines_are_laid_out.ensures source end text xs l s needed a low in
    let size : flat_size (model_system source) ≡ script_size (script_for source) = c.flat_sizes_are_script_sizes.ensures (script_for source) whole in
    let heavy = c.sizes_are_weighed.ensures source end xs s width in
    let counts = c.counts_are_weighed.ensures source end xs s width in
    let own = ap length (c.single_systems_are_flat.ensures (script_for source) whole refl).variables in
    let counted = c.lines_are_counted.ensures (model_system source) out.laid.codes out.laid.sorted (queries_name_one 0 (forms_invariants (flat_smv source).forms)) out.few in
    omega (arith, size, heavy, counts, own, counted)
