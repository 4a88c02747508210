use Rattle.std.proofs.Common.{◌≡◌, ◌<◌, length, arith}
use Rattle.btor_tree.specs.Fits.{greatest_id}
use Rattle.smv_flat.specs.FlatForms.{flat_smv}
use Rattle.smv_flat.specs.FlatWidth.{width_of}
use Rattle.smv_script.specs.Script.{script_for}
use Rattle.moxi_flat.specs.Systems.{script_size}
use Rattle.moxi_lines.specs.TermLaws.{HaveCodes}
use Rattle.moxi_layout.specs.Counts.{flat_size}
use Rattle.witness_lift.specs.LineLaws.{model_lines, model_system}
use Rattle.witness_lift.proofs.Models.{symbols_have_codes, weight_fits}
use Rattle.witness_lift.proofs.line_laws.model_lines_are_laid_out.Goals as goal

pub returns : goal.returns
returns c source end text xs l s needed a low =
    let whole = c.scripts_are_valid.ensures source end text xs l s needed a in
    let small = (c.scripts_are_small.ensures source end xs s needed a low (width_of (flat_smv source))).size in
    let symbols = c.symbols_are_weighed.ensures source end xs s in
    let light = weight_fits source needed a in
    let sorted = c.flat_systems_are_sorted.ensures (script_for source) whole in
    let codes : HaveCodes (model_system source).scope.enumerations = symbols_have_codes (flat_smv source).symbols (omega (arith, symbols, light)) in
    let size : flat_size (model_system source) ≡ script_size (script_for source) = c.flat_sizes_are_script_sizes.ensures (script_for source) whole in
    let most = c.lines_stay_few.ensures (model_system source) sorted in
    let few : length (model_lines source) < greatest_id = omega (arith, most, size, small) in
    record {
      laid = record {
        sorted = sorted;
        codes = codes;
        well_formed = c.lines_lay_out.ensures.well_formed (model_system source) codes sorted few;
        lays = c.lines_lay_out.ensures.laid (model_system source) codes sorted few;
      };
      few = few;
    }
