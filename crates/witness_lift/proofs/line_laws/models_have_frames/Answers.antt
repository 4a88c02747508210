use Rattle.std.proofs.Common.{◌∙◌}
use Rattle.smv_script.specs.Script.{script_for}
use Rattle.witness_lift.specs.LineLaws.{model_lines, model_system}
use Rattle.witness_lift.proofs.Frames.{FlatTracesOf, FramesOfSystem, complete_frames, sound_frames}
use Rattle.witness_lift.proofs.line_laws.models_have_frames.Goals as goal

pub returns : goal.returns
returns c source end text xs l s needed a low =
    let whole = c.scripts_are_valid.ensures source end text xs l s needed a in
    let laid = (c.model_lines_are_laid_out.ensures source end text xs l s needed a low).laid in
    let has = c.runs_are_traces.ensures.queries source in
    let flat : FlatTracesOf source = c.traces_have_flat_traces.ensures (script_for source) whole in
    let frames : FramesOfSystem source = c.traces_have_frames.ensures (model_system source) (model_lines source) laid in
    record {
      bads = c.bads_are_queries.ensures (model_system source) (model_lines source) laid.lays ∙ has.counted;
      frames = λ j k lt. (
        complete_frames source has flat frames (c.runs_are_traces.ensures.traced source end text xs l s needed a) j k lt,
        sound_frames source has flat frames (c.runs_are_traces.ensures.decoded source end text xs l s needed a) j k lt,
      );
    }
