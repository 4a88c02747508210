use Rattle.text_core.specs.Places.{start, after}
use Rattle.witness_lift.specs.LineLaws.{model_lines}
use Rattle.smv_commands.specs.Translation.{btor_text}
use Rattle.smv_commands.proofs.laws.translations_are_correct.Goals as goal

pub returns : goal.returns
unfolding btor_text
returns c bytes source a =
    let m = a.is_model in
    let spelled = c.model_lines_are_spelled.ensures source (after start bytes) bytes m.tokens m.lexed m.spelled 0 a.accepted m.low in
    record {
      lines = model_lines source;
      spells = spelled.there;
      only = spelled.one;
      translates = c.models_have_frames.ensures source (after start bytes) bytes m.tokens m.lexed m.spelled 0 a.accepted m.low;
      few = c.model_lines_are_counted.ensures source (after start bytes) bytes m.tokens m.lexed m.spelled 0 a.accepted m.low;
      distinct = c.model_lines_are_shared.ensures source (after start bytes) bytes m.tokens m.lexed m.spelled 0 a.accepted m.low;
    }
