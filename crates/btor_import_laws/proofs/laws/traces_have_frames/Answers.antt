use Rattle.btor_import_laws.proofs.Traces.{frames_are_traces_law, traces_are_frames_law}
use Rattle.btor_import_laws.proofs.laws.traces_have_frames.Goals as goal

pub returns : goal.returns
returns c = λ lines well j k q h. (
  λ t. let r = traces_are_frames_law lines well j k q h t.0 t.1 in (r.0, r.2),
  λ f. let r = frames_are_traces_law lines well j k q h f.0 f.1 in (r.0, r.2),
)
