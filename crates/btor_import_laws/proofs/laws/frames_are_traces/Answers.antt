use Rattle.btor_import_laws.proofs.Traces.{frames_are_traces_law}
use Rattle.btor_import_laws.proofs.laws.frames_are_traces.Goals as goal

pub returns : goal.returns
returns c = frames_are_traces_law
