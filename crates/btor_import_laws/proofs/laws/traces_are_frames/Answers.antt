use Rattle.btor_import_laws.proofs.Traces.{traces_are_frames_law}
use Rattle.btor_import_laws.proofs.laws.traces_are_frames.Goals as goal

pub returns : goal.returns
returns c = traces_are_frames_law
