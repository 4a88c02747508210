use Rattle.moxi_layout.proofs.Accepted.{accepted_frames_are_traces_law}
use Rattle.moxi_layout.proofs.layout_laws.accepted_frames_are_traces.Goals as goal

pub returns : goal.returns
returns c = accepted_frames_are_traces_law
