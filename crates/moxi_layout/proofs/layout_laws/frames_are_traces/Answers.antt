use Rattle.moxi_layout.proofs.Both.{frames_are_traces_law}
use Rattle.moxi_layout.proofs.layout_laws.frames_are_traces.Goals as goal

pub returns : goal.returns
returns c = frames_are_traces_law
