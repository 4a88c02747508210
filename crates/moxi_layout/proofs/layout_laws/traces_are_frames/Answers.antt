use Rattle.moxi_layout.proofs.Both.{traces_are_frames_law}
use Rattle.moxi_layout.proofs.layout_laws.traces_are_frames.Goals as goal

pub returns : goal.returns
returns c = traces_are_frames_law
