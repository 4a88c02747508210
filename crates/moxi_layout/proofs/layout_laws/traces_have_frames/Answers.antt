use Rattle.moxi_layout.proofs.Both.{traces_have_frames_law}
use Rattle.moxi_layout.proofs.layout_laws.traces_have_frames.Goals as goal

pub returns : goal.returns
returns c = traces_have_frames_law
