use Rattle.moxi_layout.proofs.Sizes.{layouts_are_read_equally_law}
use Rattle.moxi_layout.proofs.layout_laws.layouts_are_read_equally.Goals as goal

pub returns : goal.returns
returns c = layouts_are_read_equally_law
