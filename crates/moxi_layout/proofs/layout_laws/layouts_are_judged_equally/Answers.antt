use Rattle.moxi_layout.proofs.Judged.{layouts_are_judged_equally_law}
use Rattle.moxi_layout.proofs.layout_laws.layouts_are_judged_equally.Goals as goal

pub returns : goal.returns
returns c = layouts_are_judged_equally_law
