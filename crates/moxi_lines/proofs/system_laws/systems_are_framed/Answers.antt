use Rattle.moxi_lines.proofs.Framed.{systems_are_framed_law}
use Rattle.moxi_lines.proofs.system_laws.systems_are_framed.Goals as goal

pub returns : goal.returns
returns c = systems_are_framed_law
