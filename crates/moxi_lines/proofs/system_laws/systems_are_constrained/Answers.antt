use Rattle.moxi_lines.proofs.Systems.{systems_are_constrained_law}
use Rattle.moxi_lines.proofs.system_laws.systems_are_constrained.Goals as goal

pub returns : goal.returns
returns c = systems_are_constrained_law
