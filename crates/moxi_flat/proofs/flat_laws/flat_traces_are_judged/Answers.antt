use Rattle.moxi_flat.proofs.Judged.{flat_traces_are_judged_law}
use Rattle.moxi_flat.proofs.flat_laws.flat_traces_are_judged.Goals as goal

pub returns : goal.returns
returns c = flat_traces_are_judged_law
