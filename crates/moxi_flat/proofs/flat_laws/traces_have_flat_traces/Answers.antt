use Rattle.moxi_flat.proofs.Scripts.{traces_have_flat_traces_law}
use Rattle.moxi_flat.proofs.flat_laws.traces_have_flat_traces.Goals as goal

pub returns : goal.returns
returns c = traces_have_flat_traces_law
