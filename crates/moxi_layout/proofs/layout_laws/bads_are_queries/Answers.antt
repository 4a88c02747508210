use Rattle.moxi_layout.proofs.Latches.{bads_long}
use Rattle.moxi_layout.specs.Layout.{latches_in}
use Rattle.btor_tree.specs.Fits.{is_bad, operands}
use Rattle.moxi_layout.proofs.layout_laws.bads_are_queries.Goals as goal

pub returns : goal.returns
returns c = λ f lines lays. bads_long f lines f.queries (latches_in f lines) (operands is_bad lines) lays.queries
