use Rattle.smv_width.proofs.SourceWidths.{same_width}
use Rattle.smv_width.proofs.laws.same_width.Goals as goal

pub returns : goal.returns
returns c = same_width
