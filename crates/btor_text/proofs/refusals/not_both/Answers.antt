use Rattle.btor_text.specs.laws.Refusals as laws
use Rattle.btor_text.proofs.refusals.not_both.Goals as goal

pub returns : goal.returns
returns c = laws.not_both
