use Rattle.btor_witness.specs.laws.Laws as laws
use Rattle.btor_witness.proofs.unique.not_both.Goals as goal

pub returns : goal.returns
returns c = laws.not_both
