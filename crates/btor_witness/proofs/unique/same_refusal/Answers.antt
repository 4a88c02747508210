use Rattle.btor_witness.specs.laws.Laws as laws
use Rattle.btor_witness.proofs.unique.same_refusal.Goals as goal

pub returns : goal.returns
returns c = laws.same_refusal
