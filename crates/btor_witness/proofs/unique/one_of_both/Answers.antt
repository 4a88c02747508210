use Rattle.btor_witness.specs.laws.Laws as laws
use Rattle.btor_witness.proofs.unique.one_of_both.Goals as goal

pub returns : goal.returns
returns c = laws.one_answer
