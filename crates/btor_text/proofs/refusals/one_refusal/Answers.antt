use Rattle.btor_text.specs.laws.Refusals as laws
use Rattle.btor_text.proofs.refusals.one_refusal.Goals as goal

pub returns : goal.returns
returns c = laws.one_refusal
