use Rattle.btor_witness.proofs.Again as again
use Rattle.btor_witness.proofs.unique.printed_is_read.Goals as goal

pub returns : goal.returns
returns c = λ lines w well fits within. again.printed_spells lines w well fits within.0 within.1
