use Rattle.std.proofs.lemmas.Option.{none-some}
use Rattle.btor_tree.proofs.Resolved.{reads_well_formed}
use Rattle.btor_tree.proofs.laws.spelled_fits.Goals as goal

pub returns : goal.returns
returns c = λ text lines h. reads_well_formed h (record { by_line = λ i l e. absurd (none-some l e) })
