use Rattle.std.proofs.Common.{◌≡◌, ℕ, true, false, drop, get_or}
use Rattle.btor_witness.specs.Parts.{is_stated}
use Rattle.btor_witness.proofs.part.clear.Given as goal

abbrev pub invariant-loop-one : goal.invariant-loop-one
invariant-loop-one l = (k : ℕ) → get_or l.marks k false ≡ true → is_stated (drop l.one-index l.stated) k ≡ true
