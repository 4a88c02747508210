use Rattle.std.proofs.Common.{◌≡◌, drop}
use Rattle.btor_witness.specs.Bytes.{all_binary}
use Rattle.btor_witness.proofs.bytes.all_binary.Given as goal

abbrev pub invariant-loop-b : goal.invariant-loop-b
invariant-loop-b l = all_binary (drop l.b-index l.digits) ≡ all_binary l.digits
