use Rattle.std.proofs.Common.{◌≡◌, ◌<◌, ◌^◌, true, drop}
use Rattle.btor_witness.specs.Bytes.{all_binary, bits_after}
use Rattle.btor_witness.proofs.bytes.bits.Given as goal

abbrev pub invariant-loop-b : goal.invariant-loop-b
invariant-loop-b l = record {
  value : bits_after l.bits (drop l.b-index l.digits) ≡ bits_after 0 l.digits;
  binary : all_binary (drop l.b-index l.digits) ≡ true;
  fits : l.bits < 2 ^ l.b-index;
}
