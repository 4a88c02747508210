use Rattle.std.proofs.Common.{◌≡◌, drop, length, bytes_eq}
use Rattle.text_core.proofs.bytes.is_same.Given as goal

abbrev pub invariant-loop-k : goal.invariant-loop-k
invariant-loop-k l = record {
  size : length l.name ≡ length l.other;
  same : bytes_eq (drop l.k l.name) (drop l.k l.other) ≡ bytes_eq l.name l.other;
}
