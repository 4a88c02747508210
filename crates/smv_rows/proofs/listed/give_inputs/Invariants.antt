use Rattle.std.proofs.Common.{◌≡◌, length}
use Rattle.smv_rows.proofs.Inputs.{IsUpto}
use Rattle.smv_rows.proofs.listed.give_inputs.Given as goal

abbrev pub invariant-loop-k : goal.invariant-loop-k
invariant-loop-k l = record {
  size : length l.values.items ≡ length l.items;
  inputs : IsUpto l.items l.other l.fn.values.items l.values.items l.k;
}
