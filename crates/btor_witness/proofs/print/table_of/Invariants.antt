use Rattle.std.proofs.Common.{◌≡◌, ℕ, None, length, take, get_or}
use Rattle.btor_witness.specs.Printing.{value_of}
use Rattle.btor_witness.proofs.print.table_of.Given as goal

abbrev pub invariant-loop-one : goal.invariant-loop-one
invariant-loop-one l = record {
  long : length l.table.items ≡ l.count;
  by_index : (k : ℕ) → get_or l.table.items k None ≡ value_of (take l.one-index l.stated) k;
}
