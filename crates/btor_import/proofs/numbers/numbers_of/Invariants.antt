use Rattle.std.proofs.Common.{◌≡◌, ℕ, ◌<◌, get_or, length}
use Rattle.btor_import.specs.Assembling.{counts_at}
use Rattle.btor_import.specs.Script.{number_of}
use Rattle.btor_import.proofs.numbers.numbers_of.Given as goal

abbrev pub invariant-loop-line : goal.invariant-loop-line
invariant-loop-line l = record {
  counts : l.counts ≡ counts_at l.nodes l.line-index;
  sized : length l.all.items ≡ l.line-index;
  each : (k : ℕ) → k < l.line-index → get_or l.all.items k 0 ≡ number_of l.nodes k;
}
