use Rattle.std.proofs.Common.{◌≡◌, List, length}
use Rattle.btor_witness.specs.declared.witness.Stated.{Stated}
use Rattle.btor_judge.specs.Kept.{kept, Holds, IsClearing}
use Rattle.btor_judge.proofs.part.clear.Given as goal

abbrev pub invariant-loop-place : goal.invariant-loop-place
invariant-loop-place l = record {
  marked : length l.marks ≡ length l.widths;
  worded : length l.words ≡ length l.widths;
  clearing : (stated : List Stated) → Holds (kept l.widths l.fn.marks l.fn.words) stated → IsClearing l.place (kept l.widths l.marks l.words);
}
