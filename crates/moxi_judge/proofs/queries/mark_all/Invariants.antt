use Rattle.std.proofs.Common.{◌≡◌, ℕ, ◌<◌, ◌≤◌, ◌||◌, Bool, false, length}
use Rattle.std.specs.Prelude.{slice_index_or}
use Rattle.moxi_terms.specs.Value.{at}
use Rattle.moxi_scripts.specs.Meeting.{reaches}
use Rattle.moxi_judge.specs.FlatTests.{AreMarks, free_script}
use Rattle.moxi_judge.proofs.queries.mark_all.Given as goal

abbrev pub invariant-loop-i : goal.invariant-loop-i
invariant-loop-i l = record {
  long : length l.marks.items ≡ length l.numbers;
  marked : (before : ℕ → Bool) → AreMarks before l.numbers l.fn.marks.items → (k : ℕ) → k < l.i
      → slice_index_or l.marks.items k false ≡ (before (slice_index_or l.numbers k 0) || reaches (free_script l.system) (at l.now) (slice_index_or l.numbers k 0));
  left : (k : ℕ) → l.i ≤ k → slice_index_or l.marks.items k false ≡ slice_index_or l.fn.marks.items k false;
}
