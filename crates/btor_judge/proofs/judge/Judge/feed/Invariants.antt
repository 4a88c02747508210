use Rattle.std.proofs.Common.{◌≡◌, ℕ, false, List, length, ◌++◌}
use Rattle.btor_judge.specs.Judging.{Represents, has_ended}
use Rattle.btor_judge.proofs.judge.Judge.feed.Given as goal

abbrev pub invariant-lines : goal.invariant-lines
invariant-lines l = record {
  represents : (text : List ℕ) → Represents l.nodes l.fn.self text → (front : List ℕ) × (front ++ l.rest ≡ l.piece) × Represents l.nodes l.self (text ++ front);
  unended : has_ended l.self ≡ false;
}

abbrev pub decreases-lines : goal.decreases-lines
decreases-lines l = length l.rest
