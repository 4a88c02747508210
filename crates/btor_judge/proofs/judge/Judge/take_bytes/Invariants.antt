use Rattle.std.proofs.Common.{◌≡◌, ℕ, false, List, take, ◌++◌}
use Rattle.btor_judge.specs.Judging.{Represents, has_ended}
use Rattle.btor_judge.proofs.judge.Judge.take_bytes.Given as goal

abbrev pub invariant-loop-b : goal.invariant-loop-b
invariant-loop-b l = record {
  represents : (text : List ℕ) → Represents l.nodes l.fn.self text → Represents l.nodes l.self (text ++ take l.b-index l.piece);
  unended : has_ended l.self ≡ false;
}
