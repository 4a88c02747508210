use Rattle.std.proofs.Common.{◌≡◌, drop, map}
use Rattle.top_call.specs.Words.{row, task_in}
use Rattle.top_call.proofs.words.task_in.Given as goal

abbrev pub invariant-loop-written : goal.invariant-loop-written
invariant-loop-written l = task_in (map row (drop l.written-index l.table)) l.word ≡ task_in (map row l.table) l.word
