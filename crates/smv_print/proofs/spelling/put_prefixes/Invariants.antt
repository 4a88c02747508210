use Rattle.std.proofs.Common.{◌≡◌, ◌++◌}
use Rattle.smv_text.specs.Levels.{prefix_kind}
use Rattle.smv_lex.specs.Spelling.{spaced}
use Rattle.smv_print.specs.Printing.{repeated}
use Rattle.smv_print.proofs.spelling.put_prefixes.Given as goal

abbrev pub invariant-loop : goal.invariant-loop
invariant-loop l = l.out ≡ l.fn.out ++ spaced (repeated l.counter (prefix_kind l.prefix))
