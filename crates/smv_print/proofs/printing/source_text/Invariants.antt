use Rattle.std.proofs.Common.{◌≡◌, ◌++◌, map}
use Rattle.std.specs.Slice.Iter.{iter_rest}
use Rattle.std.specs.List.{flat_map}
use Rattle.smv_text.specs.View.{plain_module, plain_source}
use Rattle.smv_lex.specs.Spelling.{written}
use Rattle.smv_print.specs.Printing.{module_kinds, printed}
use Rattle.smv_print.proofs.printing.source_text.Given as goal

abbrev pub invariant-loop-declared : goal.invariant-loop-declared
invariant-loop-declared l = l.out ++ written l.behind (flat_map module_kinds (map plain_module (iter_rest l.declared-iterator))) ≡ printed (plain_source l.source)
