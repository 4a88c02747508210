use Rattle.std.proofs.Common.{◌≡◌, ◌++◌, map}
use Rattle.std.specs.Slice.Iter.{iter_rest}
use Rattle.std.specs.List.{flat_map}
use Rattle.smv_text.specs.View.{plain_definition}
use Rattle.smv_lex.specs.Spelling.{spaced}
use Rattle.smv_print.specs.Printing.{definition_kinds}
use Rattle.smv_print.proofs.printing.put_definitions.Given as goal

abbrev pub invariant-loop-definition : goal.invariant-loop-definition
invariant-loop-definition l = l.out ++ spaced (flat_map definition_kinds (map plain_definition (iter_rest l.definition-iterator))) ≡ l.fn.out ++ spaced (flat_map definition_kinds (map plain_definition l.fn.definitions))
