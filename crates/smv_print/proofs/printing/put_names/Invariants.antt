use Rattle.std.proofs.Common.{◌≡◌, ◌++◌, map}
use Rattle.std.specs.Slice.Iter.{iter_rest}
use Rattle.smv_lex.specs.Spelling.{spaced}
use Rattle.smv_print.specs.Printing.{parted, ident}
use Rattle.smv_print.proofs.printing.put_names.Given as goal

abbrev pub invariant-loop-name : goal.invariant-loop-name
invariant-loop-name l = l.out ++ spaced (parted l.sign l.behind (map ident (iter_rest l.name-iterator))) ≡ l.fn.out ++ spaced (parted l.sign l.first (map ident l.fn.names))
