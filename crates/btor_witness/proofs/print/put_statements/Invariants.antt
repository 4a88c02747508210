use Rattle.std.proofs.Common.{◌≡◌, ◌++◌}
use Rattle.std.specs.Slice.Iter.{iter_rest}
use Rattle.std.specs.List.{flat_map}
use Rattle.btor_witness.specs.Printing.{statement_line}
use Rattle.btor_witness.proofs.print.put_statements.Given as goal

abbrev pub invariant-loop-statement : goal.invariant-loop-statement
invariant-loop-statement l =
    l.out ++ flat_map statement_line (iter_rest l.statement-iterator) ≡ l.fn.out ++ flat_map statement_line l.fn.stated
