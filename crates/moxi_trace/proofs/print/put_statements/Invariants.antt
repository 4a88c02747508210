use Rattle.std.proofs.Common.{◌≡◌, ◌++◌}
use Rattle.std.specs.Slice.Iter.{iter_rest}
use Rattle.std.specs.Iterator.Adapters.{zip_first, zip_second}
use Rattle.moxi_trace.specs.Texts.{fronted_text}
use Rattle.moxi_trace.proofs.print.put_statements.Given as goal

abbrev pub invariant-loop-front : goal.invariant-loop-front
invariant-loop-front l =
    l.out ++ fronted_text l.scope.enumerations (iter_rest (zip_first l.front-iterator)) (iter_rest (zip_second l.front-iterator))
    ≡ l.fn.out ++ fronted_text l.scope.enumerations l.fronts l.values
