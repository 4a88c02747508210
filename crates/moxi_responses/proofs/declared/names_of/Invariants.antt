use Rattle.std.proofs.Common.{◌≡◌, ◌++◌}
use Rattle.std.specs.Slice.Iter.{iter_rest}
use Rattle.moxi_scripts.specs.Valid.{query_names}
use Rattle.moxi_responses.proofs.declared.names_of.Given as goal

abbrev pub invariant-loop-query : goal.invariant-loop-query
invariant-loop-query l = l.names ++ query_names (iter_rest l.query-iterator) ≡ query_names l.queries
