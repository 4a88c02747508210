use Rattle.std.proofs.Common.{◌≡◌}
use Rattle.std.specs.List.{list_all}
use Rattle.std.specs.Slice.Iter.{iter_rest}
use Rattle.moxi_term_reading.specs.Reading.{has_sort}
use Rattle.moxi_term_reading.proofs.lets.have_sorts.Given as goal

abbrev pub invariant-loop-local : goal.invariant-loop-local
invariant-loop-local l = list_all has_sort (iter_rest l.local-iterator) ≡ list_all has_sort l.fn.locals
