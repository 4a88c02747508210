use Rattle.std.proofs.Common.{◌≡◌, drop}
use Rattle.std.specs.List.{list_all}
use Rattle.moxi_terms.specs.Sorts.{same_sort}
use Rattle.moxi_term_reading.proofs.typing.are_all.Given as goal

abbrev pub invariant-loop-t : goal.invariant-loop-t
invariant-loop-t l = list_all (same_sort l.s) (drop l.t-index l.sorts) ≡ list_all (same_sort l.s) l.sorts
