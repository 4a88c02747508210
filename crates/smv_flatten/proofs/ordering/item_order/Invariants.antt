use Rattle.std.proofs.Common.{◌≡◌, ◌++◌, true, nat_lt, length}
use Rattle.std.specs.List.{list_all}
use Rattle.smv_flatten.specs.Ordering.{numbers_in}
use Rattle.smv_flatten.proofs.ordering.item_order.Given as goal

abbrev pub invariant-loop-b : goal.invariant-loop-b
invariant-loop-b l = record {
  within : list_all (λ b. nat_lt b (length l.bodies)) l.rest ≡ true;
  same : l.items ++ numbers_in l.numbers l.bodies l.rest ≡ numbers_in l.numbers l.bodies l.fn.order;
}

abbrev pub decreases-loop-b : goal.decreases-loop-b
decreases-loop-b l = length l.rest
