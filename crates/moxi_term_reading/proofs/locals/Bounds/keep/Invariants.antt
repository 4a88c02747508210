use Rattle.std.proofs.Common.{◌≡◌, ◌≤◌, length, take}
use Rattle.moxi_term_reading.proofs.locals.Bounds.keep.Given as goal

abbrev pub decreases-loop-self : goal.decreases-loop-self
decreases-loop-self l = length l.self

abbrev pub invariant-loop-self : goal.invariant-loop-self
invariant-loop-self l = record {
  front : l.self ≡ take (length l.self) l.initial.self;
  long : l.count ≤ length l.self;
}
