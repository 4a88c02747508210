use Rattle.std.proofs.Common.{◌≡◌, ◌≤◌, ◌+◌, drop, map}
use Rattle.smv_items.specs.FlatOrigins.{origin_plain, input_count}
use Rattle.smv_items.proofs.numbers.input_count.Given as goal

abbrev pub invariant-loop-origin : goal.invariant-loop-origin
invariant-loop-origin l = record {
  within : l.count ≤ l.origin-index;
  counted : l.count + input_count (map origin_plain (drop l.origin-index l.origins)) ≡ input_count (map origin_plain l.origins);
}
