use Rattle.std.proofs.Common.{◌≡◌, ◌<◌, ◌+◌, ◌-◌, ◌^◌, min, map, sum_by}
use Rattle.std.specs.Slice.Iter.{iter_rest}
use Rattle.smv_text.specs.View.{plain_element, plain_module}
use Rattle.smv_instances.specs.NameCounts.{names_of_element, names_of}
use Rattle.smv_instances.proofs.known_names.names_in.Given as goal

abbrev pub invariant-loop-element : goal.invariant-loop-element
invariant-loop-element l = record {
  fits : l.count < 2 ^ 64;
  counts : min (l.count + sum_by names_of_element (map plain_element (iter_rest l.element-iterator))) (2 ^ 64 - 1) ≡ min (names_of (plain_module l.module)) (2 ^ 64 - 1);
}
