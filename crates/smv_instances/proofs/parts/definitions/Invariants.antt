use Rattle.std.proofs.Common.{◌≡◌, ◌<◌, ◌+◌, ◌-◌, ◌^◌, map, sum_by}
use Rattle.std.specs.Prelude.{min}
use Rattle.std.specs.Slice.Iter.{iter_rest}
use Rattle.smv_text.specs.View.{plain_element}
use Rattle.smv_meaning.specs.Names.{definitions_in}
use Rattle.smv_instances.proofs.parts.definitions.Given as goal

abbrev pub invariant-loop-element : goal.invariant-loop-element
invariant-loop-element l = record {
  fits : l.count < 2 ^ 64;
  count :
      min (l.count + sum_by definitions_in (map plain_element (iter_rest l.element-iterator))) (2 ^ 64 - 1) ≡ min (sum_by definitions_in (map plain_element l.elements)) (2 ^ 64 - 1);
}
