use Rattle.std.proofs.Common.{◌≡◌, drop, map}
use Rattle.moxi_instantiate.specs.PlainParts.{plain_part}
use Rattle.moxi_lines.specs.Lines.{with_parts}
use Rattle.moxi_to_btor.specs.Putting.{CanPutParts}
use Rattle.moxi_to_btor.proofs.parts.put_parts.Given as goal

abbrev pub invariant-loop-part : goal.invariant-loop-part
invariant-loop-part l = record {
  told : with_parts l.scope l.inputs l.builder (map plain_part (drop l.part-index l.parts)) ≡ with_parts l.scope l.inputs l.fn.builder (map plain_part l.parts);
  can : CanPutParts l.scope l.inputs l.builder (map plain_part (drop l.part-index l.parts));
}
