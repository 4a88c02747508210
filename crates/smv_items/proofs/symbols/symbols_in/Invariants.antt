use Rattle.std.proofs.Common.{◌≡◌, drop, map}
use Rattle.std.specs.Prelude.{flat_map}
use Rattle.smv_instances.specs.View.{instance_plain}
use Rattle.smv_items.specs.FlatItems.{gathered, element_symbols, symbols_of}
use Rattle.smv_items.proofs.symbols.symbols_in.Given as goal

abbrev pub invariant-loop-part : goal.invariant-loop-part
invariant-loop-part l =
    gathered l.symbols (flat_map (λ at. flat_map element_symbols at.module.elements) (map instance_plain (drop l.part-index l.part-items))) ≡ symbols_of (map instance_plain l.table)
