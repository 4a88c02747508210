use Rattle.std.proofs.Common.{◌≡◌, ◌+◌, ℕ, drop, map, length}
use Rattle.std.specs.Prelude.{flat_map}
use Rattle.smv_text.specs.View.{plain_element}
use Rattle.smv_meaning.specs.Phases.{element_invariants}
use Rattle.smv_names.proofs.invariants.counted_all.Given as goal

abbrev pub invariant-loop-element : goal.invariant-loop-element
invariant-loop-element l =
    (i : ℕ) → l.all + length (flat_map (element_invariants i) (map plain_element (drop l.element-index l.element-items))) ≡ l.count + length (flat_map (element_invariants i) (map plain_element l.elements))
