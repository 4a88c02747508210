use Rattle.std.proofs.Common.{◌≡◌, ◌++◌, drop, map}
use Rattle.smv_script_terms.specs.Parts.{item_number}
use Rattle.smv_script_terms.proofs.formulas.item_chains.Given as goal

abbrev pub invariant-loop-item : goal.invariant-loop-item
invariant-loop-item l = l.numbers.items ++ map item_number (drop l.item-index l.items) ≡ map item_number l.items
