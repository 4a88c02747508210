use Rattle.std.proofs.Common.{◌≡◌, ◌||◌, ℕ, List, drop, map, is_some}
use Rattle.smv_meaning.specs.Names.{has_symbol}
use Rattle.smv_instances.specs.View.{instance_plain}
use Rattle.name_maps.specs.Maps.{named}
use Rattle.smv_instances.proofs.symbols.symbols_of.Given as goal

abbrev pub invariant-loop-part : goal.invariant-loop-part
invariant-loop-part l = (x : List ℕ) → (is_some (named l.symbols x) || has_symbol (map instance_plain (drop l.part-index l.table)) x) ≡ has_symbol (map instance_plain l.table) x
