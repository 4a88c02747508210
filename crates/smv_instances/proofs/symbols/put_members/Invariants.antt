use Rattle.std.proofs.Common.{◌≡◌, ◌||◌, ℕ, List, is_some}
use Rattle.std.specs.List.{list_any}
use Rattle.std.specs.Slice.Iter.{iter_rest}
use Rattle.smv_meaning.specs.Names.{is_symbol}
use Rattle.name_maps.specs.Maps.{named}
use Rattle.smv_instances.proofs.symbols.put_members.Given as goal

abbrev pub invariant-loop-member : goal.invariant-loop-member
invariant-loop-member l = (x : List ℕ) → (is_some (named l.symbols x) || list_any (is_symbol x) (iter_rest l.member-iterator)) ≡ (is_some (named l.fn.symbols x) || list_any (is_symbol x) l.members)
