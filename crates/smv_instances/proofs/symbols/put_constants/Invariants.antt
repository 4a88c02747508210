use Rattle.std.proofs.Common.{◌≡◌, ◌||◌, ℕ, List, is_some}
use Rattle.std.specs.Slice.Iter.{iter_rest}
use Rattle.smv_meaning.specs.Instances.{is_one_of}
use Rattle.name_maps.specs.Maps.{named}
use Rattle.smv_instances.proofs.symbols.put_constants.Given as goal

abbrev pub invariant-loop-name : goal.invariant-loop-name
invariant-loop-name l = (x : List ℕ) → (is_some (named l.symbols x) || is_one_of (iter_rest l.name-iterator) x) ≡ (is_some (named l.fn.symbols x) || is_one_of l.names x)
