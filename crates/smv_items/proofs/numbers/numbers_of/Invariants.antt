use Rattle.std.proofs.Common.{◌≡◌, List, take, map}
use Rattle.smv_meaning.specs.Instances.{Instance}
use Rattle.smv_items.specs.FlatItems.{path_of}
use Rattle.smv_items.specs.FlatOrigins.{origin_plain, AreNumbers}
use Rattle.smv_items.proofs.numbers.numbers_of.Given as goal

abbrev pub invariant-loop-k : goal.invariant-loop-k
invariant-loop-k l = (t : List Instance) → l.paths ≡ map (path_of t) (map origin_plain l.origins) → AreNumbers t (map origin_plain (take l.k l.origins)) l.numbers
