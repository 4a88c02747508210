use Rattle.std.proofs.Common.{◌≡◌, ◌++◌, map, drop, option_map}
use Rattle.smv_meaning.specs.Checks.{all_types}
use Rattle.smv_intervals.specs.View.{seen}
use Rattle.smv_types.proofs.lists.all_types.Given as goal

abbrev pub invariant-loop-t : goal.invariant-loop-t
invariant-loop-t l =
    option_map (λ us. map seen l.all.items ++ us) (all_types (map (option_map seen) (drop l.t-index l.types))) ≡ all_types (map (option_map seen) l.types)
