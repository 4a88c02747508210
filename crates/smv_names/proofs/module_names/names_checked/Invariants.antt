use Rattle.std.proofs.Common.{◌≡◌, ℕ, List, [], map, is_some}
use Rattle.std.specs.Slice.Iter.{iter_rest}
use Rattle.smv_text.specs.View.{plain_module}
use Rattle.smv_meaning.specs.Instances.{is_one_of}
use Rattle.name_maps.specs.Maps.{named}
use Rattle.smv_meaning.specs.Checks.{first_failing}
use Rattle.smv_meaning.specs.Phases.{name_checks}
use Rattle.smv_names.proofs.module_names.names_checked.Given as goal

abbrev pub invariant-loop-module : goal.invariant-loop-module
invariant-loop-module l =
    (names : List (List ℕ)) × ((x : List ℕ) → is_some (named l.seen x) ≡ is_one_of names x)
    × (first_failing (name_checks names (map plain_module (iter_rest l.module-iterator))) ≡ first_failing (name_checks [] (map plain_module l.modules)))
