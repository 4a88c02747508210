use Rattle.std.proofs.Common.{◌≡◌, ℕ, List, [], drop, map}
use Rattle.smv_text.specs.View.{plain_module}
use Rattle.smv_meaning.specs.Checks.{first_failing}
use Rattle.smv_meaning.specs.Phases.{declared_in, declared_checks, counted_all}
use Rattle.smv_names.specs.View.{declared_plain, names_above}
use Rattle.smv_names.specs.Declaring.{first_twice}
use Rattle.smv_names.specs.Visits.{IsLength}
use Rattle.smv_names.proofs.declarations.declared_checked.Given as goal

abbrev pub invariant-loop-k : goal.invariant-loop-k
invariant-loop-k l =
    (names : List (List ℕ)) × (l.twice ≡ first_twice l.k names (map declared_plain (drop l.k l.list)))
    × ((path : List ℕ) → IsLength l.path_length path → first_failing (declared_checks (map plain_module l.modules) (names_above l.above) path names l.count (map declared_plain (drop l.k l.list))) ≡ first_failing (declared_checks (map plain_module l.modules) (names_above l.above) path [] l.fn.met (declared_in (plain_module l.own))))
    × (counted_all l.count (map declared_plain (drop l.k l.list)) ≡ counted_all l.fn.met (declared_in (plain_module l.own)))
