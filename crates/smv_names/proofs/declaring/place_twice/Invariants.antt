use Rattle.std.proofs.Common.{◌≡◌, ℕ, List, [], drop, map, is_some}
use Rattle.smv_meaning.specs.Instances.{is_one_of}
use Rattle.name_maps.specs.Rows.{row_named}
use Rattle.smv_names.specs.View.{declared_plain}
use Rattle.smv_names.specs.Declaring.{first_twice}
use Rattle.smv_names.proofs.declaring.place_twice.Given as goal

abbrev pub invariant-loop-k : goal.invariant-loop-k
invariant-loop-k l =
    (names : List (List ℕ)) × ((x : List ℕ) → is_some (row_named l.seen x) ≡ is_one_of names x)
    × (first_twice l.k names (map declared_plain (drop l.k l.list)) ≡ first_twice 0 [] (map declared_plain l.list))
