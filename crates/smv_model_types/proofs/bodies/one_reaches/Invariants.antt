use Rattle.std.proofs.Common.{◌≡◌, drop, map}
use Rattle.std.specs.List.{list_any}
use Rattle.smv_references.specs.View.{path_seen}
use Rattle.smv_model_types.specs.Reading.{names_of}
use Rattle.smv_model_types.proofs.bodies.one_reaches.Given as goal

abbrev pub invariant-loop-path : goal.invariant-loop-path
invariant-loop-path l =
    list_any (λ q. (names_of l.names q).reaches_input) (map path_seen (drop l.path-index l.paths)) ≡ list_any (λ q. (names_of l.names q).reaches_input) (map path_seen l.paths)
