use Rattle.std.proofs.Common.{◌≡◌, ◌++◌, map}
use Rattle.std.specs.Prelude.{flat_map}
use Rattle.std.specs.Slice.Iter.{iter_rest}
use Rattle.smv_text.specs.View.{plain_assignment}
use Rattle.smv_references.specs.View.{path_seen}
use Rattle.smv_names.specs.Paths.{assignment_paths}
use Rattle.smv_names.proofs.paths.put_assignment_paths.Given as goal

abbrev pub invariant-loop-assignment : goal.invariant-loop-assignment
invariant-loop-assignment l =
    map path_seen l.paths.items ++ flat_map assignment_paths (map plain_assignment (iter_rest l.assignment-iterator)) ≡ map path_seen l.fn.paths.items ++ flat_map assignment_paths (map plain_assignment l.assignments)
