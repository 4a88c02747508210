use Rattle.std.proofs.Common.{◌≡◌, ◌++◌, map}
use Rattle.std.specs.Prelude.{flat_map}
use Rattle.std.specs.Slice.Iter.{iter_rest}
use Rattle.smv_text.specs.View.{plain_definition}
use Rattle.smv_references.specs.View.{path_seen}
use Rattle.smv_names.specs.Paths.{definition_paths}
use Rattle.smv_names.proofs.paths.put_definition_paths.Given as goal

abbrev pub invariant-loop-definition : goal.invariant-loop-definition
invariant-loop-definition l =
    map path_seen l.paths.items ++ flat_map definition_paths (map plain_definition (iter_rest l.definition-iterator)) ≡ map path_seen l.fn.paths.items ++ flat_map definition_paths (map plain_definition l.definitions)
