use Rattle.std.proofs.Common.{◌≡◌, drop, map}
use Rattle.smv_meaning.specs.Names.{found_in}
use Rattle.smv_meaning.specs.Checks.{first_failing}
use Rattle.smv_meaning.specs.Phases.{path_check}
use Rattle.smv_instances.specs.View.{instance_plain}
use Rattle.smv_references.specs.View.{path_seen}
use Rattle.smv_names.proofs.paths.all_checked.Given as goal

abbrev pub invariant-loop-path : goal.invariant-loop-path
invariant-loop-path l =
    first_failing (map (path_check (found_in (map instance_plain l.table)) l.i) (map path_seen (drop l.path-index l.paths)))
    ≡ first_failing (map (path_check (found_in (map instance_plain l.table)) l.i) (map path_seen l.paths))
