use Rattle.std.proofs.Common.{◌≡◌, ◌++◌, drop, map}
use Rattle.smv_meaning.specs.Bodies.{all_path_numbers}
use Rattle.smv_instances.specs.View.{instance_plain}
use Rattle.smv_references.specs.View.{path_seen}
use Rattle.smv_references.proofs.references.add_all_path_numbers.Given as goal

abbrev pub invariant-loop-path : goal.invariant-loop-path
invariant-loop-path l =
    l.row ++ all_path_numbers (map instance_plain l.table) l.i (map path_seen (drop l.path-index l.paths)) ≡ l.fn.row ++ all_path_numbers (map instance_plain l.table) l.i (map path_seen l.paths)
