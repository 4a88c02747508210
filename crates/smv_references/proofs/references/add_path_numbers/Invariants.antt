use Rattle.std.proofs.Common.{◌≡◌, ◌++◌, drop, map}
use Rattle.smv_meaning.specs.Bodies.{path_numbers}
use Rattle.smv_instances.specs.View.{instance_plain}
use Rattle.smv_references.proofs.references.add_path_numbers.Given as goal

abbrev pub invariant-loop-name : goal.invariant-loop-name
invariant-loop-name l =
    l.row ++ path_numbers (map instance_plain l.table) l.at (drop l.name-index l.name-items) ≡ l.fn.row ++ path_numbers (map instance_plain l.table) l.i l.names
