use Rattle.std.proofs.Common.{◌≡◌, ◌++◌, drop, map}
use Rattle.smv_instances.specs.View.{instance_plain}
use Rattle.smv_items.specs.FlatItems.{path_of}
use Rattle.smv_items.specs.FlatOrigins.{origin_plain}
use Rattle.smv_items.proofs.origins.dotted_paths.Given as goal

abbrev pub invariant-loop-origin : goal.invariant-loop-origin
invariant-loop-origin l =
    l.paths.items ++ map (path_of (map instance_plain l.table)) (map origin_plain (drop l.origin-index l.origins)) ≡ map (path_of (map instance_plain l.table)) (map origin_plain l.origins)
