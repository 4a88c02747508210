use Rattle.std.proofs.Common.{◌≡◌, ℕ, List, take, map, position}
use Rattle.smv_meaning.specs.Names.{is_child}
use Rattle.name_maps.specs.Rows.{row_in}
use Rattle.smv_instances.specs.View.{instance_plain}
use Rattle.smv_instances.proofs.children.children_of.Given as goal

abbrev pub invariant-loop-c : goal.invariant-loop-c
invariant-loop-c l = (i : ℕ) (x : List ℕ) → row_in l.children i x ≡ position (is_child i x) (map instance_plain (take l.c l.table))
