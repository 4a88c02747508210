use Rattle.std.proofs.Common.{◌≡◌, ◌||◌, ℕ, List, drop, map}
use Rattle.std.specs.List.{list_any}
use Rattle.smv_meaning.specs.Names.{found_in}
use Rattle.smv_evaluation.specs.Rows.{is_marked}
use Rattle.smv_meaning.specs.Reached.{is_body_of}
use Rattle.smv_instances.specs.View.{instance_plain}
use Rattle.smv_references.specs.View.{path_seen}
use Rattle.smv_evaluation.proofs.reached.mark_all.Given as goal

abbrev pub invariant-loop-path : goal.invariant-loop-path
invariant-loop-path l =
    (k : ℕ) (x : List ℕ) → (is_marked l.marks k x || list_any (λ q. is_body_of k x (found_in (map instance_plain l.table) l.i q)) (map path_seen (drop l.path-index l.paths)))
    ≡ (is_marked l.fn.marks k x || list_any (λ q. is_body_of k x (found_in (map instance_plain l.table) l.i q)) (map path_seen l.paths))
