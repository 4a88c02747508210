use Rattle.std.proofs.Common.{◌≡◌, ◌≤◌, ◌<◌, ℕ, true, List, map, length}
use Rattle.smv_text.specs.View.{plain}
use Rattle.smv_meaning.specs.Names.{local}
use Rattle.smv_evaluation.specs.Rows.{is_marked, MarksStart, MarksLeast}
use Rattle.smv_meaning.specs.Reached.{local_leads_to}
use Rattle.smv_instances.specs.View.{instance_plain}
use Rattle.smv_laws.proofs.Ranked.{key}
use Rattle.smv_laws.proofs.Positions.{order_rank}
use Rattle.smv_evaluation.proofs.reached.marks_of.Given as goal

abbrev pub invariant-loop-n : goal.invariant-loop-n
invariant-loop-n l = record {
  within : l.n ≤ length l.order;
  starts : MarksStart (map instance_plain l.table) l.i (plain l.e) l.marks;
  closed : (k : ℕ) (x : List ℕ) (m : ℕ) (y : List ℕ) → l.n < order_rank (map instance_plain l.table) l.order (key k x) → is_marked l.marks k x ≡ true
      → local_leads_to (map instance_plain l.table) (local (map instance_plain l.table) k x) m y ≡ true → is_marked l.marks m y ≡ true;
  least : MarksLeast (map instance_plain l.table) l.i (plain l.e) l.marks;
}

abbrev pub decreases-loop-n : goal.decreases-loop-n
decreases-loop-n l = l.n
