use Rattle.std.proofs.Common.{◌≡◌, ℕ, ◌+◌, ◌-◌, length}
use Rattle.smv_names.specs.Assigning.{kinds_at}
use Rattle.smv_names.proofs.assignments.make_room.Given as goal

abbrev pub invariant-loop-kept : goal.invariant-loop-kept
invariant-loop-kept l = (n : ℕ) → kinds_at l.kept.items n ≡ kinds_at l.initial.kept.items n

abbrev pub decreases-loop-kept : goal.decreases-loop-kept
decreases-loop-kept l = (l.item + 1) - length l.kept.items
