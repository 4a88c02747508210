use Rattle.std.proofs.Common.{◌≡◌, ℕ, ◌+◌, ◌-◌, None, length}
use Rattle.std.specs.Prelude.{slice_index_or}
use Rattle.smv_model_types.proofs.kept.make_room.Given as goal

abbrev pub invariant-loop-kept : goal.invariant-loop-kept
invariant-loop-kept g l = (n : ℕ) → slice_index_or l.kept.items n None ≡ slice_index_or l.initial.kept.items n None

abbrev pub decreases-loop-kept : goal.decreases-loop-kept
decreases-loop-kept g l = (l.k + 1) - length l.kept.items
