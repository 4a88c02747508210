use Rattle.std.proofs.Common.{◌≡◌, ◌≤◌, take, length}
use Rattle.name_maps.specs.Rows.{last_named}
use Rattle.name_maps.proofs.buckets.last_value.Given as goal

abbrev pub invariant-loop-k : goal.invariant-loop-k
invariant-loop-k g l = record { within : l.k ≤ length l.rows; has : last_named (take l.k l.rows) l.i l.name ≡ last_named l.rows l.i l.name }

abbrev pub decreases-loop-k : goal.decreases-loop-k
decreases-loop-k g l = l.k
