use Rattle.std.proofs.Common.{◌≡◌, ◌≤◌, ℕ, List, None, slice_get, length}
use Rattle.name_maps.specs.Rows.{bucket_named}
use Rattle.name_maps.proofs.buckets.empty_buckets.Given as goal

abbrev pub invariant-loop : goal.invariant-loop
invariant-loop g l = record { long : l.counter ≤ length l.list.items; empty : (k i : ℕ) (x : List ℕ) → bucket_named (slice_get l.list.items k) i x ≡ None }
