use Rattle.std.proofs.Common.{◌≡◌, ◌<◌, ◌%◌, drop}
use Rattle.name_maps.specs.Rows.{number_on}
use Rattle.name_maps.proofs.buckets.number_of.Given as goal

abbrev pub invariant-loop-b : goal.invariant-loop-b
invariant-loop-b l = record { bound : l.h < 4294967296; on : number_on l.h (drop l.b-index l.name) ≡ number_on (l.i % 4294967296) l.name }
