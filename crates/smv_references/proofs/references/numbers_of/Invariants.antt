use Rattle.std.proofs.Common.{◌≡◌, ℕ, List, take, map}
use Rattle.name_maps.specs.Rows.{row_in}
use Rattle.smv_meaning.specs.Bodies.{number_in}
use Rattle.smv_references.specs.View.{key_of}
use Rattle.smv_references.proofs.references.numbers_of.Given as goal

abbrev pub invariant-loop-k : goal.invariant-loop-k
invariant-loop-k l = (i : ℕ) (x : List ℕ) → row_in l.numbers i x ≡ number_in (map key_of (take l.k l.bodies)) (i, x)
