use Rattle.std.proofs.Common.{◌≡◌, ◌+◌, length}
use Rattle.std.specs.Prelude.{option_map}
use Rattle.explain_core.specs.Notes.{place_of_byte}
use Rattle.explain_core.proofs.notes.place_of_byte.Given as goal

abbrev pub invariant-loop-b : goal.invariant-loop-b
invariant-loop-b l = record {
  rest_is : option_map (λ k. l.count + k) (place_of_byte l.wanted l.rest) ≡ place_of_byte l.wanted l.text;
  all : l.count + length l.rest ≡ length l.text;
}

abbrev pub decreases-loop-b : goal.decreases-loop-b
decreases-loop-b l = length l.rest
