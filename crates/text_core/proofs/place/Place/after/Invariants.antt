use Rattle.std.proofs.Common.{◌≡◌, ◌≤◌, ◌+◌, drop}
use Rattle.text_core.specs.Places.{after}
use Rattle.text_core.proofs.place.Place.after.Given as goal

abbrev pub invariant-loop-b : goal.invariant-loop-b
invariant-loop-b l = record {
  rest_is : after l.place (drop l.b-index l.bytes) ≡ after l.fn.self l.bytes;
  line : l.place.line ≤ l.fn.self.line + l.b-index;
  column : l.place.column ≤ l.fn.self.column + l.b-index + 1;
  offset : l.place.offset ≡ l.fn.self.offset + l.b-index;
}
