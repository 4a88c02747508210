use Rattle.std.proofs.Common.{◌≡◌, ◌<◌, ◌^◌, drop}
use Rattle.word_core.specs.Digits.{number_after}
use Rattle.word_core.proofs.digits.number_below.Given as goal

abbrev pub invariant-loop-b : goal.invariant-loop-b
invariant-loop-b l =
    (number_after l.base 0 l.digits ≡ number_after l.base l.number (drop l.b-index l.digits)) × (l.number < 2 ^ l.width)
