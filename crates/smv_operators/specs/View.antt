-- The plain forms of values whose symbols are borrowed, and of what operators give.
use Rattle.std.specs.Prelude.{Option, Some, None}
use Rattle.smv_meaning.specs.declared.value.Value.{Value}
use Rattle.smv_meaning.specs.declared.value.Value.TheVariants as OfValue
use Rattle.smv_operators.specs.declared.seen.Seen.{Seen}
use Rattle.smv_operators.specs.declared.seen.Seen.TheVariants as OfSeen
use Rattle.smv_operators.specs.declared.operators.Plain.{Plain}
use Rattle.smv_operators.specs.declared.operators.Plain.TheVariants as OfPlain
use Rattle.smv_operators.specs.declared.operators.Pair.{Pair}
use Rattle.smv_operators.specs.declared.operators.Pair.TheVariants as OfPair
use Rattle.smv_meaning.specs.Operators.{Operands, truths, integers, words, mixed}

abbrev pub seen_value : Seen → Value
seen_value (OfSeen.Truth b) = OfValue.Truth b
seen_value (OfSeen.Integer z) = OfValue.Integer z
seen_value (OfSeen.Symbol s) = OfValue.Symbol s.now
seen_value (OfSeen.Bits w) = OfValue.Bits w

abbrev pub plain_value : Plain → Value
plain_value (OfPlain.Truth b) = OfValue.Truth b
plain_value (OfPlain.Integer z) = OfValue.Integer z
plain_value (OfPlain.Bits w) = OfValue.Bits w

-- the value, or the other one where there is none
abbrev pub plain_or : Option Plain → Value → Value
plain_or None other = other
plain_or (Some p) other = plain_value p

abbrev pub pair_operands : Pair → Operands
pair_operands (OfPair.Truths a b) = truths a b
pair_operands (OfPair.Integers a b) = integers a b
pair_operands (OfPair.Words v w) = words v w
pair_operands OfPair.Mixed = mixed
