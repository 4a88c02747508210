use Rattle.std.proofs.Common.{◌≡◌, ◌<◌, ◌^◌, drop}
use Rattle.std.specs.List.{list_all}
use Rattle.std.specs.Str.Parse.{digits_value, digits_value_after}
use Rattle.text_core.specs.Bytes.{is_digit}
use Rattle.command_core.proofs.numbers.decimal_number.Given as goal

abbrev pub invariant-loop-b : goal.invariant-loop-b
invariant-loop-b l = record {
  value : digits_value 10 l.text ≡ digits_value_after 10 l.number (drop l.b-index l.text);
  digits : list_all is_digit l.text ≡ list_all is_digit (drop l.b-index l.text);
  bound : l.number < 10 ^ l.b-index;
}
