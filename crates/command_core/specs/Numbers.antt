-- The numbers among a command's words.
use Rattle.std.specs.Prelude.{◌&&◌, ℕ, nat_le, if◌then◌else◌, Option, Some, None, option_and_then, List, length}
use Rattle.std.specs.List.{list_all}
use Rattle.std.specs.Str.Parse.{digits_value}
use Rattle.text_core.specs.Bytes.{is_digit}

-- the number that one or more decimal digits write, which are at most so many
abbrev pub decimal_number : ℕ → List ℕ → Option ℕ
decimal_number most text =
    if nat_le 1 (length text) && (nat_le (length text) most && list_all is_digit text) then Some (digits_value 10 text) else None

-- the number of an invariant: one to nine decimal digits
abbrev pub invariant_number : List ℕ → Option ℕ
invariant_number text = decimal_number 9 text

-- a number from 1 to 1,000
abbrev pub countable : ℕ → Option ℕ
countable n = if nat_le 1 n && nat_le n 1000 then Some n else None

-- the number of cells: one to four decimal digits, with a value from 1 to 1,000
abbrev pub cell_count : List ℕ → Option ℕ
cell_count text = option_and_then countable (decimal_number 4 text)
