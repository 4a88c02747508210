-- The datum of MoXI that stands for a value of SMV, the value for which a datum stands, and the sorts of types. These codes are this
-- translator's own.
use Rattle.std.specs.Prelude.{ℕ, ◌-◌, ◌%◌, ◌^◌, ℤ, pos, negsuc, List, Option, Some, None}
use Rattle.name_maps.specs.Names.{place_of}
use Rattle.word_core.specs.Words.{BitVector}
use Rattle.word_core.specs.Table.{signed_value}
use Rattle.smv_meaning.specs.declared.value.Value.{Value}
use Rattle.smv_meaning.specs.declared.value.Value.TheVariants.{Truth, Integer, Symbol, Bits}
use Rattle.smv_meaning.specs.Values.{no_value}
use Rattle.smv_meaning.specs.Operators.{word}
use Rattle.smv_meaning.specs.Types.{ExprType, truth_type, integer_type, symbol_type, word_type}
use Rattle.smv_flat.specs.FlatTruth.{symbol_value}
use Rattle.moxi_terms.specs.declared.data.Sort.{Sort}
use Rattle.moxi_terms.specs.declared.data.Sort.TheVariants as sort
use Rattle.moxi_terms.specs.declared.data.Datum.{Datum}
use Rattle.moxi_terms.specs.declared.data.Datum.TheVariants as datum

-- two's complement of so many bits: the integer modulo two to the width
abbrev pub integer_bits : ℕ → ℤ → ℕ
integer_bits width (pos n) = n % 2 ^ width
integer_bits width (negsuc n) = 2 ^ width - 1 - n % 2 ^ width

abbrev pub integer_word : ℕ → ℤ → BitVector
integer_word width z = word width (integer_bits width z)

abbrev pub number_or_zero : Option ℕ → ℕ
number_or_zero None = 0
number_or_zero (Some n) = n

-- all symbols are constants of one enumeration, in their order
abbrev pub symbol_datum : List (List ℕ) → List ℕ → Datum
symbol_datum symbols s = datum.Constant 0 (number_or_zero (place_of symbols s))

-- given the width of integers and the symbols
abbrev pub datum_of : ℕ → List (List ℕ) → Value → Datum
datum_of width symbols (Truth b) = datum.Truth b
datum_of width symbols (Integer z) = datum.Bits (integer_word width z)
datum_of width symbols (Symbol s) = symbol_datum symbols s
datum_of width symbols (Bits w) = datum.Bits w

-- the value of a type that has this datum
abbrev pub value_of : List (List ℕ) → ExprType → Datum → Value
value_of symbols truth_type (datum.Truth b) = Truth b
value_of symbols (integer_type low high) (datum.Bits w) = Integer (signed_value w.width w.bits)
value_of symbols symbol_type (datum.Constant n i) = symbol_value symbols i
value_of symbols (word_type n) (datum.Bits w) = Bits w
value_of symbols t d = no_value

abbrev pub sort_of : ℕ → ExprType → Sort
sort_of width truth_type = sort.Truth
sort_of width (integer_type low high) = sort.Bits width
sort_of width symbol_type = sort.Choice 0
sort_of width (word_type n) = sort.Bits n
