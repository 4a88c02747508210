-- The word of a value, and the value of a word: a truth value has one bit, a constant of an enumeration its place, and a bit vector is
-- a word itself.
use Rattle.std.specs.Prelude.{◌==◌, ℕ, zero, suc, ◌^◌, nat_le, if◌then◌else◌, List}
use Rattle.word_core.specs.Words.{BitVector}
use Rattle.word_core.specs.Table.{bit_of}
use Rattle.moxi_terms.specs.declared.data.Sort.{Sort}
use Rattle.moxi_terms.specs.declared.data.Sort.TheVariants.{Truth, Bits, Choice}
use Rattle.moxi_terms.specs.declared.data.Datum.{Datum}
use Rattle.moxi_terms.specs.declared.data.Datum.TheVariants as datum
use Rattle.moxi_terms.specs.declared.term.Enumeration.{Enumeration}
use Rattle.moxi_terms.specs.Names.{constant_count}

-- the least width from 1 to n + 1 that holds `count` places, or n + 1 where none does
abbrev pub width_upto : ℕ → ℕ → ℕ
width_upto count zero = 1
width_upto count (suc n) = if nat_le count (2 ^ width_upto count n) then width_upto count n else suc (width_upto count n)

-- the least width of at least 1 that holds the places of so many constants
abbrev pub choice_width : ℕ → ℕ
choice_width count = width_upto count count

-- the width of the words of a sort
abbrev pub sort_bits : List Enumeration → Sort → ℕ
sort_bits es Truth = 1
sort_bits es (Bits w) = w
sort_bits es (Choice n) = choice_width (constant_count es n)

-- the word of a value
abbrev pub code_of : List Enumeration → Datum → BitVector
code_of es (datum.Truth b) = record { width = 1; bits = bit_of b }
code_of es (datum.Bits v) = v
code_of es (datum.Constant n i) = record { width = choice_width (constant_count es n); bits = i }

-- the value of a sort that a word stands for
abbrev pub datum_of : Sort → BitVector → Datum
datum_of Truth v = datum.Truth (v.bits == 1)
datum_of (Bits w) v = datum.Bits v
datum_of (Choice n) v = datum.Constant n v.bits
