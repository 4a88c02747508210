-- How values are spelled in a response that is read (MoXI, SPIN 2024; SMT-LIB 2.6, section 3.1).
use Rattle.std.specs.Prelude.{◌==◌, ℕ, true, false, if◌then◌else◌, Option, Some, None, option_map, option_and_then, List, length, slice_get, codes}
use Rattle.std.specs.Str.{bytes_eq}
use Rattle.word_core.specs.Digits.{read_word}
use Rattle.name_maps.specs.Names.{place_of}
use Rattle.moxi_terms.specs.declared.data.Sort.{Sort}
use Rattle.moxi_terms.specs.declared.data.Sort.TheVariants.{Truth, Bits, Choice}
use Rattle.moxi_terms.specs.declared.data.Datum.{Datum}
use Rattle.moxi_terms.specs.declared.data.Datum.TheVariants as datum
use Rattle.moxi_terms.specs.declared.term.Enumeration.{Enumeration}
use Rattle.moxi_terms.specs.declared.names.Meaning.{Meaning}
use Rattle.moxi_terms.specs.declared.names.Meaning.TheVariants as meaning
use Rattle.moxi_terms.specs.Names.{all_constants, constant_numbers}
use Rattle.moxi_terms.specs.Sorts.{same_sort}
use Rattle.moxi_trace.specs.declared.tokens.Shape.{Shape}
use Rattle.moxi_trace.specs.declared.tokens.Shape.TheVariants as shape

-- the value of a sort, where the two sorts are one
abbrev pub if_same : Sort → Sort → Datum → Option Datum
if_same s t x = if same_sort s t then Some x else None

-- the constant of this name, by the number of its enumeration and its own number there
abbrev pub constant_named : List Enumeration → List ℕ → Option (ℕ × ℕ)
constant_named es name = option_and_then (slice_get (constant_numbers 0 es)) (place_of (all_constants es) name)

abbrev pub constant_of : Sort → Option (ℕ × ℕ) → Option Datum
constant_of s None = None
constant_of s (Some c) = if_same s (Choice c.0) (datum.Constant c.0 c.1)

-- `true`, `false`, or a constant, where it is of the sort
abbrev pub symbol_value : List Enumeration → Sort → List ℕ → Option Datum
symbol_value es s name =
    if bytes_eq name (codes "true") then if_same s Truth (datum.Truth true)
    else (if bytes_eq name (codes "false") then if_same s Truth (datum.Truth false) else constant_of s (constant_named es name))

-- exactly as many digits as the width says
abbrev pub word_value : Sort → List ℕ → Option Datum
word_value (Bits w) digits = if length digits == w then option_map datum.Bits (read_word w 2 digits) else None
word_value s digits = None

-- the value of the sort that a token spells
abbrev pub value_of : List Enumeration → Sort → Shape → List ℕ → Option Datum
value_of es s shape.Symbol bytes = symbol_value es s bytes
value_of es s shape.Binary bytes = word_value s bytes
value_of es s k bytes = None

-- what a name stands for, where that is a value of the sort
abbrev pub meant_value : Sort → Option Meaning → Option Datum
meant_value s (Some (meaning.Value x t)) = if_same s t x
meant_value s m = None
