-- Values of items that are in a list, each at its number.
use Rattle.std.specs.Prelude.{ℕ, List, Option, Some, None, slice_get}
use Rattle.smv_meaning.specs.declared.value.Value.{Value}
use Rattle.smv_meaning.specs.Values.{no_value}
use Rattle.smv_meaning.specs.Expressions.{Denotation}
use Rattle.smv_operators.specs.declared.seen.Seen.{Seen}
use Rattle.smv_operators.specs.View.{seen_value}
use Rattle.smv_flat.specs.FlatTree.{FlatTree, FlatBranches, flat_denote, flat_chosen, flat_taken}
use Rattle.smv_flat.specs.FlatTruth.{symbol_value}

abbrev pub seen_or_none : Option Seen → Value
seen_or_none None = no_value
seen_or_none (Some v) = seen_value v

-- the value of the item with this number, or what stands for it where there is none
unfoldable pub row_values : List Seen → ℕ → Value
row_values row k = seen_or_none (slice_get row k)

-- what an expression denotes, given the names of symbols, and the values of items in this state and in the following one
abbrev pub row_denote : List (List ℕ) → (now later : List Seen) → FlatTree → Denotation
row_denote symbols now later e = flat_denote (symbol_value symbols) (row_values now) (row_values later) e

-- what the branches of a choice denote, given what is behind the last colon
abbrev pub row_chosen : List (List ℕ) → (now later : List Seen) → FlatBranches → Denotation → Denotation
row_chosen symbols now later bs d = flat_chosen (symbol_value symbols) (row_values now) (row_values later) bs d

-- what the branches of a case denote
abbrev pub row_taken : List (List ℕ) → (now later : List Seen) → FlatBranches → Denotation
row_taken symbols now later bs = flat_taken (symbol_value symbols) (row_values now) (row_values later) bs
