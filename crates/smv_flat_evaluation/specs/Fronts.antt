-- A chain that is read from the left, by the values of its fronts: what stands up to an operand.
use Rattle.std.specs.Prelude.{ℕ, Bool, if◌then◌else◌, List}
use Rattle.smv_meaning.specs.declared.value.Value.{Value}
use Rattle.smv_meaning.specs.Safety.{front_value, front_permits}
use Rattle.smv_operators.specs.declared.seen.Seen.{Seen}
use Rattle.smv_flat.specs.FlatTree.{FlatLinks, no_flat_links, flat_link, flat_from_right, flat_denote, flat_implications}
use Rattle.smv_flat.specs.FlatTruth.{symbol_value}
use Rattle.smv_flat_evaluation.specs.RowValues.{row_values}

-- given the values of symbols, and of items in this state and in the following one
abbrev pub flat_fronts_value : (ℕ → Value) → (ℕ → Value) → (ℕ → Value) → Value → FlatLinks → Value
flat_fronts_value symbols now later v no_flat_links = v
flat_fronts_value symbols now later v (flat_link op e ls) = flat_fronts_value symbols now later (front_value op v (flat_denote symbols now later e)) ls

-- whether a chain permits the value u, where its front does or doesn't
abbrev pub flat_fronts_permit : (ℕ → Value) → (ℕ → Value) → (ℕ → Value) → Value → Value → Bool → FlatLinks → Bool
flat_fronts_permit symbols now later u v p no_flat_links = p
flat_fronts_permit symbols now later u v p (flat_link op e ls) =
    flat_fronts_permit symbols now later u (front_value op v (flat_denote symbols now later e)) (front_permits op u v p (flat_denote symbols now later e)) ls

-- the value of a chain, given that of its first operand
abbrev pub chain_value : (ℕ → Value) → (ℕ → Value) → (ℕ → Value) → Value → FlatLinks → Value
chain_value symbols now later v ls = if flat_from_right ls then flat_implications symbols now later v ls else flat_fronts_value symbols now later v ls

-- the same over values that are in lists
abbrev pub row_chain : List (List ℕ) → (now later : List Seen) → Value → FlatLinks → Value
row_chain symbols now later v ls = chain_value (symbol_value symbols) (row_values now) (row_values later) v ls

abbrev pub row_implications : List (List ℕ) → (now later : List Seen) → Value → FlatLinks → Value
row_implications symbols now later v ls = flat_implications (symbol_value symbols) (row_values now) (row_values later) v ls

abbrev pub row_fronts_value : List (List ℕ) → (now later : List Seen) → Value → FlatLinks → Value
row_fronts_value symbols now later v ls = flat_fronts_value (symbol_value symbols) (row_values now) (row_values later) v ls

abbrev pub row_fronts_permit : List (List ℕ) → (now later : List Seen) → Value → Value → Bool → FlatLinks → Bool
row_fronts_permit symbols now later u v p ls = flat_fronts_permit (symbol_value symbols) (row_values now) (row_values later) u v p ls
