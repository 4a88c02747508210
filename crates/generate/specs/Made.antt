-- The model of n cells in a row, and its witness.
use Rattle.std.specs.Prelude.{ℕ, zero, suc, ◌+◌, ◌-◌, List, [], ◌∷◌, ◌++◌, map, codes, decimal}
use Rattle.std.specs.List.{flat_map}

-- a line with its end
abbrev pub ended : List ℕ → List ℕ
ended line = line ++ 10 ∷ []

-- lines, each with its end
abbrev pub lines_text : List (List ℕ) → List ℕ
lines_text lines = flat_map ended lines

-- the numbers below n, in rising order
abbrev pub below : ℕ → List ℕ
below zero = []
below (suc n) = below n ++ n ∷ []

-- ---- the model

-- a cell is false at first, and then takes the value on its left
abbrev pub cell_module : List ℕ
cell_module = codes "MODULE cell(left) VAR v : boolean; ASSIGN init(v) := FALSE; next(v) := left;"

-- the first cell, which has TRUE on its left
abbrev pub main_module : List ℕ
main_module = codes "MODULE main VAR c0 : cell(TRUE);"

-- the cell that has cell i on its left
abbrev pub cell_line : ℕ → List ℕ
cell_line i = codes "c" ++ decimal (i + 1) ++ codes " : cell(c" ++ decimal i ++ codes ".v);"

-- the invariant: cell i is false
abbrev pub invariant_line : ℕ → List ℕ
invariant_line i = codes "INVARSPEC !c" ++ decimal i ++ codes ".v"

abbrev pub model_lines : ℕ → List (List ℕ)
model_lines n = cell_module ∷ main_module ∷ (map cell_line (below (n - 1)) ++ invariant_line (n - 1) ∷ [])

unfoldable pub made_model : ℕ → List ℕ
made_model n = lines_text (model_lines n)

-- ---- the witness

-- input j is true
abbrev pub true_line : ℕ → List ℕ
true_line j = decimal j ++ codes " 1"

-- frame i: the cells below i are true, and input n, which is what the first cell has on its left
abbrev pub frame_lines : ℕ → ℕ → List (List ℕ)
frame_lines n i = (codes "@" ++ decimal i) ∷ (map true_line (below i) ++ true_line n ∷ [])

abbrev pub witness_lines : ℕ → List (List ℕ)
witness_lines n = codes "sat" ∷ codes "b0" ∷ (flat_map (frame_lines n) (below (n + 1)) ++ codes "." ∷ [])

unfoldable pub made_witness : ℕ → List ℕ
made_witness n = lines_text (witness_lines n)
