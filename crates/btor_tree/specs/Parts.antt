-- Lines, parts and numerals of a BTOR2 text, of lines or of a witness (BTOR2, CAV 2018, section 2 and figure 1).
use Rattle.std.specs.Prelude.{◌==◌, ◌+◌, ◌-◌, ◌^◌, ℕ, zero, suc, min, Bool, true, false, not, ◌&&◌, ◌||◌, if◌then◌else◌, Option, option_map, List, [], ◌∷◌, length}
use Rattle.word_core.specs.Digits.{digits_value}
use Rattle.text_core.specs.declared.place.Place.{Place}

-- a list of byte lists
abbrev pub Parts : Type 0
Parts = List (List ℕ)

-- a byte at the front of the first line
abbrev pub onto_line : ℕ → Parts → Parts
onto_line b [] = (b ∷ []) ∷ []
onto_line b (l ∷ ls) = (b ∷ l) ∷ ls

-- the lines of a text: each ends before byte 10, and the last at the text's end
abbrev pub raw_lines : List ℕ → Parts
raw_lines [] = [] ∷ []
raw_lines (b ∷ bs) = if b == 10 then ([] ∷ raw_lines bs) else onto_line b (raw_lines bs)

-- how many bytes are before the line behind n lines, each with its byte 10
abbrev pub bytes_before : ℕ → Parts → ℕ
bytes_before zero lines = 0
bytes_before (suc n) [] = 0
bytes_before (suc n) (line ∷ lines) = length line + 1 + bytes_before n lines

-- the place of a line of a text, by its number from 1 on: its first byte, or where that would be in an empty line
abbrev pub line_place : List ℕ → ℕ → Place
line_place text n = record { line = n; column = 1; offset = bytes_before (n - 1) (raw_lines text) }

-- a line without its comment, which `;` begins, and without byte 13
abbrev pub clean : List ℕ → List ℕ
clean [] = []
clean (b ∷ bs) = if b == 59 then [] else (if b == 13 then clean bs else (b ∷ clean bs))

-- may a byte be in a symbol? No tab, line end, CR, blank or `;` may.
abbrev pub is_symbol_byte : ℕ → Bool
is_symbol_byte b = not ((b == 9) || ((b == 10) || ((b == 13) || ((b == 32) || (b == 59)))))

abbrev pub all_symbol : List ℕ → Bool
all_symbol [] = true
all_symbol (b ∷ bs) = is_symbol_byte b && all_symbol bs

-- are these one or more such bytes?
abbrev pub is_symbol : List ℕ → Bool
is_symbol [] = false
is_symbol (b ∷ bs) = all_symbol (b ∷ bs)

-- a tab or a blank
abbrev pub is_blank : ℕ → Bool
is_blank b = (b == 9) || (b == 32)

-- does a part end before these bytes?
abbrev pub ends_part : List ℕ → Bool
ends_part [] = true
ends_part (b ∷ bs) = is_blank b

-- a byte at the front of the first part, or a part of its own
abbrev pub onto_part : ℕ → Bool → Parts → Parts
onto_part b true ps = (b ∷ []) ∷ ps
onto_part b false [] = (b ∷ []) ∷ []
onto_part b false (p ∷ ps) = (b ∷ p) ∷ ps

-- what tabs and blanks divide
abbrev pub parts : List ℕ → Parts
parts [] = []
parts (b ∷ bs) = if is_blank b then parts bs else onto_part b (ends_part bs) (parts bs)

-- the parts of a line
abbrev pub line_parts : List ℕ → Parts
line_parts raw = parts (clean raw)

-- no id and no width is as large, no list has so many lines of a kind and no witness so many frames, so that all numbers
-- from here on are as good as one
abbrev pub cap : ℕ
cap = 2 ^ 31

-- the number that decimal digits spell, up to the cap
abbrev pub numeral : List ℕ → Option ℕ
numeral text = option_map (λ n. min n cap) (digits_value 10 text)
