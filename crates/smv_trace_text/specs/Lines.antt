-- Lines of a trace, and what each says by itself.
use Rattle.std.specs.Prelude.{◌==◌, ◌+◌, ℕ, Bool, true, false, not, ◌&&◌, if◌then◌else◌, Option, Some, None, is_none, option_and_then, List, [], ◌∷◌, length, take, drop, codes}
use Rattle.std.specs.List.{list_all}
use Rattle.std.specs.Str.{bytes_eq}
use Rattle.text_core.specs.Bytes.{is_digit, heads, without_zeros}
use Rattle.text_core.specs.declared.place.Place.{Place}
use Rattle.smv_text.specs.Bytes.{is_blank, front_length}

-- ---- lines

abbrev pub onto_first : ℕ → List (List ℕ) → List (List ℕ)
onto_first b [] = (b ∷ []) ∷ []
onto_first b (l ∷ ls) = (b ∷ l) ∷ ls

-- the lines of a text: each ends before byte 10, and the last at the text's end
abbrev pub lines_of : List ℕ → List (List ℕ)
lines_of [] = [] ∷ []
lines_of (b ∷ bs) = if b == 10 then [] ∷ lines_of bs else onto_first b (lines_of bs)

-- the place of the line behind this one
abbrev pub behind_line : Place → List ℕ → Place
behind_line at line = record { line = at.line + 1; column = 1; offset = at.offset + length line + 1 }

-- without the blanks at the front
abbrev pub past_blanks : List ℕ → List ℕ
past_blanks [] = []
past_blanks (b ∷ bs) = if is_blank b then past_blanks bs else b ∷ bs

-- without the blanks at the end
abbrev pub onto_end : ℕ → List ℕ → List ℕ
onto_end b [] = if is_blank b then [] else b ∷ []
onto_end b (c ∷ cs) = b ∷ c ∷ cs

abbrev pub without_end : List ℕ → List ℕ
without_end [] = []
without_end (b ∷ bs) = onto_end b (without_end bs)

-- blanks around a line don't count
abbrev pub trimmed : List ℕ → List ℕ
trimmed line = without_end (past_blanks line)

-- ---- parts

-- the byte isn't this one
abbrev pub is_other : ℕ → ℕ → List ℕ → Bool
is_other mark b rest = not (b == mark)

abbrev pub behind_mark : List ℕ → List ℕ → Option (List ℕ × List ℕ)
behind_mark front [] = None
behind_mark front (b ∷ bs) = Some (front, bs)

-- what is before the first such byte, and what is behind it, where there is one
abbrev pub halves : ℕ → List ℕ → Option (List ℕ × List ℕ)
halves mark bs = behind_mark (take (front_length (is_other mark) bs) bs) (drop (front_length (is_other mark) bs) bs)

-- one or more decimal digits
abbrev pub is_number : List ℕ → Bool
is_number [] = false
is_number (b ∷ bs) = list_all is_digit (b ∷ bs)

-- ---- shapes

-- a blank line, or one that begins with `--`
abbrev pub is_passed : List ℕ → Bool
is_passed [] = true
is_passed (b ∷ bs) = (b == 45) && heads 45 bs

-- the two numbers of `A.B`
abbrev pub numbers_in : List ℕ × List ℕ → Option (List ℕ × List ℕ)
numbers_in p = if is_number p.0 && is_number p.1 then Some (without_zeros p.0, without_zeros p.1) else None

-- of `A.B <-`
abbrev pub numbers_before_end : List ℕ × List ℕ → Option (List ℕ × List ℕ)
numbers_before_end p = if bytes_eq p.1 (codes "<-") then option_and_then numbers_in (halves 46 p.0) else None

-- of `WORD A.B <-` behind `->`
abbrev pub numbers_behind : List ℕ → List ℕ → List ℕ × List ℕ → Option (List ℕ × List ℕ)
numbers_behind word arrow p =
    if bytes_eq arrow (codes "->") && bytes_eq p.0 word then option_and_then numbers_before_end (halves 32 p.1) else None

abbrev pub numbers_of_rest : List ℕ → List ℕ × List ℕ → Option (List ℕ × List ℕ)
numbers_of_rest word p = option_and_then (numbers_behind word p.0) (halves 32 p.1)

-- the two numbers of `-> WORD A.B <-`, where the line is that
abbrev pub heading_numbers : List ℕ → List ℕ → Option (List ℕ × List ℕ)
heading_numbers word line = option_and_then (numbers_of_rest word) (halves 32 line)

-- what is behind `=`, where there is no blank in it
abbrev pub value_behind : List ℕ → List ℕ × List ℕ → Option (List ℕ × List ℕ)
value_behind name p = if bytes_eq p.0 (codes "=") && is_none (halves 32 p.1) then Some (name, p.1) else None

abbrev pub value_of_rest : List ℕ × List ℕ → Option (List ℕ × List ℕ)
value_of_rest p = option_and_then (value_behind p.0) (halves 32 p.1)

-- the name and the value of `NAME = VALUE`, where the line is that
abbrev pub value_parts : List ℕ → Option (List ℕ × List ℕ)
value_parts line = option_and_then value_of_rest (halves 32 line)
