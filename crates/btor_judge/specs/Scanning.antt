-- What the bytes of a line are, as far as they have come.
use Rattle.std.specs.Prelude.{◌==◌, ◌+◌, ℕ, nat_lt, Bool, true, false, not, List, [], ◌∷◌, get_or, if◌then◌else◌}
use Rattle.btor_tree.specs.Parts.{Parts, is_blank, parts}
use Rattle.btor_witness.specs.Bytes.{without_return}
use Rattle.btor_judge.specs.declared.scan.Scan.{Scan}
use Rattle.btor_judge.specs.declared.line.Line.{Line}
use Rattle.btor_judge.specs.Firsts.{first_of, first_next}
use Rattle.btor_judge.specs.Digit.{digits_of, digits_next}

-- a part by its number, or no bytes where there are fewer parts
abbrev pub part_at : Parts → ℕ → List ℕ
part_at ps k = get_or ps k []

-- is the last byte one of a part?
abbrev pub ends_inside : List ℕ → Bool
ends_inside [] = false
ends_inside (b ∷ []) = not (is_blank b)
ends_inside (b ∷ c ∷ bs) = ends_inside (c ∷ bs)

-- how many parts there are, up to four
abbrev pub count_to_four : Parts → ℕ
count_to_four [] = 0
count_to_four (p ∷ []) = 1
count_to_four (p ∷ q ∷ []) = 2
count_to_four (p ∷ q ∷ r ∷ []) = 3
count_to_four (p ∷ q ∷ r ∷ s ∷ ps) = 4

-- what is kept of these parts, inside of the last one or behind it
abbrev pub scan_at : Bool → Parts → Scan
scan_at inside ps =
    record { count = count_to_four ps; inside = inside; first = first_of (part_at ps 0); digits = digits_of (part_at ps 1) }

-- what is kept of these bytes
abbrev pub scan_of : List ℕ → Scan
scan_of bs = scan_at (ends_inside bs) (parts bs)

-- is the last byte a CR?
abbrev pub ends_returned : List ℕ → Bool
ends_returned [] = false
ends_returned (b ∷ []) = b == 13
ends_returned (b ∷ c ∷ bs) = ends_returned (c ∷ bs)

-- the same of a line whose last byte may be a CR that is passed over
abbrev pub line_of : List ℕ → Line
line_of raw = record { scan = scan_of (without_return raw); returned = ends_returned raw }

-- in a part, which begins where none has
abbrev pub entered : Scan → Scan
entered scan = record scan { count = if scan.inside then scan.count else (if nat_lt scan.count 4 then scan.count + 1 else scan.count); inside = true }

-- with one byte more of the current part
abbrev pub kept : Scan → ℕ → Scan
kept scan b =
    if scan.count == 1 then record scan { first = first_next scan.first b } else (if scan.count == 2 then record scan { digits = digits_next scan.digits b } else scan)

-- with one byte more of the line
abbrev pub scan_next : Scan → ℕ → Scan
scan_next scan b = if is_blank b then record scan { inside = false } else kept (entered scan) b

-- the byte 13 that waited, where one did
abbrev pub waited : Line → Scan
waited line = if line.returned then scan_next line.scan 13 else line.scan

-- with one byte more, where the byte 13 waits for the one behind it
abbrev pub line_next : Line → ℕ → Line
line_next line b = if b == 13 then record { scan = waited line; returned = true } else record { scan = scan_next (waited line) b; returned = false }
