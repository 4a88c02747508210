-- What the bytes of a line's first part are, byte by byte.
use Rattle.std.specs.Prelude.{◌==◌, ◌+◌, ◌-◌, ◌*◌, ℕ, min, Bool, true, false, Option, Some, None, List, [], ◌∷◌, if◌then◌else◌}
use Rattle.text_core.specs.Bytes.{is_digit}
use Rattle.btor_tree.specs.Parts.{cap}
use Rattle.btor_witness.specs.declared.shape.Shape.{Shape}
use Rattle.btor_witness.specs.declared.shape.Shape.TheVariants as shape
use Rattle.btor_witness.specs.Shapes.{marked}
use Rattle.btor_judge.specs.declared.first.First.{First}
use Rattle.btor_judge.specs.declared.first.First.TheVariants.{Empty, S, Sa, Sat, Dot, Comment, Mark, Marked, Number, Other}

-- a number, up to the cap, with one digit more
abbrev pub with_digit : ℕ → ℕ → ℕ
with_digit n b = min (10 * n + (b - 48)) cap

-- what the first byte is: a digit, `s`, `.`, `;`, one of `b`, `j`, `#` and `@`, or something else
abbrev pub first_byte : ℕ → First
first_byte b =
    if is_digit b then Number (b - 48) else (if b == 115 then S else (if b == 46 then Dot else (if b == 59 then Comment else (if b == 98 then Mark b else (if b == 106 then Mark b else (if b == 35 then Mark b else (if b == 64 then Mark b else Other)))))))

-- a mark and the number behind it, with one byte more
abbrev pub marked_next : ℕ → ℕ → ℕ → First
marked_next mark n b = if is_digit b then Marked mark (with_digit n b) else Other

-- with one byte more
abbrev pub first_next : First → ℕ → First
first_next Empty b = first_byte b
first_next S b = if b == 97 then Sa else Other
first_next Sa b = if b == 116 then Sat else Other
first_next Sat b = Other
first_next Dot b = Other
first_next Comment b = Comment
first_next (Mark mark) b = marked_next mark 0 b
first_next (Marked mark n) b = marked_next mark n b
first_next (Number n) b = if is_digit b then Number (with_digit n b) else Other
first_next Other b = Other

-- with these bytes more
abbrev pub first_after : First → List ℕ → First
first_after first [] = first
first_after first (b ∷ bs) = first_after (first_next first b) bs

-- what these bytes are
abbrev pub first_of : List ℕ → First
first_of part = first_after Empty part

-- the shape of a line that has no other part
abbrev pub first_shape : First → Option Shape
first_shape Sat = Some shape.Sat
first_shape Dot = Some shape.End
first_shape (Marked mark n) = marked mark n
first_shape first = None

-- the number that the part spells
abbrev pub first_number : First → Option ℕ
first_number (Number n) = Some n
first_number first = None

abbrev pub is_comment : First → Bool
is_comment Comment = true
is_comment first = false
