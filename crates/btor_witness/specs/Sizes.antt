-- What a witness is read against: how many bad lines there are, and the widths of the states and of the inputs.
use Rattle.std.specs.Prelude.{ℕ, ◌+◌, ◌*◌, Bool, ◌&&◌, nat_le, List, length, map}
use Rattle.std.specs.List.{filter}
use Rattle.btor_tree.specs.declared.lines.Line.{Line}
use Rattle.btor_tree.specs.declared.lines.LineOp.{LineOp}
use Rattle.btor_tree.specs.Fits.{count_of, is_bad, is_state, is_input, line_width}

pub record Sizes : Type 0 where
  pub bads : ℕ
  pub states : List ℕ
  pub inputs : List ℕ

-- the widths of those of the lines that are of a kind, in order
abbrev pub widths_of : (LineOp → Bool) → List Line → List ℕ
widths_of kind lines = map (line_width lines) (filter (λ (l : Line). kind l.op) lines)

abbrev pub sizes_of : List Line → Sizes
sizes_of lines = record { bads = count_of is_bad lines; states = widths_of is_state lines; inputs = widths_of is_input lines }

-- the most frames of a witness
abbrev pub most_frames : ℕ
most_frames = 100000

-- the most that the frames of a witness times the states and inputs may be
abbrev pub most_words : ℕ
most_words = 4000000

-- the most bytes of a witness's text
abbrev pub most_bytes : ℕ
most_bytes = 67108864

-- may a witness have n frames? There are limits of the frames, and of the frames times the states and inputs.
abbrev pub is_within : Sizes → ℕ → Bool
is_within sizes n = nat_le n most_frames && nat_le (n * (length sizes.states + length sizes.inputs)) most_words
