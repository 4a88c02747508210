-- What is read of the line at a place, as a function of whether there is a line.
use Rattle.std.specs.Prelude.{ℕ, Bool, false, List, Option}
use Rattle.std.specs.Option.{option_map_or}
use Rattle.btor_tree.specs.declared.lines.Line.{Line}
use Rattle.btor_tree.specs.declared.lines.LineOp.{LineOp}
use Rattle.btor_tree.specs.Fits.{line_width, sort_width}

abbrev pub is_kind : (LineOp → Bool) → Option Line → Bool
is_kind kind o = option_map_or (λ (l : Line). kind l.op) o false

abbrev pub width_of_sort : Option Line → ℕ
width_of_sort o = option_map_or (λ (l : Line). sort_width l.op) o 0

abbrev pub width_of_line : List Line → Option Line → ℕ
width_of_line lines o = option_map_or (line_width lines) o 0
