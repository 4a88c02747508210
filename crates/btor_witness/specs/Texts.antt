-- What a text spells as a witness, and the line where it doesn't.
use Rattle.std.specs.Prelude.{◌≡◌, ◌⊎◌, ℕ, ◌+◌, ◌<◌, ◌≤◌, true, false, List, [], ◌∷◌, length, Option, Some, None, if◌then◌else◌}
use Rattle.text_core.specs.declared.place.Kind.{Kind}
use Rattle.btor_tree.specs.declared.lines.Line.{Line}
use Rattle.btor_tree.specs.Parts.{Parts, raw_lines}
use Rattle.btor_witness.specs.declared.shape.Shape.{Shape}
use Rattle.btor_witness.specs.declared.witness.Witness.{Witness}
use Rattle.text_core.specs.declared.place.Kind.TheVariants.{X}
use Rattle.btor_witness.specs.Bytes.{line_parts}
use Rattle.btor_witness.specs.Sizes.{Sizes, sizes_of, most_bytes}
use Rattle.btor_witness.specs.Shapes.{Spells, shape_of, is_passed}
use Rattle.btor_witness.specs.Reading.{Reading, begin, Next, nothing, moves, done, bad, step}

-- What the parts of a line do where the reading is here.
pub data IsNext : Sizes → Reading → Parts → Next → Type 0 where
  passed : {sizes : Sizes} {r : Reading} {ps : Parts} → is_passed ps ≡ true → IsNext sizes r ps nothing
  spelled : {sizes : Sizes} {r : Reading} {ps : Parts} (shape : Shape) → is_passed ps ≡ false → Spells shape ps → IsNext sizes r ps (step sizes r shape)
  shapeless : {sizes : Sizes} {r : Reading} {ps : Parts} → is_passed ps ≡ false → ((shape : Shape) → Spells shape ps → ⊥) → IsNext sizes r ps (bad (X 1))

-- From here on the lines spell the witness. What is behind its end is left unread.
pub data Reads : Sizes → Reading → Parts → Witness → Type 0 where
  blank : {sizes : Sizes} {r : Reading} {raw : List ℕ} {raws : Parts} {w : Witness} → IsNext sizes r (line_parts raw) nothing → Reads sizes r raws w → Reads sizes r (raw ∷ raws) w
  line : {sizes : Sizes} {r : Reading} {raw : List ℕ} {raws : Parts} {w : Witness} (next : Reading)
      → IsNext sizes r (line_parts raw) (moves next) → Reads sizes next raws w → Reads sizes r (raw ∷ raws) w
  last : {sizes : Sizes} {r : Reading} {raw : List ℕ} {raws : Parts} {w : Witness} → IsNext sizes r (line_parts raw) (done w) → Reads sizes r (raw ∷ raws) w

-- From here on, behind n lines, the first line that is refused, by its number. A text that ends too early is refused at
-- its last line.
pub data Refuses : ℕ → Sizes → Reading → Parts → Kind → ℕ → Type 0 where
  unended : {n : ℕ} {sizes : Sizes} {r : Reading} → Refuses n sizes r [] (X 6) n
  here : {n : ℕ} {sizes : Sizes} {r : Reading} {raw : List ℕ} {raws : Parts} {k : Kind} → IsNext sizes r (line_parts raw) (bad k) → Refuses n sizes r (raw ∷ raws) k (n + 1)
  past_blank : {n : ℕ} {sizes : Sizes} {r : Reading} {raw : List ℕ} {raws : Parts} {k : Kind} {at : ℕ}
      → IsNext sizes r (line_parts raw) nothing → Refuses (n + 1) sizes r raws k at → Refuses n sizes r (raw ∷ raws) k at
  past_line : {n : ℕ} {sizes : Sizes} {r : Reading} {raw : List ℕ} {raws : Parts} {k : Kind} {at : ℕ} (next : Reading)
      → IsNext sizes r (line_parts raw) (moves next) → Refuses (n + 1) sizes next raws k at → Refuses n sizes r (raw ∷ raws) k at

-- the lines of a text spell the witness
abbrev pub ReadsText : Sizes → List ℕ → Witness → Type 0
ReadsText sizes text = Reads sizes begin (raw_lines text)

-- the lines of a text are refused at this line
abbrev pub RefusesText : Sizes → List ℕ → Kind → ℕ → Type 0
RefusesText sizes text = Refuses 0 sizes begin (raw_lines text)

-- the text is no longer than a witness may be, and its lines spell the witness
abbrev pub SpellsWitness : List Line → List ℕ → Witness → Type 0
SpellsWitness lines text w = (length text ≤ most_bytes) × ReadsText (sizes_of lines) text w

-- the text is longer, at line 1, or a line of it is the first that is refused
abbrev pub RefusesWitness : List Line → List ℕ → Kind → ℕ → Type 0
RefusesWitness lines text kind at =
    ((most_bytes < length text) × (kind ≡ X 8) × (at ≡ 1)) ⊎ ((length text ≤ most_bytes) × RefusesText (sizes_of lines) text kind at)

-- the same of one line by reading
abbrev pub shaped_next : Sizes → Reading → Option Shape → Next
shaped_next sizes r None = bad (X 1)
shaped_next sizes r (Some shape) = step sizes r shape

unfoldable pub next_of : Sizes → Reading → Parts → Next
next_of sizes r ps = if is_passed ps then nothing else shaped_next sizes r (shape_of ps)
