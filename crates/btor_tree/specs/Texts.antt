-- The lines that a BTOR2 text spells, and the first line of it that can't follow the lines before it.
use Rattle.std.specs.Prelude.{◌≡◌, ◌≢◌, ℕ, ◌+◌, List, [], ◌∷◌, ◌++◌, Ok, Err}
use Rattle.btor_tree.specs.declared.lines.Line.{Line}
use Rattle.btor_tree.specs.Parts.{Parts, raw_lines, line_parts}
use Rattle.btor_tree.specs.Shapes.{Shape, Spells}
use Rattle.btor_tree.specs.Resolving.{Fault, no_shape, resolve}

-- these lines and then those of a text are all of these; a line without parts says nothing
pub data Reads : List Line → Parts → List Line → Type 0 where
  ends : {before : List Line} → Reads before [] before
  passed : {before all : List Line} {raw : List ℕ} {raws : Parts} → line_parts raw ≡ [] → Reads before raws all → Reads before (raw ∷ raws) all
  line : {before all : List Line} {raw : List ℕ} {raws : Parts} (sh : Shape) (l : Line)
      → Spells sh (line_parts raw) → resolve before sh ≡ Ok l → Reads (before ++ l ∷ []) raws all → Reads before (raw ∷ raws) all

-- what one line of a text is: nothing, a line, or a fault
pub data Next : Type 0 where
  nothing : Next
  good : Line → Next
  faulty : Fault → Next

-- the parts of one line of a text are this behind these lines
pub data IsNext : List Line → Parts → Next → Type 0 where
  blank : {before : List Line} → IsNext before [] nothing
  spelled : {before : List Line} {ps : Parts} {l : Line} (sh : Shape) → Spells sh ps → resolve before sh ≡ Ok l → IsNext before ps (good l)
  shapeless : {before : List Line} {ps : Parts} → ps ≢ [] → ((sh : Shape) → Spells sh ps → ⊥) → IsNext before ps (faulty no_shape)
  broken : {before : List Line} {ps : Parts} {k : Fault} (sh : Shape) → Spells sh ps → resolve before sh ≡ Err k → IsNext before ps (faulty k)

-- the fault of the first line that can't follow, and that line's number
pub data Refuses : ℕ → List Line → Parts → Fault → ℕ → Type 0 where
  here : {n : ℕ} {before : List Line} {raw : List ℕ} {raws : Parts} {k : Fault} → IsNext before (line_parts raw) (faulty k) → Refuses n before (raw ∷ raws) k n
  past_blank : {n : ℕ} {before : List Line} {raw : List ℕ} {raws : Parts} {k : Fault} {at : ℕ}
      → IsNext before (line_parts raw) nothing → Refuses (n + 1) before raws k at → Refuses n before (raw ∷ raws) k at
  past_line : {n : ℕ} {before : List Line} {raw : List ℕ} {raws : Parts} {k : Fault} {at : ℕ} (l : Line)
      → IsNext before (line_parts raw) (good l) → Refuses (n + 1) (before ++ l ∷ []) raws k at → Refuses n before (raw ∷ raws) k at

-- a text spells these lines
abbrev pub SpellsLines : List ℕ → List Line → Type 0
SpellsLines text = Reads [] (raw_lines text)

-- a text has this fault first, at the line of this number, counted from 1
abbrev pub RefusesText : List ℕ → Fault → ℕ → Type 0
RefusesText text = Refuses 1 [] (raw_lines text)
