-- Places whose words have the widths of sorts.
use Rattle.std.specs.Prelude.{◌≡◌, ℕ, ◌≤◌, List, [], ◌∷◌, Some, slice_get}
use Rattle.word_core.specs.declared.word.TheConstants.{WIDEST}
use Rattle.btor_tree.specs.declared.lines.Line.{Line}
use Rattle.btor_tree.specs.Fits.{width_at}
use Rattle.moxi_terms.specs.declared.data.Sort.{Sort}
use Rattle.moxi_terms.specs.declared.term.Enumeration.{Enumeration}
use Rattle.moxi_lines.specs.Codes.{sort_bits}

-- the line at a place has a word of the width of a sort's words
pub record IsAsWide (es : List Enumeration) (lines : List Line) (p : ℕ) (s : Sort) : Type 0 where
  pub wide : 1 ≤ sort_bits es s
  pub narrow : sort_bits es s ≤ WIDEST
  pub width : width_at lines p ≡ sort_bits es s

-- each of these places for its sort
abbrev pub AreAsWide : List Enumeration → List Line → List ℕ → List Sort → Type 0
AreAsWide es lines [] [] = Unit {0}
AreAsWide es lines (p ∷ ps) (s ∷ ss) = IsAsWide es lines p s × AreAsWide es lines ps ss
AreAsWide es lines ps ss = ⊥

-- the variables' places for their sorts
pub record VariablesAreAsWide (es : List Enumeration) (lines : List Line) (vars : List Sort) (places : ℕ → ℕ) : Type 0 where
  pub each : (v : ℕ) (s : Sort) → slice_get vars v ≡ Some s → IsAsWide es lines (places v) s
