-- The law of a term's lines: in each row of words that meets them, the word at the term's place is that of its value.
use Rattle.std.specs.Prelude.{◌≡◌, ℕ, ◌<◌, ◌≤◌, ◌^◌, Bool, true, List, [], ◌∷◌, length, slice_get, Some}
use Rattle.std.specs.List.{AllByRecursion}
use Rattle.word_core.specs.Words.{BitVector}
use Rattle.btor_tree.specs.declared.lines.Line.{Line}
use Rattle.btor_tree.specs.Fits.{IsWellFormed, greatest_id, last_id, width_at}
use Rattle.btor_tree.specs.Frame.{Meets, word_at}
use Rattle.btor_tree.specs.Sharing.{GrowsByShared}
use Rattle.word_core.specs.declared.word.TheConstants.{WIDEST}
use Rattle.moxi_terms.specs.declared.data.Sort.{Sort}
use Rattle.moxi_terms.specs.declared.data.Datum.{Datum}
use Rattle.moxi_terms.specs.declared.term.Enumeration.{Enumeration}
use Rattle.moxi_terms.specs.Sorts.{IsOf}
use Rattle.moxi_terms.specs.Sorted.{AreFunctions, HasSort}
use Rattle.moxi_terms.specs.Tree.{Tree, PlainFunction}
use Rattle.moxi_terms.specs.Value.{Values, calls_upto, term_value}
use Rattle.moxi_lines.specs.Codes.{code_of, datum_of, sort_bits}
use Rattle.moxi_lines.specs.TermLines.{Built, call_lines, with_term}

-- lines with the ids 1, 2, 3 and so on, each of which may follow the ones before it
pub record AreNumbered (lines : List Line) : Type 0 where
  pub fit : IsWellFormed lines
  pub ids : last_id lines ≡ length lines

-- the places of each enumeration's constants have words
abbrev pub HaveCodes : List Enumeration → Type 0
HaveCodes es = AllByRecursion (λ (e : Enumeration). length e.constants ≤ 2 ^ WIDEST) es

-- the line at a place has the width of a sort's words, and in a row that meets the lines, where the words of variables are known, the word of a value
pub record Represents (es : List Enumeration) (row : List BitVector) (known : Bool) (lines : List Line) (p : ℕ) (s : Sort) (d : Datum) : Type 0 where
  pub wide : 1 ≤ sort_bits es s
  pub width : width_at lines p ≡ sort_bits es s
  pub word : known ≡ true → Meets lines row → word_at row p ≡ code_of es d

-- each of these places for its sort and value
abbrev pub RepresentEach : List Enumeration → List BitVector → Bool → List Line → List ℕ → List Sort → List Datum → Type 0
RepresentEach es row known lines [] [] [] = Unit {0}
RepresentEach es row known lines (p ∷ ps) (s ∷ ss) (d ∷ ds) = Represents es row known lines p s d × RepresentEach es row known lines ps ss ds
RepresentEach es row known lines ps ss ds = ⊥

-- the variables' values are of their sorts, and are at places
pub record VariablesAreRepresented (es : List Enumeration) (row : List BitVector) (known : Bool) (lines : List Line) (vars : List Sort) (places : ℕ → ℕ) (values : Values) : Type 0 where
  pub sorted : (v : ℕ) (s : Sort) → slice_get vars v ≡ Some s → IsOf es s (values v)
  pub each : (v : ℕ) (s : Sort) → slice_get vars v ≡ Some s → Represents es row known lines (places v) s (values v)

-- what was made of lines, for a sort and a value
pub record Makes (es : List Enumeration) (row : List BitVector) (known : Bool) (lines : List Line) (m : Built) (s : Sort) (d : Datum) : Type 0 where
  pub grows : GrowsByShared lines m.0
  pub numbered : AreNumbered m.0
  pub stands : Represents es row known m.0 m.1 s d

-- ---- laws

-- a value of a sort comes back from its word
abbrev pub CodesRoundTrip : Type 0
CodesRoundTrip = (es : List Enumeration) (s : Sort) (d : Datum) → IsOf es s d → datum_of s (code_of es d) ≡ d

-- The lines of a term over variables that are at places: where their words are known, the word at the term's place is that of its value.
abbrev pub TermsHaveTheirWords : Type 0
TermsHaveTheirWords = (es : List Enumeration) (fs : List PlainFunction) → HaveCodes es → AreFunctions es fs → (row : List BitVector) (known : Bool) (vars : List Sort) (t : Tree) (s : Sort)
    → HasSort es fs vars [] t s → (lines : List Line) → AreNumbered lines → (now later : ℕ → ℕ) (now_values later_values : Values)
    → VariablesAreRepresented es row known lines vars now now_values → VariablesAreRepresented es row known lines vars later later_values
    → length (with_term es (call_lines es fs (length fs)) now later [] lines t).0 < greatest_id
    → Makes es row known lines (with_term es (call_lines es fs (length fs)) now later [] lines t) s (term_value (calls_upto fs (length fs)) now_values later_values [] t)
