-- The frames of lines are the traces of their script.
use Rattle.std.specs.Prelude.{◌≡◌, ◌↔◌, ℕ, ◌+◌, ◌≤◌, true, List, [], length, slice_get, Some}
use Rattle.word_core.specs.Words.{BitVector}
use Rattle.btor_tree.specs.declared.lines.Line.{Line}
use Rattle.btor_tree.specs.Fits.{IsWellFormed, has_word, is_bad, operands, sort_at, width_at}
use Rattle.btor_tree.specs.Frame.{AreFrames, IsFrame, word_at}
use Rattle.moxi_terms.specs.declared.data.Datum.TheVariants.{Bits}
use Rattle.moxi_terms.specs.Value.{Calls, Values, term_value}
use Rattle.moxi_term_print.specs.Shown.{shown_depths}
use Rattle.moxi_script_print.specs.Printing.{shown_script}
use Rattle.moxi_scripts.specs.declared.script.Query.{Query}
use Rattle.moxi_scripts.specs.Script.{calls_in}
use Rattle.moxi_scripts.specs.Behaviour.{Behaves, Trace}
use Rattle.moxi_scripts.specs.Meeting.{MeetsQuery}
use Rattle.btor_import.specs.Operators.{line_term}
use Rattle.btor_import.specs.Script.{check_of, import_of, is_local, number_of}
use Rattle.moxi_layout.specs.LayoutLaws.{AreBadFrames, HasFrames}
use Rattle.btor_import_laws.specs.Runs.{HasTrace, HasWordsOf}

-- the term of each constant and operator line has the line's word in a frame, where the names have the words of their lines
abbrev pub TermsHaveWords : Type 0
TermsHaveWords = (lines : List Line) → IsWellFormed lines → (row : List BitVector) → IsFrame lines row → (calls : Calls) (now later : Values)
    → ((n : ℕ) (l : Line) → slice_get lines n ≡ Some l → has_word l.op ≡ true → now (number_of lines n) ≡ Bits (word_at row n))
    → (n : ℕ) (l : Line) → slice_get lines n ≡ Some l → is_local l.op ≡ true
    → term_value calls now later [] (line_term (number_of lines) (width_at lines) (sort_at lines l.sort) l.op l.args) ≡ Bits (word_at row n)

-- each frames 0 to k with every constraint true, and bad j true in frame k, are those of a trace that meets query j at step k
abbrev pub FramesAreTraces : Type 0
FramesAreTraces = (lines : List Line) → IsWellFormed lines → (j k : ℕ) (q : Query) → slice_get (check_of lines).queries j ≡ Some q
    → (rows : List (List BitVector)) → AreBadFrames lines j k rows → (trace : Trace) × HasWordsOf lines k rows trace × MeetsQuery (import_of lines) q k trace

-- each trace that meets query j at step k is that of frames 0 to k with every constraint true, and bad j true in frame k
abbrev pub TracesAreFrames : Type 0
TracesAreFrames = (lines : List Line) → IsWellFormed lines → (j k : ℕ) (q : Query) → slice_get (check_of lines).queries j ≡ Some q
    → (trace : Trace) → MeetsQuery (import_of lines) q k trace → (rows : List (List BitVector)) × HasWordsOf lines k rows trace × AreBadFrames lines j k rows

-- a trace of the script has at each step the words of one list of frames with every constraint true
abbrev pub TracesHaveWords : Type 0
TracesHaveWords = (lines : List Line) → IsWellFormed lines → (k : ℕ) (trace : Trace) → Behaves (import_of lines).scope.enumerations (calls_in (import_of lines).scope) (import_of lines).systems (k + 1) 0 trace
    → (rows : List (List BitVector)) × (length rows ≡ k + 1) × AreFrames lines rows × HasWordsOf lines k rows trace

-- both, for each bad line and each number of steps
abbrev pub TracesHaveFrames : Type 0
TracesHaveFrames = (lines : List Line) → IsWellFormed lines → (j k : ℕ) (q : Query) → slice_get (check_of lines).queries j ≡ Some q → HasTrace lines q k ↔ HasFrames lines j k

-- there are as many queries as bad lines
abbrev pub QueriesAreBads : Type 0
QueriesAreBads = (lines : List Line) → IsWellFormed lines → length (check_of lines).queries ≡ length (operands is_bad lines)

-- how many brackets of the printed script stand open at most, so that it is always read again
abbrev pub BracketsAreFew : Type 0
BracketsAreFew = (lines : List Line) → shown_depths (shown_script (import_of lines)) ≤ 7
