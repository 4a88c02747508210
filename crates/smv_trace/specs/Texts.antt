-- What a text states as a trace, and why it states none. Each rule of the layout is this translator's own, but for the look of
-- headings and values, which is that of NuSMV's counterexamples.
use Rattle.std.specs.Prelude.{◌≡◌, ℕ, nat_le, if◌then◌else◌, Result, Ok, Err, List, [], ◌∷◌, length}
use Rattle.text_core.specs.declared.place.Place.{Place}
use Rattle.text_core.specs.declared.place.Refusal.{Refusal}
use Rattle.text_core.specs.Places.{start, after}
use Rattle.smv_meaning.specs.declared.value.Run.{Run}
use Rattle.smv_numbered.specs.Stated.{Declarations}
use Rattle.smv_trace_text.specs.Lines.{lines_of, behind_line, trimmed}
use Rattle.smv_trace.specs.Reading.{Reading, step, finished, begin}
use Rattle.text_core.specs.Answers.{go_on, refused}

-- the lines from this place on, read one after another, where the text ends at this place
abbrev pub lines_read : Declarations → Place → Place → List (List ℕ) → Reading → Result Run Refusal
lines_read d end at [] r = finished d end r
lines_read d end at (line ∷ lines) r = go_on (step d at (trimmed line) r) (lines_read d end (behind_line at line) lines)

-- the most bytes of a trace
abbrev pub most_bytes : ℕ
most_bytes = 67108864

-- the run that a text states, or its first refusal; a text that is too long is refused at its first line
abbrev pub trace_of : Declarations → List ℕ → Result Run Refusal
trace_of d text = if nat_le (length text) most_bytes then lines_read d (after start text) start (lines_of text) (begin d) else refused 5 start

-- the text states the run
abbrev pub ReadsTrace : Declarations → List ℕ → Run → Type 0
ReadsTrace d text run = trace_of d text ≡ Ok run

-- the text is refused
abbrev pub RefusesTrace : Declarations → List ℕ → Refusal → Type 0
RefusesTrace d text refusal = trace_of d text ≡ Err refusal
