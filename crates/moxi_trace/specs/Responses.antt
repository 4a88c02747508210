-- What a text states as a response, and why it states none. The layout is this translator's own; it is modelled on MoXI's
-- responses (SPIN 2024). Blanks are free, and tokens may touch where the longest match divides them.
use Rattle.std.specs.Prelude.{◌≡◌, ◌==◌, ◌-◌, ◌<◌, ℕ, true, nat_le, if◌then◌else◌, Some, None, Result, Ok, Err, List, [], ◌∷◌, length}
use Rattle.text_core.specs.declared.place.Place.{Place}
use Rattle.text_core.specs.declared.place.Refusal.{Refusal}
use Rattle.text_core.specs.Places.{start, next_place}
use Rattle.moxi_sexpr.specs.Bytes.{is_blank}
use Rattle.moxi_trace.specs.declared.point.Answered.{Answered}
use Rattle.moxi_trace.specs.Traces.{Declared, IsStatedTrace, is_within, most_bytes}
use Rattle.moxi_trace.specs.Tokens.{Scan, token_of}
use Rattle.moxi_trace.specs.Reading.{Reading, step, stray, finished, begin}
use Rattle.text_core.specs.Answers.{go_on, refused}

-- how many bytes of the last token are still to come, and where the reading stands
abbrev pub Passing : Type 0
Passing = ℕ × Reading

abbrev pub behind : ℕ → Reading → Result Passing Refusal
behind n r = Ok (n, r)

-- a token, or none, in front of these bytes but for its first
abbrev pub token_read : Declared → Place → List ℕ → Reading → Scan → Result Passing Refusal
token_read d at bs r None = go_on (stray at r) (behind 0)
token_read d at bs r (Some t) = go_on (step d t.0 t.1 at r) (behind (length bs - length t.2))

-- a byte: one of the last token, a blank, or the first of the next token
abbrev pub byte_read : Declared → Place → ℕ → List ℕ → Passing → Result Passing Refusal
byte_read d at b bs x = if x.0 == 0 then (if is_blank b then behind 0 x.1 else token_read d at bs x.1 (token_of (b ∷ bs))) else behind (x.0 - 1) x.1

abbrev pub answered : Reading → Result Answered Refusal
answered r = Ok (record { query = r.query; trace = r.steps })

-- the bytes from this place on, one after another
abbrev pub read_from : Declared → Place → List ℕ → Passing → Result Answered Refusal
read_from d at [] x = go_on (finished at x.1) answered
read_from d at (b ∷ bs) x = go_on (byte_read d at b bs x) (read_from d (next_place at b) bs)

-- the response that a text states, or its first refusal; a text that is too long is refused at its first line
abbrev pub response_of : Declared → List ℕ → Result Answered Refusal
response_of d text = if nat_le (length text) most_bytes then read_from d start text (0, begin d) else refused 5 start

-- the text states the response
abbrev pub ReadsResponse : Declared → List ℕ → Answered → Type 0
ReadsResponse d text answer = response_of d text ≡ Ok answer

-- the text is refused
abbrev pub RefusesResponse : Declared → List ℕ → Refusal → Type 0
RefusesResponse d text refusal = response_of d text ≡ Err refusal

-- a query that is there, and a trace within the limits that states a value of its sort for each variable
pub record IsStatedResponse (d : Declared) (answer : Answered) : Type 0 where
  pub query : answer.query < length d.queries
  pub trace : IsStatedTrace d answer.trace
  pub within : is_within d (length answer.trace) ≡ true
