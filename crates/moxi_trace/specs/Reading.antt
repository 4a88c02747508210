-- What each token of a response does, by where its reading stands.
use Rattle.std.specs.Prelude.{◌==◌, ◌+◌, ℕ, Bool, true, false, not, ◌&&◌, ◌||◌, nat_le, nat_lt, if◌then◌else◌, Option, Some, None, is_none, is_some, option_and_then, Result, Ok, List, [], ◌∷◌, ◌++◌, length, codes, decimal, replicate, slice_get, slice_index_or, slice_set}
use Rattle.std.specs.List.{list_any}
use Rattle.std.specs.Str.{bytes_eq}
use Rattle.text_core.specs.declared.place.Place.{Place}
use Rattle.text_core.specs.declared.place.Refusal.{Refusal}
use Rattle.text_core.specs.Places.{start}
use Rattle.name_maps.specs.Names.{place_of}
use Rattle.moxi_terms.specs.declared.data.Datum.{Datum}
use Rattle.moxi_terms.specs.declared.term.Variable.{Variable}
use Rattle.moxi_terms.specs.Operators.{nothing}
use Rattle.moxi_trace.specs.declared.point.Point.{Point}
use Rattle.moxi_trace.specs.declared.point.Point.TheVariants as point
use Rattle.moxi_trace.specs.declared.point.Failing.{Failing}
use Rattle.moxi_trace.specs.declared.tokens.Shape.{Shape}
use Rattle.moxi_trace.specs.declared.tokens.Shape.TheVariants as shape
use Rattle.moxi_trace.specs.Traces.{Declared, names_of, is_within}
use Rattle.moxi_trace.specs.Values.{value_of}
use Rattle.text_core.specs.Bytes.{without_zeros, is_empty}
use Rattle.text_core.specs.Answers.{go_on, refused}

-- where the reading stands: what comes next, the line of the last token and the test that fails there, if one does; the query;
-- the bracket of the last step, and the value that it has stated for each variable; and the steps that are whole
pub record Reading : Type 0 where
  pub point : Point
  pub line : ℕ
  pub failing : Option Failing
  pub query : ℕ
  pub step : Place
  pub stated : List (Option Datum)
  pub steps : List (List Datum)

abbrev pub at_point : Point → Reading → Reading
at_point p r = record r { point = p }

-- ---- failing tests

-- Of the tests that fail in one line a wrong shape is answered first and at once. Of the others the end of a line answers a limit
-- first, then a name, then a value, then a missing one.
abbrev pub order : ℕ → ℕ
order n = if n == 5 then 0 else n

abbrev pub first_of : Failing → Option Failing → Failing
first_of f None = f
first_of f (Some g) = if nat_lt (order f.number) (order g.number) then f else g

abbrev pub with_failing : ℕ → Place → Reading → Reading
with_failing n at r = record r { failing = Some (first_of (record { number = n; place = at }) r.failing) }

abbrev pub settled_by : Option Failing → Reading → Result Reading Refusal
settled_by None r = Ok r
settled_by (Some f) r = refused f.number f.place

-- a token is in this line: in a new one, what failed in the line before is answered
abbrev pub on_line : ℕ → Reading → Result Reading Refusal
on_line line r = if line == r.line then Ok r else settled_by r.failing (record r { line = line })

-- ---- the head

-- `(check-system-response SYSTEM :query (QUERY :result sat :trace t) :trace (t :prefix p) :trail (p`: its fixed tokens by number
abbrev pub is_head_symbol : ℕ → List ℕ → Bool
is_head_symbol n name =
    if n == 1 then bytes_eq name (codes "check-system-response") else (if n == 5 then bytes_eq name (codes "sat")
    else (if (n == 7) || (n == 11) then bytes_eq name (codes "t") else (((n == 13) || (n == 17)) && bytes_eq name (codes "p"))))

abbrev pub is_head_keyword : ℕ → List ℕ → Bool
is_head_keyword n name =
    if n == 2 then bytes_eq name (codes "query") else (if n == 4 then bytes_eq name (codes "result")
    else (if (n == 6) || (n == 9) then bytes_eq name (codes "trace")
    else (if n == 12 then bytes_eq name (codes "prefix") else ((n == 15) && bytes_eq name (codes "trail")))))

abbrev pub is_head_token : ℕ → Shape → List ℕ → Bool
is_head_token n shape.Open bytes = (n == 0) || ((n == 3) || ((n == 10) || (n == 16)))
is_head_token n shape.Close bytes = (n == 8) || (n == 14)
is_head_token n shape.Symbol bytes = is_head_symbol n bytes
is_head_token n shape.Keyword bytes = is_head_keyword n bytes
is_head_token n k bytes = false

-- the names of the system and of the query are behind the second and the fourth
abbrev pub past_head : ℕ → Point
past_head n = if n == 1 then point.System else (if n == 3 then point.Query else (if nat_le 17 n then point.Steps else point.Head (n + 1)))

abbrev pub head_step : ℕ → Shape → List ℕ → Place → Reading → Result Reading Refusal
head_step n k bytes at r = if is_head_token n k bytes then Ok (at_point (past_head n) r) else refused 1 at

abbrev pub is_symbol : Shape → Bool
is_symbol shape.Symbol = true
is_symbol k = false

-- what a symbol leads to; any other token has no place here
abbrev pub symbol_step : Shape → Place → Reading → Result Reading Refusal
symbol_step k at r = if is_symbol k then Ok r else refused 1 at

abbrev pub system_named : Declared → List ℕ → Place → Reading → Reading
system_named d name at r = if bytes_eq name d.system then r else with_failing 2 at r

abbrev pub query_named : Option ℕ → Place → Reading → Reading
query_named None at r = with_failing 2 at r
query_named (Some q) at r = record r { query = q }

-- ---- steps

abbrev pub close_step : Point → Shape → Place → Reading → Result Reading Refusal
close_step p shape.Close at r = Ok (at_point p r)
close_step p k at r = refused 1 at

-- a limit is tested at the step with which it is passed
abbrev pub step_begun : Declared → Place → Reading → Reading
step_begun d at r = if is_within d (length r.steps + 1) then at_point point.Number (record r { step = at }) else with_failing 5 at (at_point point.Number (record r { step = at }))

abbrev pub steps_step : Declared → Shape → Place → Reading → Result Reading Refusal
steps_step d shape.Open at r = Ok (step_begun d at r)
steps_step d shape.Close at r = Ok (at_point point.Last r)
steps_step d k at r = refused 1 at

-- steps are counted from 0; zeros may begin a number
abbrev pub is_number : ℕ → List ℕ → Bool
is_number n digits = bytes_eq (without_zeros digits) (without_zeros (decimal n))

abbrev pub is_numeral : Shape → Bool
is_numeral shape.Numeral = true
is_numeral k = false

abbrev pub number_step : Shape → List ℕ → Place → Reading → Result Reading Refusal
number_step k digits at r = if is_numeral k && is_number (length r.steps) digits then Ok (at_point point.Statements r) else refused 1 at

-- no value for each variable
abbrev pub nothing_stated : List Variable → List (Option Datum)
nothing_stated vs = replicate (length vs) None

abbrev pub lacks : List (Option Datum) → Bool
lacks vs = list_any is_none vs

abbrev pub values_of : List (Option Datum) → List Datum
values_of [] = []
values_of (None ∷ vs) = values_of vs
values_of (Some x ∷ vs) = x ∷ values_of vs

-- a variable without a value is answered at the step's bracket, behind what fails in the step's last line
abbrev pub tested : Reading → Reading
tested r = if lacks r.stated then with_failing 4 r.step r else r

abbrev pub with_step : Declared → Reading → Reading
with_step d r = record r { point = point.Steps; stated = nothing_stated d.variables; steps = r.steps ++ values_of r.stated ∷ [] }

abbrev pub statements_step : Declared → Shape → Place → Reading → Result Reading Refusal
statements_step d shape.Open at r = Ok (at_point point.Variable r)
statements_step d shape.Close at r = Ok (with_step d (tested r))
statements_step d k at r = refused 1 at

-- ---- statements

abbrev pub is_stated : List (Option Datum) → ℕ → Bool
is_stated vs k = is_some (slice_index_or vs k None)

-- a variable that is stated again has no place here, whatever value comes behind
abbrev pub variable_named : Option ℕ → Place → Reading → Result Reading Refusal
variable_named None at r = Ok (with_failing 2 at (at_point point.AnyValue r))
variable_named (Some k) at r = if is_stated r.stated k then refused 1 at else Ok (at_point (point.Value k) r)

abbrev pub variable_step : Declared → Shape → List ℕ → Place → Reading → Result Reading Refusal
variable_step d k name at r = if is_symbol k then variable_named (place_of (names_of d.variables) name) at r else refused 1 at

abbrev pub is_bracket : Shape → Bool
is_bracket shape.Open = true
is_bracket shape.Close = true
is_bracket k = false

-- the value of the variable number k that a token spells
abbrev pub value_at : Declared → ℕ → Shape → List ℕ → Option Datum
value_at d k s bytes = option_and_then (λ (v : Variable). value_of d.enumerations v.sort s bytes) (slice_get d.variables k)

abbrev pub with_value : ℕ → Datum → Reading → Reading
with_value k x r = record r { point = point.Stated; stated = slice_set r.stated k (Some x) }

-- a variable whose value isn't one of its sort is stated, too
abbrev pub value_read : ℕ → Option Datum → Place → Reading → Reading
value_read k None at r = with_failing 3 at (with_value k nothing r)
value_read k (Some x) at r = with_value k x r

abbrev pub value_step : Declared → ℕ → Shape → List ℕ → Place → Reading → Result Reading Refusal
value_step d k s bytes at r = if is_bracket s then refused 1 at else Ok (value_read k (value_at d k s bytes) at r)

-- of a name that no variable has any value is passed over
abbrev pub any_step : Shape → Place → Reading → Result Reading Refusal
any_step s at r = if is_bracket s then refused 1 at else Ok (at_point point.Stated r)

-- ---- tokens

-- what a token with these bytes does, by what is to come
abbrev pub point_step : Declared → Point → Shape → List ℕ → Place → Reading → Result Reading Refusal
point_step d (point.Head n) s bytes at r = head_step n s bytes at r
point_step d point.System s bytes at r = symbol_step s at (system_named d bytes at (at_point (point.Head 2) r))
point_step d point.Query s bytes at r = symbol_step s at (query_named (place_of d.queries bytes) at (at_point (point.Head 4) r))
point_step d point.Steps s bytes at r = steps_step d s at r
point_step d point.Number s bytes at r = number_step s bytes at r
point_step d point.Statements s bytes at r = statements_step d s at r
point_step d point.Variable s bytes at r = variable_step d s bytes at r
point_step d (point.Value k) s bytes at r = value_step d k s bytes at r
point_step d point.AnyValue s bytes at r = any_step s at r
point_step d point.Stated s bytes at r = close_step point.Statements s at r
point_step d point.Last s bytes at r = close_step point.Whole s at r
point_step d point.Whole s bytes at r = refused 1 at

abbrev pub token_step : Declared → Shape → List ℕ → Place → Reading → Result Reading Refusal
token_step d s bytes at r = point_step d r.point s bytes at r

-- the same behind the line that the token ends
unfoldable pub step : Declared → Shape → List ℕ → Place → Reading → Result Reading Refusal
step d s bytes at r = go_on (on_line at.line r) (token_step d s bytes at)

-- no token begins here
unfoldable pub stray : Place → Reading → Result Reading Refusal
stray at r = go_on (on_line at.line r) (λ q. refused 1 at)

-- ---- the end

abbrev pub is_whole : Point → Bool
is_whole point.Whole = true
is_whole p = false

-- a text is whole behind the last bracket and where it has a step
abbrev pub ended : Place → Reading → Result Reading Refusal
ended end r = if is_whole r.point && not (is_empty r.steps) then settled_by r.failing r else refused 1 end

unfoldable pub finished : Place → Reading → Result Reading Refusal
finished end r = go_on (on_line end.line r) (ended end)

-- nothing is read
abbrev pub begin : Declared → Reading
begin d = record { point = point.Head 0; line = 0; failing = None; query = 0; step = start; stated = nothing_stated d.variables; steps = [] }
