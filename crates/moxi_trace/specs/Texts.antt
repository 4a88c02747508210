-- The printed form of a response. The layout is this translator's own; it is modelled on MoXI's responses (SPIN 2024).
use Rattle.std.specs.Prelude.{◌+◌, ℕ, Bool, true, false, Option, Some, None, List, [], ◌∷◌, ◌++◌, slice_get, codes, decimal}
use Rattle.text_core.specs.Binary.{binary_digits}
use Rattle.moxi_sexpr.specs.declared.form.Atom.TheVariants as atoms
use Rattle.moxi_sexpr.specs.Printing.{printed_atom}
use Rattle.moxi_terms.specs.declared.data.Datum.{Datum}
use Rattle.moxi_terms.specs.declared.data.Datum.TheVariants as datum
use Rattle.moxi_terms.specs.declared.term.Enumeration.{Enumeration}
use Rattle.moxi_terms.specs.declared.term.Variable.{Variable}
use Rattle.moxi_trace.specs.Traces.{Declared}
use Rattle.moxi_term_print.specs.Terms.{name_at}

-- a name as a symbol is printed, in bars where it needs them
abbrev pub symbol_text : List ℕ → List ℕ
symbol_text name = printed_atom (atoms.Symbol name false)

abbrev pub constants_of : Option Enumeration → List (List ℕ)
constants_of None = []
constants_of (Some e) = e.constants

-- the name of the constant number i of the enumeration number n
abbrev pub constant_name : List Enumeration → ℕ → ℕ → List ℕ
constant_name es n i = name_at (constants_of (slice_get es n)) i

abbrev pub truth_text : Bool → List ℕ
truth_text true = codes "true"
truth_text false = codes "false"

-- `true` or `false`, `#b` and exactly as many digits as the width says, or the constant's name
abbrev pub value_text : List Enumeration → Datum → List ℕ
value_text es (datum.Truth b) = truth_text b
value_text es (datum.Bits w) = codes "#b" ++ binary_digits w.width w.bits
value_text es (datum.Constant n i) = symbol_text (constant_name es n i)

-- ` (NAME VALUE)`
abbrev pub statement_text : List Enumeration → Variable → Datum → List ℕ
statement_text es v x = codes " (" ++ (symbol_text v.name ++ (codes " " ++ (value_text es x ++ codes ")")))

-- of each variable in order
abbrev pub statements_text : List Enumeration → List Variable → List Datum → List ℕ
statements_text es vs [] = []
statements_text es [] (x ∷ xs) = []
statements_text es (v ∷ vs) (x ∷ xs) = statement_text es v x ++ statements_text es vs xs

-- ` (NAME `, which is the same in each step
abbrev pub front_text : Variable → List ℕ
front_text v = codes " (" ++ (symbol_text v.name ++ codes " ")

-- the statements, of what is before each value
abbrev pub fronted_text : List Enumeration → List (List ℕ) → List Datum → List ℕ
fronted_text es fs [] = []
fronted_text es [] (x ∷ xs) = []
fronted_text es (f ∷ fs) (x ∷ xs) = (f ++ (value_text es x ++ codes ")")) ++ fronted_text es fs xs

-- `(N (NAME VALUE) ..)` on a line of its own
abbrev pub step_text : Declared → ℕ → List Datum → List ℕ
step_text d n xs = codes "\n(" ++ (decimal n ++ (statements_text d.enumerations d.variables xs ++ codes ")"))

-- the steps, from number n on
abbrev pub steps_text : Declared → ℕ → List (List Datum) → List ℕ
steps_text d n [] = []
steps_text d n (s ∷ ss) = step_text d n s ++ steps_text d (n + 1) ss

-- the fixed words of `(check-system-response SYSTEM :query (QUERY :result sat :trace t) :trace (t :prefix p) :trail (p`
unfoldable pub words_of_response : List ℕ
words_of_response = codes "(check-system-response "

unfoldable pub words_of_query : List ℕ
words_of_query = codes " :query ("

unfoldable pub words_of_result : List ℕ
words_of_result = codes " :result sat :trace t)"

unfoldable pub words_of_trace : List ℕ
words_of_trace = codes " :trace (t" ++ (codes " :prefix p)" ++ codes " :trail (p")

-- the head
abbrev pub head_text : List ℕ → List ℕ → List ℕ
head_text system query = words_of_response ++ (symbol_text system ++ (words_of_query ++ (symbol_text query ++ (words_of_result ++ words_of_trace))))

-- the response that the trace with these steps meets the query number q
abbrev pub response_text : Declared → ℕ → List (List Datum) → List ℕ
response_text d q steps = head_text d.system (name_at d.queries q) ++ (steps_text d 0 steps ++ codes "))\n")
