-- The printed form of a stated run. The layout is this translator's own; it is modelled on NuSMV's counterexamples.
use Rattle.std.specs.Prelude.{◌+◌, ℕ, Bool, true, false, List, [], ◌∷◌, ◌++◌, length, codes, decimal}
use Rattle.std.specs.Fmt.{signed_decimal}
use Rattle.std.specs.List.{flat_map, list_any}
use Rattle.smv_meaning.specs.declared.value.Value.{Value}
use Rattle.smv_meaning.specs.declared.value.Value.TheVariants.{Truth, Integer, Symbol, Bits}
use Rattle.smv_meaning.specs.declared.value.Given.{Given}
use Rattle.smv_items.specs.declared.items.ItemKind.{ItemKind}
use Rattle.smv_items.specs.declared.items.ItemKind.TheVariants.{Input}
use Rattle.smv_items.specs.FlatItems.{PlainFlatItem}
use Rattle.smv_lex.specs.Spelling.{literal_bytes}

-- an input
abbrev pub is_input : ItemKind → Bool
is_input Input = true
is_input k = false

abbrev pub has_inputs : List PlainFlatItem → Bool
has_inputs items = list_any (λ m. is_input m.kind) items

-- TRUE or FALSE, decimal digits with `-` before them where the integer is negative, a symbol by its name, or a word literal in
-- decimal digits
abbrev pub truth_text : Bool → List ℕ
truth_text true = codes "TRUE"
truth_text false = codes "FALSE"

abbrev pub value_text : Value → List ℕ
value_text (Truth b) = truth_text b
value_text (Integer z) = signed_decimal z
value_text (Symbol s) = s
value_text (Bits w) = literal_bytes w

-- `    NAME = VALUE`
abbrev pub value_line : Given → List ℕ
value_line g = codes "    " ++ (g.name ++ (codes " = " ++ (value_text g.value ++ 10 ∷ [])))

-- the blanks before a name, where a line follows
abbrev pub margin : Bool → List ℕ
margin true = codes "    "
margin false = []

-- the lines without the blanks of the first
abbrev pub unmargined : List Given → List ℕ
unmargined [] = []
unmargined (g ∷ gs) = g.name ++ (codes " = " ++ (value_text g.value ++ 10 ∷ flat_map value_line gs))

-- `  -> State: 1.N <-`, or the same of an input
unfoldable pub heading_text : List ℕ → ℕ → List ℕ
heading_text word n = codes "  -> " ++ (word ++ (codes ": 1." ++ (decimal n ++ (codes " <-" ++ 10 ∷ []))))

-- a state, counted from 1, with its values
abbrev pub state_text : ℕ → List Given → List ℕ
state_text n s = heading_text (codes "State") n ++ flat_map value_line s

-- a label by the number of the state that it leads to; where the model has no inputs nothing stands for it
abbrev pub label_text : Bool → ℕ → List Given → List ℕ
label_text true n l = heading_text (codes "Input") n ++ flat_map value_line l
label_text false n l = []

-- the labels, each with the state that it leads to, from number n on
abbrev pub following_text : Bool → ℕ → List (List Given) → List (List Given) → List ℕ
following_text inputs n states [] = []
following_text inputs n [] (l ∷ ls) = []
following_text inputs n (s ∷ ss) (l ∷ ls) = label_text inputs n l ++ (state_text n s ++ following_text inputs (n + 1) ss ls)

abbrev pub steps_text : Bool → List (List Given) → List (List Given) → List ℕ
steps_text inputs [] labels = []
steps_text inputs (s ∷ ss) labels = state_text 1 s ++ following_text inputs 2 ss labels

-- `-- invariant J is false in state 1.N`
unfoldable pub claim_front : ℕ → List ℕ
claim_front j = codes "-- invariant " ++ decimal j

unfoldable pub claim_back : ℕ → List ℕ
claim_back n = codes " is false" ++ (codes " in state 1." ++ (decimal n ++ 10 ∷ []))

-- the run with these states and labels as one that breaks the numbered invariant of a model with these items
abbrev pub trace_text : List PlainFlatItem → ℕ → List (List Given) → List (List Given) → List ℕ
trace_text items j states labels = claim_front j ++ (claim_back (length states) ++ steps_text (has_inputs items) states labels)
