-- Small traces, as they are printed and read.
use Rattle.std.specs.Prelude.{◌≡◌, ℕ, true, false, Ok, List, [], ◌∷◌, ◌++◌, codes, pos, negsuc}
use Rattle.smv_meaning.specs.declared.value.Value.{Value}
use Rattle.smv_meaning.specs.declared.value.Value.TheVariants.{Truth, Integer, Symbol, Bits}
use Rattle.smv_meaning.specs.declared.value.Given.{Given}
use Rattle.smv_meaning.specs.declared.value.Run.{Run}
use Rattle.smv_meaning.specs.Types.{ExprType, truth_type, integer_type, symbol_type, word_type}
use Rattle.smv_items.specs.declared.items.ItemKind.{ItemKind}
use Rattle.smv_items.specs.declared.items.ItemKind.TheVariants as kind
use Rattle.smv_items.specs.FlatItems.{PlainFlatItem}
use Rattle.smv_trace_text.specs.Texts.{trace_text}
use Rattle.smv_numbered.specs.Stated.{Declarations}
use Rattle.smv_trace.specs.Texts.{trace_of}

abbrev pub item : List ℕ → ItemKind → ExprType → PlainFlatItem
item name kind type = record { name = name; instance = 0; kind = kind; type = type; members = [] }

abbrev pub given : List ℕ → Value → Given
given name value = record { name = name; value = value }

-- the run that breaks the numbered invariant is printed as this text, which states it
abbrev pub PrintsAndReads : Declarations → ℕ → Run → List ℕ → Type 0
PrintsAndReads d j run text = (trace_text d.items j run.states run.labels ≡ text) × (trace_of d text ≡ Ok run)

-- ---- a state and an input

abbrev pub light : Declarations
light = record { items = item (codes "light") kind.State truth_type ∷ item (codes "push") kind.Input truth_type ∷ []; symbols = [] }

abbrev pub light_run : Run
light_run = record {
  states = (given (codes "light") (Truth false) ∷ []) ∷ (given (codes "light") (Truth true) ∷ []) ∷ [];
  labels = (given (codes "push") (Truth true) ∷ []) ∷ [];
}

abbrev pub light_text : List ℕ
light_text =
    codes "-- invariant 0 is false in state 1.2\n"
    ++ (codes "  -> State: 1.1 <-\n    light = FALSE\n" ++ (codes "  -> Input: 1.2 <-\n    push = TRUE\n" ++ codes "  -> State: 1.2 <-\n    light = TRUE\n"))

-- ---- no inputs

abbrev pub count : Declarations
count = record { items = item (codes "n") kind.State (integer_type (pos 0) (pos 9)) ∷ item (codes "even") kind.Define truth_type ∷ []; symbols = [] }

abbrev pub count_run : Run
count_run = record { states = (given (codes "n") (Integer (pos 0)) ∷ []) ∷ (given (codes "n") (Integer (pos 10)) ∷ []) ∷ []; labels = [] ∷ [] }

abbrev pub count_text : List ℕ
count_text = codes "-- invariant 12 is false in state 1.2\n" ++ (codes "  -> State: 1.1 <-\n    n = 0\n" ++ codes "  -> State: 1.2 <-\n    n = 10\n")

-- ---- an integer, a symbol and a word, in one state

abbrev pub three : Declarations
three = record {
  items = item (codes "a.n") kind.State (integer_type (negsuc 3) (pos 4)) ∷ item (codes "a.color") kind.Frozen symbol_type ∷ item (codes "bits") kind.State (word_type 8) ∷ [];
  symbols = codes "red" ∷ codes "green" ∷ [];
}

abbrev pub three_run : Run
three_run = record {
  states = (given (codes "a.n") (Integer (negsuc 1)) ∷ given (codes "a.color") (Symbol (codes "green")) ∷ given (codes "bits") (Bits (record { width = 8; bits = 200 })) ∷ []) ∷ [];
  labels = [];
}

abbrev pub three_text : List ℕ
three_text = codes "-- invariant 3 is false in state 1.1\n" ++ (codes "  -> State: 1.1 <-\n    a.n = -2\n" ++ codes "    a.color = green\n    bits = 0ud8_200\n")
