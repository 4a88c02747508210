-- What a run is that a trace can state.
use Rattle.std.specs.Prelude.{◌≡◌, ℕ, ◌+◌, ◌≤◌, ◌^◌, ◌-◌, ◌==◌, Bool, true, false, ◌&&◌, nat_le, nat_lt, pos, neg_ℤ, int_le, List, [], ◌∷◌, length, is_some, IsTrue}
use Rattle.std.specs.List.{filter, list_all}
use Rattle.std.specs.Str.{bytes_eq}
use Rattle.word_core.specs.Words.{BitVector}
use Rattle.word_core.specs.declared.word.TheConstants.{WIDEST}
use Rattle.smv_meaning.specs.declared.value.Value.{Value}
use Rattle.smv_meaning.specs.declared.value.Value.TheVariants.{Truth, Integer, Symbol, Bits}
use Rattle.smv_meaning.specs.declared.value.Given.{Given}
use Rattle.smv_meaning.specs.declared.value.Run.{Run}
use Rattle.smv_meaning.specs.Types.{ExprType, truth_type, integer_type, symbol_type, word_type}
use Rattle.smv_items.specs.FlatItems.{PlainFlatItem}
use Rattle.name_maps.specs.Names.{place_of}
use Rattle.smv_numbered.specs.declared.heading.Heading.{Heading}
use Rattle.smv_numbered.specs.declared.heading.Heading.TheVariants.{State, Input}
use Rattle.smv_numbered.specs.Values.{picks}

-- what a trace is read against: the items and the symbols of a model
pub record Declarations : Type 0 where
  pub items : List PlainFlatItem
  pub symbols : List (List ℕ)

-- a word of this width: its bits are below two to the width
abbrev pub is_word_of : ℕ → BitVector → Bool
is_word_of n w = (w.width == n) && ((nat_le 1 w.width && nat_le w.width WIDEST) && nat_lt w.bits (2 ^ w.width))

-- a value that can be stated for a variable of a type, inside its range or symbols or not
abbrev pub can_be_stated : List (List ℕ) → ExprType → Value → Bool
can_be_stated symbols truth_type (Truth b) = true
can_be_stated symbols (integer_type low high) (Integer z) = int_le (neg_ℤ (pos (2 ^ 62))) z && int_le z (pos (2 ^ 62 - 1))
can_be_stated symbols symbol_type (Symbol s) = is_some (place_of symbols s)
can_be_stated symbols (word_type n) (Bits w) = is_word_of n w
can_be_stated symbols t v = false

-- each of these variables in order, and nothing else
abbrev pub names_each : List (List ℕ) → List PlainFlatItem → List Given → Bool
names_each symbols [] [] = true
names_each symbols (m ∷ ms) (g ∷ gs) = bytes_eq m.name g.name && can_be_stated symbols m.type g.value && names_each symbols ms gs
names_each symbols ms gs = false

abbrev pub names_variables : Declarations → Heading → List Given → Bool
names_variables d heading gs = names_each d.symbols (filter (λ m. picks heading m.kind) d.items) gs

-- one or more states with a label between each two, which name each variable
pub record IsStatedRun (d : Declarations) (run : Run) : Type 0 where
  pub some : 1 ≤ length run.states
  pub labels : length run.labels + 1 ≡ length run.states
  pub states : IsTrue (list_all (names_variables d State) run.states)
  pub inputs : IsTrue (list_all (names_variables d Input) run.labels)
