-- Which values have codes that tell them apart: integers that the width holds, symbols that are among the model's, and words.
use Rattle.std.specs.Prelude.{◌≡◌, ℕ, List, Some}
use Rattle.word_core.specs.Words.{IsWord}
use Rattle.smv_meaning.specs.declared.value.Value.{Value}
use Rattle.smv_meaning.specs.declared.value.Value.TheVariants.{Truth, Integer, Symbol, Bits}
use Rattle.smv_meaning.specs.Types.{ExprType, truth_type, integer_type, symbol_type, word_type}
use Rattle.name_maps.specs.Names.{place_of}
use Rattle.smv_flat.specs.FlatWidth.{Holds}

-- a symbol is one of the model's
abbrev pub IsKnown : List (List ℕ) → Value → Type 0
IsKnown symbols (Symbol s) = (i : ℕ) × (place_of symbols s ≡ Some i)
IsKnown symbols v = Unit {0}

-- the value is of the type's kind, whatever the ends of its interval are, and an integer is one that the width holds
abbrev pub IsOfKind : ℕ → List (List ℕ) → ExprType → Value → Type 0
IsOfKind width symbols truth_type (Truth b) = Unit {0}
IsOfKind width symbols (integer_type low high) (Integer z) = Holds width z
IsOfKind width symbols symbol_type (Symbol s) = (i : ℕ) × (place_of symbols s ≡ Some i)
IsOfKind width symbols (word_type n) (Bits w) = (w.width ≡ n) × IsWord w
IsOfKind width symbols t v = ⊥
