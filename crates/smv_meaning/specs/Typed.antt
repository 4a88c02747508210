-- The law of types: each value that a typed expression permits lies in its type, and an integer in its interval.
use Rattle.std.specs.Prelude.{◌≡◌, ℕ, Bool, ◌≤ℤ◌, if◌then◌else◌, Option, Some, None, IsTrue}
use Rattle.word_core.specs.Words.{IsWord}
use Rattle.smv_text.specs.declared.tree.Path.{Path}
use Rattle.smv_text.specs.Tree.{Tree}
use Rattle.smv_meaning.specs.declared.value.Value.{Value}
use Rattle.smv_meaning.specs.declared.value.Value.TheVariants.{Truth, Integer, Symbol, Bits}
use Rattle.smv_meaning.specs.Values.{Valuation}
use Rattle.smv_meaning.specs.Names.{Found, variable_at}
use Rattle.smv_meaning.specs.Meaning.{is_input, denoted}
use Rattle.smv_meaning.specs.Types.{ExprType, truth_type, integer_type, symbol_type, word_type}
use Rattle.smv_meaning.specs.Checks.{Position, typing}
use Rattle.smv_meaning.specs.Naming.{typed_variable, naming}

-- the value is of the type, and an integer in the interval
abbrev pub LiesIn : ExprType → Value → Type 0
LiesIn truth_type (Truth b) = Unit {0}
LiesIn (integer_type low high) (Integer z) = (low ≤ℤ z) × (z ≤ℤ high)
LiesIn symbol_type (Symbol s) = Unit {0}
LiesIn (word_type n) (Bits w) = (w.width ≡ n) × IsWord w
LiesIn t v = ⊥

-- where there is no type nothing is said
abbrev pub Lies : Option ExprType → Value → Type 0
Lies None v = Unit {0}
Lies (Some t) v = LiesIn t v

-- each variable has a value of its type in the state, or as an input, where a label is given, in the label
abbrev pub GivesFound : Bool → Valuation → Valuation → Found → Type 0
GivesFound inputs state label (variable_at x kind d) = Lies (typed_variable inputs kind d) (if is_input kind then label x else state x)
GivesFound inputs state label m = Unit {0}

abbrev pub Gives : Bool → (ℕ → Path → Found) → Valuation → Valuation → Type 0
Gives inputs found state label = (i : ℕ) (path : Path) → GivesFound inputs state label (found i path)

-- whatever the meaning of names is
abbrev pub ValuesLie : Type 0
ValuesLie = (inputs : Bool) (found : ℕ → Path → Found) (state label following : Valuation) → Gives inputs found state label → Gives inputs found following label
    → (n i : ℕ) (at : Position) (e : Tree) (v : Value) → IsTrue ((denoted found n i e state label following).permits v)
    → Lies (typing (naming inputs found n i) at e).type v
