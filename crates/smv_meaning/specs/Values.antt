-- Values, the types of variables with their values, and states (NuSMV 2.6 User Manual, 2.1 and 2.3).
use Rattle.std.specs.Prelude.{ℕ, ◌^◌, Bool, true, false, not, ◌&&◌, ◌||◌, ◌==◌, nat_lt, nat_le, if◌then◌else◌, ℤ, int_le, List, [], ◌∷◌, IsTrue, bytes_eq}
use Rattle.smv_text.specs.declared.tree.Member.{Member}
use Rattle.smv_text.specs.declared.tree.Member.TheVariants as OfMember
use Rattle.smv_text.specs.Tree.{PlainDomain, boolean, members, between, bits, instance}
use Rattle.smv_meaning.specs.declared.value.Value.{Value}
use Rattle.smv_meaning.specs.declared.value.Value.TheVariants.{Truth, Integer, Symbol, Bits}
use Rattle.smv_meaning.specs.declared.value.Given.{Given}

-- what stands for the value where there is none
abbrev pub no_value : Value
no_value = Truth false

abbrev pub is_true : Value → Bool
is_true (Truth b) = b
is_true v = false

abbrev pub bool_eq : Bool → Bool → Bool
bool_eq true b = b
bool_eq false b = not b

-- two values are one: equal symbols are, whatever types they come from
abbrev pub value_same : Value → Value → Bool
value_same (Truth a) (Truth b) = bool_eq a b
value_same (Integer a) (Integer b) = int_le a b && int_le b a
value_same (Symbol a) (Symbol b) = bytes_eq a b
value_same (Bits v) (Bits w) = v.width == w.width && v.bits == w.bits
value_same v w = false

-- an integer between two ends
abbrev pub is_between : ℤ → ℤ → Value → Bool
is_between low high (Integer z) = int_le low z && int_le z high
is_between low high v = false

-- a word of this width
abbrev pub is_word_of : ℕ → Value → Bool
is_word_of n (Bits w) = w.width == n && nat_lt w.bits (2 ^ n)
is_word_of n v = false

abbrev pub is_truth : Value → Bool
is_truth (Truth b) = true
is_truth v = false

abbrev pub member_value : Member → Value
member_value (OfMember.Symbol s) = Symbol s
member_value (OfMember.Integer z) = Integer z

abbrev pub is_among : List Member → Value → Bool
is_among [] v = false
is_among (m ∷ ms) v = value_same (member_value m) v || is_among ms v

-- the value is of the variable's type
abbrev pub is_of_type : PlainDomain → Value → Bool
is_of_type boolean v = is_truth v
is_of_type (members ms) v = is_among ms v
is_of_type (between low high) v = is_between low high v
is_of_type (bits n) v = nat_le 1 n && is_word_of n v
is_of_type (instance m actuals) v = false

abbrev pub IsOfType : PlainDomain → Value → Type 0
IsOfType d v = IsTrue (is_of_type d v)

-- a state gives each state and frozen variable, named by its dotted path, a value; a label gives each input one
abbrev pub Valuation : Type 0
Valuation = List ℕ → Value

-- the value that a list of given values has first for a name
abbrev pub given : List Given → Valuation
given [] x = no_value
given (g ∷ gs) x = if bytes_eq g.name x then g.value else given gs x
