-- What a rule's result says of words.
use Rattle.std.specs.Prelude.{◌≡◌, ◌⊎◌, ℕ, List, IfSome, ◌+◌, ◌-◌}
use Rattle.word_core.specs.Words.{BitVector, IsWord}
use Rattle.word_core.specs.Table.{unary_width, binary_width}
use Rattle.btor_tree.specs.declared.lines.LineOp.{LineOp}
use Rattle.btor_tree.specs.declared.lines.LineOp.TheVariants.{Unary, Binary, Slice, Uext, Sext}
use Rattle.btor_tree.specs.Frame.{operand, word_at}
use Rattle.btor_rules.specs.declared.operand.Operand.{Operand}
use Rattle.btor_rules.specs.declared.operand.Operands.{Operands}
use Rattle.btor_rules.specs.declared.operand.Operands.TheVariants.{Empty, Single, Pair, Triple}
use Rattle.btor_rules.specs.declared.operand.Outcome.{Outcome}
use Rattle.btor_rules.specs.declared.operand.Outcome.TheVariants.{Stays, Constant, Argument}

-- the operand says what its argument's word in the row is
pub record IsRead (row : List BitVector) (x : Operand) : Type 0 where
  pub word : IsWord (word_at row x.arg.line)
  pub width : (operand row x.arg).width ≡ x.width
  pub constant : IfSome x.constant (λ c. operand row x.arg ≡ c)

abbrev pub AreRead : List BitVector → Operands → Type 0
AreRead row Empty = Unit {0}
AreRead row (Single x) = IsRead row x
AreRead row (Pair x y) = IsRead row x × IsRead row y
AreRead row (Triple x y z) = IsRead row x × IsRead row y × IsRead row z

-- the word of the line is that of what becomes of it
abbrev pub Gives : Outcome → List BitVector → BitVector → Type 0
Gives Stays row word = Unit {0}
Gives (Constant c) row word = word ≡ c
Gives (Argument a) row word = word ≡ operand row a

-- a fact of one of the operands
abbrev pub HasOperand : Operands → (Operand → Type 0) → Type 0
HasOperand Empty P = ⊥
HasOperand (Single x) P = P x
HasOperand (Pair x y) P = P x ⊎ P y
HasOperand (Triple x y z) P = P x ⊎ (P y ⊎ P z)

abbrev pub GivesWidthOfOne : LineOp → ℕ → ℕ → Type 0
GivesWidthOfOne (Unary u) v w = unary_width u v ≡ w
GivesWidthOfOne (Slice high low) v w = high - low + 1 ≡ w
GivesWidthOfOne (Uext n) v w = v + n ≡ w
GivesWidthOfOne (Sext n) v w = v + n ≡ w
GivesWidthOfOne o v w = Unit {0}

abbrev pub GivesWidthOfTwo : LineOp → ℕ → ℕ → ℕ → Type 0
GivesWidthOfTwo (Binary o) u v w = binary_width o u v ≡ w
GivesWidthOfTwo o u v w = Unit {0}

-- an operator line on these operands has a word of this width
abbrev pub GivesWidth : LineOp → Operands → ℕ → Type 0
GivesWidth o Empty w = Unit {0}
GivesWidth o (Single x) w = GivesWidthOfOne o x.width w
GivesWidth o (Pair x y) w = GivesWidthOfTwo o x.width y.width w
GivesWidth o (Triple c x y) w = x.width ≡ w

-- a constant is a word of this width, and an argument is the line of an operand of this width
abbrev pub OutcomeFits : Outcome → Operands → ℕ → Type 0
OutcomeFits Stays xs w = Unit {0}
OutcomeFits (Constant c) xs w = IsWord c × (c.width ≡ w)
OutcomeFits (Argument a) xs w = HasOperand xs (λ x. (a.line ≡ x.arg.line) × (x.width ≡ w))
