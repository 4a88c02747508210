-- What one line of a BTOR2 text says by itself (BTOR2, CAV 2018, figure 1), with ids for its sort and its operands.
use Rattle.std.specs.Prelude.{◌≡◌, ◌==◌, ℕ, ◌<◌, ◌≤◌, ◌⊎◌, Bool, true, false, List, [], ◌∷◌, Option, Some, None, is_some, option_map, slice_get, IfSome, if◌then◌else◌, codes}
use Rattle.word_core.specs.declared.kinds.Unary.{Unary}
use Rattle.word_core.specs.declared.kinds.Unary.TheVariants.{Not, Inc, Dec, Neg, RedAnd, RedOr, RedXor}
use Rattle.word_core.specs.declared.kinds.Binary.{Binary}
use Rattle.word_core.specs.declared.kinds.Binary.TheVariants.{Iff, Implies, Eq, Neq, Sgt, Sgte, Slt, Slte, Ugt, Ugte, Ult, Ulte, And, Nand, Nor, Or, Xnor, Xor, Sll, Srl, Sra, Add, Sub, Mul, Udiv, Sdiv, Urem, Srem, Smod, Concat}
use Rattle.std.specs.List.{list_any}
use Rattle.std.specs.Str.{bytes_eq}
use Rattle.word_core.specs.Digits.{digits_value}
use Rattle.btor_tree.specs.Fits.{IsSymbol, greatest_id}
use Rattle.btor_tree.specs.Parts.{Parts, numeral}

-- an operand: a line by its id, or the bitwise not of its word
pub record Operand : Type 0 where
  pub id : ℕ
  pub negated : Bool

-- the lines of a sort alone
pub data Nullary : Type 0 where
  input : Nullary
  state : Nullary
  one : Nullary
  zero : Nullary
  ones : Nullary

-- the lines of a sort and digits
pub data Base : Type 0 where
  in_binary : Base
  in_decimal : Base
  in_hex : Base

-- the lines that give a state its value
pub data Binding : Type 0 where
  init : Binding
  next : Binding

-- the lines of one operand and a number of new bits
pub data Extension : Type 0 where
  uext : Extension
  sext : Extension

-- the lines of one operand and no sort
pub data Property : Type 0 where
  bad : Property
  constraint : Property
  output : Property

-- the word of a line, its second part
pub data Word : Type 0 where
  sort_word : Word
  nullary_word : Nullary → Word
  base_word : Base → Word
  binding_word : Binding → Word
  property_word : Property → Word
  unary_word : Unary → Word
  binary_word : Binary → Word
  ite_word : Word
  slice_word : Word
  extension_word : Extension → Word

-- the words as they are written
abbrev pub nullary_text : Nullary → List ℕ
nullary_text input = codes "input"
nullary_text state = codes "state"
nullary_text one = codes "one"
nullary_text zero = codes "zero"
nullary_text ones = codes "ones"

abbrev pub base_text : Base → List ℕ
base_text in_binary = codes "const"
base_text in_decimal = codes "constd"
base_text in_hex = codes "consth"

abbrev pub extension_text : Extension → List ℕ
extension_text uext = codes "uext"
extension_text sext = codes "sext"

abbrev pub binding_text : Binding → List ℕ
binding_text init = codes "init"
binding_text next = codes "next"

abbrev pub property_text : Property → List ℕ
property_text bad = codes "bad"
property_text constraint = codes "constraint"
property_text output = codes "output"

abbrev pub unary_text : Unary → List ℕ
unary_text Not = codes "not"
unary_text Inc = codes "inc"
unary_text Dec = codes "dec"
unary_text Neg = codes "neg"
unary_text RedAnd = codes "redand"
unary_text RedOr = codes "redor"
unary_text RedXor = codes "redxor"

abbrev pub binary_text : Binary → List ℕ
binary_text Iff = codes "iff"
binary_text Implies = codes "implies"
binary_text Eq = codes "eq"
binary_text Neq = codes "neq"
binary_text Sgt = codes "sgt"
binary_text Sgte = codes "sgte"
binary_text Slt = codes "slt"
binary_text Slte = codes "slte"
binary_text Ugt = codes "ugt"
binary_text Ugte = codes "ugte"
binary_text Ult = codes "ult"
binary_text Ulte = codes "ulte"
binary_text And = codes "and"
binary_text Nand = codes "nand"
binary_text Nor = codes "nor"
binary_text Or = codes "or"
binary_text Xnor = codes "xnor"
binary_text Xor = codes "xor"
binary_text Sll = codes "sll"
binary_text Srl = codes "srl"
binary_text Sra = codes "sra"
binary_text Add = codes "add"
binary_text Sub = codes "sub"
binary_text Mul = codes "mul"
binary_text Udiv = codes "udiv"
binary_text Sdiv = codes "sdiv"
binary_text Urem = codes "urem"
binary_text Srem = codes "srem"
binary_text Smod = codes "smod"
binary_text Concat = codes "concat"

-- the operators on one word
abbrev pub unaries : List Unary
unaries = Not ∷ Inc ∷ Dec ∷ Neg ∷ RedAnd ∷ RedOr ∷ RedXor ∷ []

-- the place of an operator among these
abbrev pub unary_number : Unary → ℕ
unary_number Not = 0
unary_number Inc = 1
unary_number Dec = 2
unary_number Neg = 3
unary_number RedAnd = 4
unary_number RedOr = 5
unary_number RedXor = 6

-- the operators on two words
abbrev pub binaries : List Binary
binaries = Iff ∷ Implies ∷ Eq ∷ Neq ∷ Sgt ∷ Sgte ∷ Slt ∷ Slte ∷ Ugt ∷ Ugte ∷ Ult ∷ Ulte ∷ And ∷ Nand ∷ Nor ∷ Or ∷ Xnor ∷ Xor ∷ Sll ∷ Srl ∷ Sra ∷ Add ∷ Sub ∷ Mul ∷ Udiv ∷ Sdiv ∷ Urem ∷ Srem ∷ Smod ∷ Concat ∷ []

-- the place of an operator among these
abbrev pub binary_number : Binary → ℕ
binary_number Iff = 0
binary_number Implies = 1
binary_number Eq = 2
binary_number Neq = 3
binary_number Sgt = 4
binary_number Sgte = 5
binary_number Slt = 6
binary_number Slte = 7
binary_number Ugt = 8
binary_number Ugte = 9
binary_number Ult = 10
binary_number Ulte = 11
binary_number And = 12
binary_number Nand = 13
binary_number Nor = 14
binary_number Or = 15
binary_number Xnor = 16
binary_number Xor = 17
binary_number Sll = 18
binary_number Srl = 19
binary_number Sra = 20
binary_number Add = 21
binary_number Sub = 22
binary_number Mul = 23
binary_number Udiv = 24
binary_number Sdiv = 25
binary_number Urem = 26
binary_number Srem = 27
binary_number Smod = 28
binary_number Concat = 29

-- the word as it is written
abbrev pub word_text : Word → List ℕ
word_text sort_word = codes "sort"
word_text (nullary_word k) = nullary_text k
word_text (base_word k) = base_text k
word_text (binding_word k) = binding_text k
word_text (property_word k) = property_text k
word_text (unary_word op) = unary_text op
word_text (binary_word op) = binary_text op
word_text ite_word = codes "ite"
word_text slice_word = codes "slice"
word_text (extension_word k) = extension_text k

-- the words that are left out
abbrev pub unsupported_words : List (List ℕ)
unsupported_words = codes "fair" ∷ codes "justice" ∷ codes "rol" ∷ codes "ror" ∷ codes "read" ∷ codes "write" ∷ codes "saddo" ∷ codes "uaddo" ∷ codes "smulo" ∷ codes "umulo" ∷ codes "ssubo" ∷ codes "usubo" ∷ codes "sdivo" ∷ []

abbrev pub is_unsupported : List ℕ → Bool
is_unsupported text = list_any (λ w. bytes_eq text w) unsupported_words

-- a word that is left out, or `sort array`, before whatever comes after
abbrev pub StartsUnsupported : Parts → Type 0
StartsUnsupported [] = ⊥
StartsUnsupported (w ∷ args) = (is_unsupported w ≡ true) ⊎ ((w ≡ codes "sort") × (slice_get args 0 ≡ Some (codes "array")))

-- does the first byte say `-`?
abbrev pub is_negative : List ℕ → Bool
is_negative [] = false
is_negative (b ∷ bs) = b == 45

-- the digits of a number, behind `-` where there is one
abbrev pub magnitude_of : List ℕ → List ℕ
magnitude_of [] = []
magnitude_of (b ∷ bs) = if b == 45 then bs else (b ∷ bs)

-- are these the digits of a constant? A decimal one may have a `-` before them.
abbrev pub is_literal : Base → List ℕ → Bool
is_literal in_binary text = is_some (digits_value 2 text)
is_literal in_decimal text = is_some (digits_value 10 (magnitude_of text))
is_literal in_hex text = is_some (digits_value 16 text)

-- what a line says behind its id: a width; or the ids of a sort and of a state, operands, digits and numbers; or a word that is
-- left out
pub data Content : Type 0 where
  sort_content : ℕ → Content
  nullary_content : Nullary → ℕ → Content
  constant_content : Base → ℕ → List ℕ → Content
  binding_content : Binding → ℕ → ℕ → Operand → Content
  property_content : Property → Operand → Content
  unary_content : Unary → ℕ → Operand → Content
  binary_content : Binary → ℕ → Operand → Operand → Content
  ite_content : ℕ → Operand → Operand → Operand → Content
  slice_content : ℕ → Operand → ℕ → ℕ → Content
  extension_content : Extension → ℕ → Operand → ℕ → Content
  unsupported_content : Content

-- what a line says by itself
pub record Shape : Type 0 where
  pub id : ℕ
  pub content : Content
  pub symbol : Option (List ℕ)

-- a numeral, behind `-` where the word is negated
abbrev pub operand_of : List ℕ → Option Operand
operand_of text = option_map (λ n. record { id = n; negated = is_negative text }) (numeral (magnitude_of text))

-- a line may end in a symbol
abbrev pub symbol_parts : Option (List ℕ) → Parts
symbol_parts None = []
symbol_parts (Some s) = s ∷ []

-- Parts say this content, with the tail behind it. A sort, and the state of init and next, stand without `-`.
abbrev pub SpellsContent : Content → Parts → Parts → Type 0
SpellsContent (sort_content w) tail ps = (x : List ℕ) × (ps ≡ codes "sort" ∷ (codes "bitvec" ∷ (x ∷ tail))) × (numeral x ≡ Some w)
SpellsContent (nullary_content k s) tail ps = (x : List ℕ) × (ps ≡ nullary_text k ∷ (x ∷ tail)) × (numeral x ≡ Some s)
SpellsContent (constant_content k s digits) tail ps =
    (x : List ℕ) × (ps ≡ base_text k ∷ (x ∷ (digits ∷ tail))) × (numeral x ≡ Some s) × (is_literal k digits ≡ true)
SpellsContent (binding_content k s x v) tail ps =
    (a : List ℕ) × (b : List ℕ) × (c : List ℕ) × (ps ≡ binding_text k ∷ (a ∷ (b ∷ (c ∷ tail)))) × (numeral a ≡ Some s) × (numeral b ≡ Some x) × (operand_of c ≡ Some v)
SpellsContent (property_content k x) tail ps = (a : List ℕ) × (ps ≡ property_text k ∷ (a ∷ tail)) × (operand_of a ≡ Some x)
SpellsContent (unary_content op s x) tail ps =
    (a : List ℕ) × (b : List ℕ) × (ps ≡ unary_text op ∷ (a ∷ (b ∷ tail))) × (numeral a ≡ Some s) × (operand_of b ≡ Some x)
SpellsContent (binary_content op s x y) tail ps =
    (a : List ℕ) × (b : List ℕ) × (c : List ℕ) × (ps ≡ binary_text op ∷ (a ∷ (b ∷ (c ∷ tail)))) × (numeral a ≡ Some s) × (operand_of b ≡ Some x) × (operand_of c ≡ Some y)
SpellsContent (ite_content s x y z) tail ps =
    (a : List ℕ) × (b : List ℕ) × (c : List ℕ) × (d : List ℕ) × (ps ≡ codes "ite" ∷ (a ∷ (b ∷ (c ∷ (d ∷ tail))))) × (numeral a ≡ Some s) × (operand_of b ≡ Some x) × (operand_of c ≡ Some y) × (operand_of d ≡ Some z)
SpellsContent (slice_content s x high low) tail ps =
    (a : List ℕ) × (b : List ℕ) × (c : List ℕ) × (d : List ℕ) × (ps ≡ codes "slice" ∷ (a ∷ (b ∷ (c ∷ (d ∷ tail))))) × (numeral a ≡ Some s) × (operand_of b ≡ Some x) × (numeral c ≡ Some high) × (numeral d ≡ Some low)
SpellsContent (extension_content k s x n) tail ps =
    (a : List ℕ) × (b : List ℕ) × (c : List ℕ) × (ps ≡ extension_text k ∷ (a ∷ (b ∷ (c ∷ tail)))) × (numeral a ≡ Some s) × (operand_of b ≡ Some x) × (numeral c ≡ Some n)
SpellsContent unsupported_content tail ps = (tail ≡ []) × StartsUnsupported ps

-- The parts of a line spell a shape: `id word arguments [symbol]`, with an id from 1 to 2^31 - 1.
pub record Spells (sh : Shape) (ps : Parts) : Type 0 where
  pub id_part : List ℕ
  pub rest : Parts
  pub splits : ps ≡ id_part ∷ rest
  pub id_is : numeral id_part ≡ Some sh.id
  pub first : 0 < sh.id
  pub small : sh.id ≤ greatest_id
  pub content : SpellsContent sh.content (symbol_parts sh.symbol) rest
  pub symbol : IfSome sh.symbol IsSymbol
