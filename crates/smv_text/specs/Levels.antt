-- The levels of the grammar of expressions, and the tokens that are operators (NuSMV 2.6 User Manual, 2.2). How tightly each
-- level binds is our own.
use Rattle.std.specs.Prelude.{ℕ, nat_eq, cond, Option, Some, None, List, [], ◌∷◌}
use Rattle.smv_text.specs.declared.token.Reserved.{Reserved}
use Rattle.smv_text.specs.declared.token.Reserved.TheVariants as word
use Rattle.smv_text.specs.declared.token.Sign.TheVariants as sign
use Rattle.smv_text.specs.declared.token.TokenKind.{TokenKind}
use Rattle.smv_text.specs.declared.token.TokenKind.TheVariants as kind
use Rattle.smv_text.specs.declared.operators.Prefix.{Prefix}
use Rattle.smv_text.specs.declared.operators.Prefix.TheVariants as prefixes
use Rattle.smv_text.specs.declared.operators.Infix.{Infix}
use Rattle.smv_text.specs.declared.operators.Infix.TheVariants as infixes
use Rattle.smv_text.specs.declared.operators.Function.{Function}
use Rattle.smv_text.specs.declared.operators.Function.TheVariants as functions
use Rattle.smv_text.specs.declared.level.OperatorClass.{OperatorClass}
use Rattle.smv_text.specs.declared.level.OperatorClass.TheVariants as classes
use Rattle.smv_text.specs.declared.level.Level.{Level}
use Rattle.smv_text.specs.declared.level.Level.TheVariants.{Chain, Choice, Range, Before, Selection}
use Rattle.smv_text.specs.Signs.{sign_bytes}
use Rattle.smv_text.specs.Keywords.{word_bytes}

-- all levels, from the loosest to the tightest
abbrev pub all_levels : List Level
all_levels =
    Chain classes.Implications ∷ Chain classes.Equivalences ∷ Choice ∷ Chain classes.Disjunctions ∷ Chain classes.Conjunctions
    ∷ Chain classes.Comparisons ∷ Chain classes.Memberships ∷ Chain classes.Unions ∷ Range ∷ Chain classes.Shifts ∷ Chain classes.Sums
    ∷ Chain classes.Products ∷ Before prefixes.Minus ∷ Chain classes.Concatenations ∷ Before prefixes.Not ∷ Selection ∷ []

-- the operator of a class that a token is
abbrev pub infix_of : OperatorClass → TokenKind → Option Infix
infix_of classes.Implications (kind.Sign sign.Implies) = Some infixes.Implies
infix_of classes.Equivalences (kind.Sign sign.Iff) = Some infixes.Iff
infix_of classes.Disjunctions (kind.Sign sign.Or) = Some infixes.Or
infix_of classes.Disjunctions (kind.Reserved word.Xor) = Some infixes.Xor
infix_of classes.Disjunctions (kind.Reserved word.Xnor) = Some infixes.Xnor
infix_of classes.Conjunctions (kind.Sign sign.And) = Some infixes.And
infix_of classes.Comparisons (kind.Sign sign.Equal) = Some infixes.Equal
infix_of classes.Comparisons (kind.Sign sign.Unequal) = Some infixes.Unequal
infix_of classes.Comparisons (kind.Sign sign.Less) = Some infixes.Less
infix_of classes.Comparisons (kind.Sign sign.Greater) = Some infixes.Greater
infix_of classes.Comparisons (kind.Sign sign.LessEqual) = Some infixes.LessEq
infix_of classes.Comparisons (kind.Sign sign.GreaterEqual) = Some infixes.GreaterEq
infix_of classes.Memberships (kind.Reserved word.In) = Some infixes.Member
infix_of classes.Unions (kind.Reserved word.Union) = Some infixes.Union
infix_of classes.Shifts (kind.Sign sign.ShiftLeft) = Some infixes.ShiftLeft
infix_of classes.Shifts (kind.Sign sign.ShiftRight) = Some infixes.ShiftRight
infix_of classes.Sums (kind.Sign sign.Plus) = Some infixes.Plus
infix_of classes.Sums (kind.Sign sign.Minus) = Some infixes.Minus
infix_of classes.Products (kind.Sign sign.Times) = Some infixes.Times
infix_of classes.Products (kind.Sign sign.Divide) = Some infixes.Divide
infix_of classes.Products (kind.Reserved word.Mod) = Some infixes.Mod
infix_of classes.Concatenations (kind.Sign sign.Concat) = Some infixes.Concat
infix_of _ _ = None

-- the operator that a token is, of whatever class
abbrev pub infix_at : TokenKind → Option Infix
infix_at (kind.Sign sign.Implies) = Some infixes.Implies
infix_at (kind.Sign sign.Iff) = Some infixes.Iff
infix_at (kind.Sign sign.Or) = Some infixes.Or
infix_at (kind.Reserved word.Xor) = Some infixes.Xor
infix_at (kind.Reserved word.Xnor) = Some infixes.Xnor
infix_at (kind.Sign sign.And) = Some infixes.And
infix_at (kind.Sign sign.Equal) = Some infixes.Equal
infix_at (kind.Sign sign.Unequal) = Some infixes.Unequal
infix_at (kind.Sign sign.Less) = Some infixes.Less
infix_at (kind.Sign sign.Greater) = Some infixes.Greater
infix_at (kind.Sign sign.LessEqual) = Some infixes.LessEq
infix_at (kind.Sign sign.GreaterEqual) = Some infixes.GreaterEq
infix_at (kind.Reserved word.In) = Some infixes.Member
infix_at (kind.Reserved word.Union) = Some infixes.Union
infix_at (kind.Sign sign.ShiftLeft) = Some infixes.ShiftLeft
infix_at (kind.Sign sign.ShiftRight) = Some infixes.ShiftRight
infix_at (kind.Sign sign.Plus) = Some infixes.Plus
infix_at (kind.Sign sign.Minus) = Some infixes.Minus
infix_at (kind.Sign sign.Times) = Some infixes.Times
infix_at (kind.Sign sign.Divide) = Some infixes.Divide
infix_at (kind.Reserved word.Mod) = Some infixes.Mod
infix_at (kind.Sign sign.Concat) = Some infixes.Concat
infix_at _ = None

-- the class of an operator
abbrev pub class_of : Infix → OperatorClass
class_of infixes.Implies = classes.Implications
class_of infixes.Iff = classes.Equivalences
class_of infixes.Or = classes.Disjunctions
class_of infixes.Xor = classes.Disjunctions
class_of infixes.Xnor = classes.Disjunctions
class_of infixes.And = classes.Conjunctions
class_of infixes.Equal = classes.Comparisons
class_of infixes.Unequal = classes.Comparisons
class_of infixes.Less = classes.Comparisons
class_of infixes.Greater = classes.Comparisons
class_of infixes.LessEq = classes.Comparisons
class_of infixes.GreaterEq = classes.Comparisons
class_of infixes.Member = classes.Memberships
class_of infixes.Union = classes.Unions
class_of infixes.ShiftLeft = classes.Shifts
class_of infixes.ShiftRight = classes.Shifts
class_of infixes.Plus = classes.Sums
class_of infixes.Minus = classes.Sums
class_of infixes.Times = classes.Products
class_of infixes.Divide = classes.Products
class_of infixes.Mod = classes.Products
class_of infixes.Concat = classes.Concatenations

-- a class by its number, by which classes are distinguished
abbrev pub class_number : OperatorClass → ℕ
class_number classes.Implications = 0
class_number classes.Equivalences = 1
class_number classes.Disjunctions = 2
class_number classes.Conjunctions = 3
class_number classes.Comparisons = 4
class_number classes.Memberships = 5
class_number classes.Unions = 6
class_number classes.Shifts = 7
class_number classes.Sums = 8
class_number classes.Products = 9
class_number classes.Concatenations = 10

-- the operator, where it is of this class
abbrev pub of_class : OperatorClass → Option Infix → Option Infix
of_class j None = None
of_class j (Some op) = cond (nat_eq (class_number (class_of op)) (class_number j)) (Some op) None

-- the token of an operator
abbrev pub infix_kind : Infix → TokenKind
infix_kind infixes.Implies = kind.Sign sign.Implies
infix_kind infixes.Iff = kind.Sign sign.Iff
infix_kind infixes.Or = kind.Sign sign.Or
infix_kind infixes.Xor = kind.Reserved word.Xor
infix_kind infixes.Xnor = kind.Reserved word.Xnor
infix_kind infixes.And = kind.Sign sign.And
infix_kind infixes.Equal = kind.Sign sign.Equal
infix_kind infixes.Unequal = kind.Sign sign.Unequal
infix_kind infixes.Less = kind.Sign sign.Less
infix_kind infixes.Greater = kind.Sign sign.Greater
infix_kind infixes.LessEq = kind.Sign sign.LessEqual
infix_kind infixes.GreaterEq = kind.Sign sign.GreaterEqual
infix_kind infixes.Member = kind.Reserved word.In
infix_kind infixes.Union = kind.Reserved word.Union
infix_kind infixes.ShiftLeft = kind.Sign sign.ShiftLeft
infix_kind infixes.ShiftRight = kind.Sign sign.ShiftRight
infix_kind infixes.Plus = kind.Sign sign.Plus
infix_kind infixes.Minus = kind.Sign sign.Minus
infix_kind infixes.Times = kind.Sign sign.Times
infix_kind infixes.Divide = kind.Sign sign.Divide
infix_kind infixes.Mod = kind.Reserved word.Mod
infix_kind infixes.Concat = kind.Sign sign.Concat

-- the spelling of a token that is a word or a sign
abbrev pub kind_bytes : TokenKind → List ℕ
kind_bytes (kind.Reserved word) = word_bytes word
kind_bytes (kind.Sign sign) = sign_bytes sign
kind_bytes _ = []

-- the token of a prefix
abbrev pub prefix_kind : Prefix → TokenKind
prefix_kind prefixes.Not = kind.Sign sign.Not
prefix_kind prefixes.Minus = kind.Sign sign.Minus

-- the function that a token names
abbrev pub function_at : TokenKind → Option Function
function_at (kind.Reserved word.Bool) = Some functions.Bool
function_at (kind.Reserved word.Word1) = Some functions.Word1
function_at (kind.Reserved word.Toint) = Some functions.Toint
function_at (kind.Reserved word.Uwconst) = Some functions.Uwconst
function_at (kind.Reserved word.Extend) = Some functions.Extend
function_at (kind.Reserved word.Resize) = Some functions.Resize
function_at (kind.Reserved word.Count) = Some functions.Count
function_at (kind.Reserved word.Max) = Some functions.Max
function_at (kind.Reserved word.Min) = Some functions.Min
function_at (kind.Reserved word.Abs) = Some functions.Abs
function_at _ = None

-- the word of a function
abbrev pub function_word : Function → Reserved
function_word functions.Bool = word.Bool
function_word functions.Word1 = word.Word1
function_word functions.Toint = word.Toint
function_word functions.Uwconst = word.Uwconst
function_word functions.Extend = word.Extend
function_word functions.Resize = word.Resize
function_word functions.Count = word.Count
function_word functions.Max = word.Max
function_word functions.Min = word.Min
function_word functions.Abs = word.Abs
