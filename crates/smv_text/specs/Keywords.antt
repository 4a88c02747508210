-- Words that are no identifiers: the reserved words, and those of parts of the language that aren't supported (NuSMV 2.6 User
-- Manual, chapter 2, before section 2.1, reserved keywords; the names of operators of temporal logic in section 2.4).
use Rattle.std.specs.Prelude.{◌==◌, ℕ, if◌then◌else◌, Option, Some, None, List, [], ◌∷◌, ◌++◌, map, codes}
use Rattle.smv_text.specs.declared.token.Reserved.{Reserved}
use Rattle.smv_text.specs.declared.token.Reserved.TheVariants as word

-- the spelling of a reserved word
abbrev pub word_bytes : Reserved → List ℕ
word_bytes word.Module = codes "MODULE"
word_bytes word.Var = codes "VAR"
word_bytes word.Ivar = codes "IVAR"
word_bytes word.Frozenvar = codes "FROZENVAR"
word_bytes word.Define = codes "DEFINE"
word_bytes word.Constants = codes "CONSTANTS"
word_bytes word.Assign = codes "ASSIGN"
word_bytes word.Init = codes "INIT"
word_bytes word.Trans = codes "TRANS"
word_bytes word.Invar = codes "INVAR"
word_bytes word.Invarspec = codes "INVARSPEC"
word_bytes word.Name = codes "NAME"
word_bytes word.True = codes "TRUE"
word_bytes word.False = codes "FALSE"
word_bytes word.Boolean = codes "boolean"
word_bytes word.Word = codes "word"
word_bytes word.Unsigned = codes "unsigned"
word_bytes word.Case = codes "case"
word_bytes word.Esac = codes "esac"
word_bytes word.Next = codes "next"
word_bytes word.Initial = codes "init"
word_bytes word.Itself = codes "self"
word_bytes word.Mod = codes "mod"
word_bytes word.Union = codes "union"
word_bytes word.In = codes "in"
word_bytes word.Xor = codes "xor"
word_bytes word.Xnor = codes "xnor"
word_bytes word.Bool = codes "bool"
word_bytes word.Word1 = codes "word1"
word_bytes word.Toint = codes "toint"
word_bytes word.Uwconst = codes "uwconst"
word_bytes word.Extend = codes "extend"
word_bytes word.Resize = codes "resize"
word_bytes word.Count = codes "count"
word_bytes word.Max = codes "max"
word_bytes word.Min = codes "min"
word_bytes word.Abs = codes "abs"

abbrev pub all_reserved : List Reserved
all_reserved =
    word.Module ∷ word.Var ∷ word.Ivar ∷ word.Frozenvar ∷ word.Define ∷ word.Constants ∷ word.Assign ∷ word.Init ∷ word.Trans ∷ word.Invar ∷ word.Invarspec
    ∷ word.Name ∷ word.True ∷ word.False ∷ word.Boolean ∷ word.Word ∷ word.Unsigned ∷ word.Case ∷ word.Esac ∷ word.Next ∷ word.Initial ∷ word.Itself
    ∷ word.Mod ∷ word.Union ∷ word.In ∷ word.Xor ∷ word.Xnor ∷ word.Bool ∷ word.Word1 ∷ word.Toint ∷ word.Uwconst ∷ word.Extend ∷ word.Resize
    ∷ word.Count ∷ word.Max ∷ word.Min ∷ word.Abs ∷ []

-- a reserved word by its number, by which words are distinguished
abbrev pub word_number : Reserved → ℕ
word_number word.Module = 0
word_number word.Var = 1
word_number word.Ivar = 2
word_number word.Frozenvar = 3
word_number word.Define = 4
word_number word.Constants = 5
word_number word.Assign = 6
word_number word.Init = 7
word_number word.Trans = 8
word_number word.Invar = 9
word_number word.Invarspec = 10
word_number word.Name = 11
word_number word.True = 12
word_number word.False = 13
word_number word.Boolean = 14
word_number word.Word = 15
word_number word.Unsigned = 16
word_number word.Case = 17
word_number word.Esac = 18
word_number word.Next = 19
word_number word.Initial = 20
word_number word.Itself = 21
word_number word.Mod = 22
word_number word.Union = 23
word_number word.In = 24
word_number word.Xor = 25
word_number word.Xnor = 26
word_number word.Bool = 27
word_number word.Word1 = 28
word_number word.Toint = 29
word_number word.Uwconst = 30
word_number word.Extend = 31
word_number word.Resize = 32
word_number word.Count = 33
word_number word.Max = 34
word_number word.Min = 35
word_number word.Abs = 36

-- this byte before the first of these words
abbrev pub in_first : ℕ → List (List ℕ) → List (List ℕ)
in_first b [] = (b ∷ []) ∷ []
in_first b (w ∷ ws) = (b ∷ w) ∷ ws

-- the words of a line, which single blanks part
abbrev pub words_in : List ℕ → List (List ℕ)
words_in [] = [] ∷ []
words_in (b ∷ bs) = if b == 32 then [] ∷ words_in bs else in_first b (words_in bs)

abbrev pub unsupported_words : List (List ℕ)
unsupported_words =
    words_in (codes "SPEC CTLSPEC LTLSPEC PSLSPEC COMPUTE FAIRNESS JUSTICE COMPASSION ISA CONSTRAINT SIMPWFF CTLWFF LTLWFF")
    ++ words_in (codes "PSLWFF COMPWFF IN MIN MAX MDEFINE PRED PREDICATES MIRROR process array of integer real signed swconst sizeof")
    ++ words_in (codes "A E F G H O S T U V X Y Z AF AG AX EF EG EX ABF ABG EBF EBG BU")

-- all words that are no identifiers, and which reserved one each is, if it is supported
unfoldable pub keywords : List (List ℕ × Option Reserved)
keywords = map (λ r. (word_bytes r, Some r)) all_reserved ++ map (λ w. (w, None)) unsupported_words
