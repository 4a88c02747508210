-- Which tokens a printed form can spell, so that they are read again.
use Rattle.std.specs.Prelude.{◌≡◌, ◌⊎◌, ◌<◌, ◌≤◌, ◌^◌, ℕ, Some, List, [], ◌∷◌, length}
use Rattle.word_core.specs.Words.{IsWord}
use Rattle.smv_text.specs.declared.token.TokenKind.{TokenKind}
use Rattle.smv_text.specs.declared.token.TokenKind.TheVariants as kind
use Rattle.smv_text.specs.Lexing.{opened_by, most_brackets}
use Rattle.smv_text.specs.Words.{kind_of}
use Rattle.smv_lex.specs.Reading.{lexeme_length}

-- an identifier is read as itself
pub record IsIdentifier (n : List ℕ) : Type 0 where
  pub whole : lexeme_length n ≡ length n
  pub read : kind_of n ≡ Some (kind.Ident n)

-- a token that some text has
abbrev pub IsPrintable : TokenKind → Type 0
IsPrintable (kind.Reserved w) = Unit {0}
IsPrintable kind.Refused = ⊥
IsPrintable (kind.Ident n) = IsIdentifier n
IsPrintable (kind.Number n) = n < 2 ^ 62
IsPrintable (kind.Literal w) = IsWord w
IsPrintable (kind.Sign s) = Unit {0}

-- So are all of these, and where n brackets stand open before them, not too many stand open behind each.
abbrev pub ArePrintable : ℕ → List TokenKind → Type 0
ArePrintable n [] = Unit {0}
ArePrintable n (k ∷ ks) = IsPrintable k × (opened_by n k ≤ most_brackets) × ArePrintable (opened_by n k) ks

-- a token of some text: it can be printed, or is a word of a part that isn't supported
abbrev pub CanBePrinted : TokenKind → Type 0
CanBePrinted k = (k ≡ kind.Refused) ⊎ IsPrintable k

abbrev pub CanAllBePrinted : ℕ → List TokenKind → Type 0
CanAllBePrinted n [] = Unit {0}
CanAllBePrinted n (k ∷ ks) = CanBePrinted k × (opened_by n k ≤ most_brackets) × CanAllBePrinted (opened_by n k) ks
