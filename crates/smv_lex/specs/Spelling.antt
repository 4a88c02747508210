-- How tokens are spelled (NuSMV 2.6 User Manual, chapter 2, before section 2.1, and 2.2).
use Rattle.std.specs.Prelude.{ℕ, Bool, true, false, List, [], ◌∷◌, ◌++◌, codes, decimal}
use Rattle.std.specs.List.{flat_map}
use Rattle.word_core.specs.Words.{BitVector}
use Rattle.smv_text.specs.declared.token.TokenKind.{TokenKind}
use Rattle.smv_text.specs.declared.token.TokenKind.TheVariants as kind
use Rattle.smv_text.specs.Signs.{sign_bytes}
use Rattle.smv_text.specs.Keywords.{word_bytes}

-- a literal: `0ud`, the width, `_`, and the decimal digits
abbrev pub literal_bytes : BitVector → List ℕ
literal_bytes w = codes "0ud" ++ (decimal w.width ++ 95 ∷ decimal w.bits)

-- how a token is printed
unfoldable pub spelled : TokenKind → List ℕ
spelled (kind.Reserved word) = word_bytes word
spelled kind.Refused = []
spelled (kind.Ident name) = name
spelled (kind.Number n) = decimal n
spelled (kind.Literal w) = literal_bytes w
spelled (kind.Sign sign) = sign_bytes sign

-- each token behind a single blank
abbrev pub spaced : List TokenKind → List ℕ
spaced = flat_map (λ k. 32 ∷ spelled k)

-- a single blank between two tokens
abbrev pub joined : List TokenKind → List ℕ
joined [] = []
joined (k ∷ ks) = spelled k ++ spaced ks

-- the same, with a blank before the first where it is behind others
abbrev pub written : Bool → List TokenKind → List ℕ
written true ks = spaced ks
written false ks = joined ks
