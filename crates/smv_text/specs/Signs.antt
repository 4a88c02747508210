-- How signs are spelled (NuSMV 2.6 User Manual, sections 2.2 and 2.3).
use Rattle.std.specs.Prelude.{ℕ, Bool, true, not, ◌&&◌, List, [], ◌∷◌, map, drop, codes}
use Rattle.smv_text.specs.declared.token.Sign.{Sign}
use Rattle.smv_text.specs.declared.token.Sign.TheVariants as sign
use Rattle.text_core.specs.Bytes.{heads}

-- the spelling of a sign
abbrev pub sign_bytes : Sign → List ℕ
sign_bytes sign.Open = codes "("
sign_bytes sign.Close = codes ")"
sign_bytes sign.OpenBrace = codes "{"
sign_bytes sign.CloseBrace = codes "}"
sign_bytes sign.OpenBracket = codes "["
sign_bytes sign.CloseBracket = codes "]"
sign_bytes sign.Comma = codes ","
sign_bytes sign.Semicolon = codes ";"
sign_bytes sign.Colon = codes ":"
sign_bytes sign.Dot = codes "."
sign_bytes sign.Range = codes ".."
sign_bytes sign.Assign = codes ":="
sign_bytes sign.Equal = codes "="
sign_bytes sign.Unequal = codes "!="
sign_bytes sign.Less = codes "<"
sign_bytes sign.Greater = codes ">"
sign_bytes sign.LessEqual = codes "<="
sign_bytes sign.GreaterEqual = codes ">="
sign_bytes sign.Not = codes "!"
sign_bytes sign.And = codes "&"
sign_bytes sign.Or = codes "|"
sign_bytes sign.Plus = codes "+"
sign_bytes sign.Minus = codes "-"
sign_bytes sign.Times = codes "*"
sign_bytes sign.Divide = codes "/"
sign_bytes sign.ShiftLeft = codes "<<"
sign_bytes sign.ShiftRight = codes ">>"
sign_bytes sign.Concat = codes "::"
sign_bytes sign.Question = codes "?"
sign_bytes sign.Implies = codes "->"
sign_bytes sign.Iff = codes "<->"

abbrev pub all_signs : List Sign
all_signs =
    sign.Open ∷ sign.Close ∷ sign.OpenBrace ∷ sign.CloseBrace ∷ sign.OpenBracket ∷ sign.CloseBracket ∷ sign.Comma ∷ sign.Semicolon ∷ sign.Colon ∷ sign.Dot
    ∷ sign.Range ∷ sign.Assign ∷ sign.Equal ∷ sign.Unequal ∷ sign.Less ∷ sign.Greater ∷ sign.LessEqual ∷ sign.GreaterEqual ∷ sign.Not ∷ sign.And ∷ sign.Or
    ∷ sign.Plus ∷ sign.Minus ∷ sign.Times ∷ sign.Divide ∷ sign.ShiftLeft ∷ sign.ShiftRight ∷ sign.Concat ∷ sign.Question ∷ sign.Implies ∷ sign.Iff ∷ []

-- all signs, by their spellings
unfoldable pub signs : List (List ℕ × Sign)
signs = map (λ s. (sign_bytes s, s)) all_signs

-- a sign by its number, by which signs are distinguished
abbrev pub sign_number : Sign → ℕ
sign_number sign.Open = 0
sign_number sign.Close = 1
sign_number sign.OpenBrace = 2
sign_number sign.CloseBrace = 3
sign_number sign.OpenBracket = 4
sign_number sign.CloseBracket = 5
sign_number sign.Comma = 6
sign_number sign.Semicolon = 7
sign_number sign.Colon = 8
sign_number sign.Dot = 9
sign_number sign.Range = 10
sign_number sign.Assign = 11
sign_number sign.Equal = 12
sign_number sign.Unequal = 13
sign_number sign.Less = 14
sign_number sign.Greater = 15
sign_number sign.LessEqual = 16
sign_number sign.GreaterEqual = 17
sign_number sign.Not = 18
sign_number sign.And = 19
sign_number sign.Or = 20
sign_number sign.Plus = 21
sign_number sign.Minus = 22
sign_number sign.Times = 23
sign_number sign.Divide = 24
sign_number sign.ShiftLeft = 25
sign_number sign.ShiftRight = 26
sign_number sign.Concat = 27
sign_number sign.Question = 28
sign_number sign.Implies = 29
sign_number sign.Iff = 30

-- A sign may appear before this text. A division doesn't stand directly before a comment: `/--` is kept for the comments of
-- several lines that NuSMV has, which aren't read. This rule is our own.
abbrev pub may_appear : Sign → List ℕ → Bool
may_appear sign.Divide rest = not (heads 45 rest && heads 45 (drop 1 rest))
may_appear s rest = true
