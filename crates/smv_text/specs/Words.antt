-- How tokens are spelled (NuSMV 2.6 User Manual, chapter 2, before section 2.1: comments, identifiers, reserved keywords).
use Rattle.std.specs.Prelude.{◌≡◌, ◌==◌, ℕ, Bool, not, ◌&&◌, ◌||◌, IsTrue, if◌then◌else◌, Option, Some, None, option_map, List, [], ◌∷◌, ◌++◌, ◌⊎◌}
use Rattle.std.specs.Option.{option_or}
use Rattle.smv_text.specs.declared.token.Reserved.{Reserved}
use Rattle.smv_text.specs.declared.token.Sign.{Sign}
use Rattle.smv_text.specs.declared.token.TokenKind.{TokenKind}
use Rattle.smv_text.specs.declared.token.TokenKind.TheVariants as kind
use Rattle.text_core.specs.Bytes.{is_digit, heads}
use Rattle.smv_text.specs.Bytes.{is_letter, is_blank, AllPass, look_up}
use Rattle.smv_text.specs.Signs.{sign_bytes, signs, may_appear}
use Rattle.smv_text.specs.Keywords.{keywords}
use Rattle.smv_text.specs.Numbers.{number_of, literal_of}

-- Blanks and comments. A comment doesn't go on behind the end of its line.
pub data IsGap : List ℕ → Type 0 where
  no_gap : IsGap []
  blank : {bs : List ℕ} (b : ℕ) → IsTrue (is_blank b) → IsGap bs → IsGap (b ∷ bs)
  comment : (free : List ℕ) {bs : List ℕ} → AllPass (λ b rest. not (b == 10)) free [] → IsGap bs → IsGap (45 ∷ (45 ∷ (free ++ bs)))

-- A word goes on with letters, digits, the dollar sign, the number sign and `-`. A `-` directly before `>` doesn't belong to
-- it: there an implication begins. This rule is our own.
abbrev pub in_word : ℕ → List ℕ → Bool
in_word b rest = (is_letter b || (is_digit b || ((b == 36) || (b == 35)))) || ((b == 45) && not (heads 62 rest))

-- A number or a word literal goes on with letters, among them `_`, and digits.
abbrev pub in_run : ℕ → List ℕ → Bool
in_run b rest = is_letter b || is_digit b

-- A word, which begins with a letter, a run that begins with a digit, or a sign.
abbrev pub IsLexeme : List ℕ → List ℕ → Type 0
IsLexeme [] rest = ⊥
IsLexeme (b ∷ bs) rest =
    (IsTrue (is_letter b) × AllPass in_word bs rest)
    ⊎ ((IsTrue (is_digit b) × AllPass in_run bs rest) ⊎ ((s : Sign) × (b ∷ bs ≡ sign_bytes s) × IsTrue (may_appear s rest)))

-- the kind of a word: reserved, of a part that isn't supported, or an identifier
abbrev pub keyword_kind : List ℕ → Option (Option Reserved) → TokenKind
keyword_kind bs None = kind.Ident bs
keyword_kind bs (Some None) = kind.Refused
keyword_kind bs (Some (Some r)) = kind.Reserved r

abbrev pub word_kind : List ℕ → TokenKind
word_kind bs = keyword_kind bs (look_up bs keywords)

-- the kind of a run: a number, or else a word literal
abbrev pub run_kind : List ℕ → Option TokenKind
run_kind bs = option_or (option_map kind.Number (number_of bs)) (option_map kind.Literal (literal_of bs))

-- The kind of a lexeme. A run that is no number and no word literal has none.
abbrev pub kind_of : List ℕ → Option TokenKind
kind_of [] = None
kind_of (b ∷ bs) =
    if is_letter b then Some (word_kind (b ∷ bs)) else (if is_digit b then run_kind (b ∷ bs) else option_map kind.Sign (look_up (b ∷ bs) signs))
