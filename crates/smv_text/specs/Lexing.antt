-- What a text lexes to, and how it is refused (NuSMV 2.6 User Manual, chapter 2, before section 2.1).
use Rattle.std.specs.Prelude.{◌≡◌, ◌≢◌, ℕ, suc, ◌-◌, ◌≤◌, ◌<◌, Some, None, List, [], ◌∷◌, ◌++◌, length, map, fold}
use Rattle.text_core.specs.declared.place.Place.{Place}
use Rattle.text_core.specs.declared.place.Kind.TheVariants.{S}
use Rattle.text_core.specs.declared.place.Refusal.{Refusal}
use Rattle.smv_text.specs.declared.token.Token.{Token}
use Rattle.smv_text.specs.declared.token.TokenKind.{TokenKind}
use Rattle.smv_text.specs.declared.token.TokenKind.TheVariants as kind
use Rattle.smv_text.specs.declared.token.Reserved.TheVariants as word
use Rattle.smv_text.specs.declared.token.Sign.TheVariants as sign
use Rattle.smv_text.specs.Bytes.{IsLongest}
use Rattle.text_core.specs.Places.{after, start}
use Rattle.smv_text.specs.Words.{IsGap, IsLexeme, kind_of}

-- a text's tokens, and the place of its end
pub record TokenList : Type 0 where
  pub items : List Token
  pub end : Place

-- the kinds of tokens, in order
abbrev pub kinds : List Token → List TokenKind
kinds ts = map (λ t. t.kind) ts

-- How many brackets stand open behind a token. A closing one closes one where one stands open, of whatever kind; `case` and
-- `esac` count as brackets. This rule and the limit are our own.
abbrev pub opened_by : ℕ → TokenKind → ℕ
opened_by n (kind.Sign sign.Open) = suc n
opened_by n (kind.Sign sign.OpenBrace) = suc n
opened_by n (kind.Sign sign.OpenBracket) = suc n
opened_by n (kind.Reserved word.Case) = suc n
opened_by n (kind.Sign sign.Close) = n - 1
opened_by n (kind.Sign sign.CloseBrace) = n - 1
opened_by n (kind.Sign sign.CloseBracket) = n - 1
opened_by n (kind.Reserved word.Esac) = n - 1
opened_by n _ = n

-- how many brackets stand open behind these tokens
abbrev pub opened : List Token → ℕ
opened ts = fold (λ n t. opened_by n t.kind) 0 ts

-- at most so many brackets stand open
abbrev pub most_brackets : ℕ
most_brackets = 100

-- What stands next: nothing more, a token with the place behind it and the rest, or what is refused.
pub data Next : Type 0 where
  finished : Next
  go : Token → Place → List ℕ → Next
  bad : Refusal → Next

-- the token of this kind and spelling at a place
abbrev pub token_at : Place → List ℕ → TokenKind → Token
token_at at lexeme kind = record { kind = kind; place = at; length = length lexeme }

-- the refusal of this number at a place
abbrev pub refusal_at : ℕ → Place → Refusal
refusal_at n at = record { kind = S n; place = at }

-- Where n brackets stand open: a gap alone, or a gap and the spelling of a token, each the longest at its place; or, behind
-- the longest gap, a byte at which no token starts, a run that begins with a digit and spells nothing, or a bracket too many.
pub data Steps (n : ℕ) : Place → List ℕ → Next → Type 0 where
  ends : (at : Place) (gap : List ℕ) → IsGap gap → Steps n at gap finished
  token : (at : Place) (gap lexeme rest : List ℕ) (kind : TokenKind)
      → IsLongest (λ f r. IsGap f) gap (lexeme ++ rest) → IsLongest IsLexeme lexeme rest → kind_of lexeme ≡ Some kind → opened_by n kind ≤ most_brackets
      → Steps n at (gap ++ (lexeme ++ rest)) (go (token_at (after at gap) lexeme kind) (after (after at gap) lexeme) rest)
  stray : (at : Place) (gap rest : List ℕ)
      → IsLongest (λ f r. IsGap f) gap rest → rest ≢ [] → ((f r : List ℕ) → f ++ r ≡ rest → IsLexeme f r → ⊥)
      → Steps n at (gap ++ rest) (bad (refusal_at 2 (after at gap)))
  misspelled : (at : Place) (gap lexeme rest : List ℕ)
      → IsLongest (λ f r. IsGap f) gap (lexeme ++ rest) → IsLongest IsLexeme lexeme rest → kind_of lexeme ≡ None
      → Steps n at (gap ++ (lexeme ++ rest)) (bad (refusal_at 3 (after at gap)))
  too_nested : (at : Place) (gap lexeme rest : List ℕ) (kind : TokenKind)
      → IsLongest (λ f r. IsGap f) gap (lexeme ++ rest) → IsLongest IsLexeme lexeme rest → kind_of lexeme ≡ Some kind → most_brackets < opened_by n kind
      → Steps n at (gap ++ (lexeme ++ rest)) (bad (refusal_at 4 (after at gap)))

-- Behind the tokens before, from this place on, the text is gaps and tokens in turn, and these are all tokens.
pub data LexesFrom : List Token → Place → List ℕ → List Token → Type 0 where
  last : {all : List Token} {at : Place} {text : List ℕ} → Steps (opened all) at text finished → LexesFrom all at text all
  more : {before all : List Token} {at : Place} {text : List ℕ} (t : Token) (next : Place) (rest : List ℕ)
      → Steps (opened before) at text (go t next rest) → LexesFrom (before ++ t ∷ []) next rest all → LexesFrom before at text all

-- Behind the tokens before, from this place on, the text is gaps and tokens in turn up to what is refused.
pub data Refuses : List Token → Place → List ℕ → Refusal → Type 0 where
  here : {before : List Token} {at : Place} {text : List ℕ} (why : Refusal) → Steps (opened before) at text (bad why) → Refuses before at text why
  later : {before : List Token} {at : Place} {text : List ℕ} {why : Refusal} (t : Token) (next : Place) (rest : List ℕ)
      → Steps (opened before) at text (go t next rest) → Refuses (before ++ t ∷ []) next rest why → Refuses before at text why

-- The whole text lexes to these tokens.
abbrev pub Lexes : List ℕ → List Token → Type 0
Lexes = LexesFrom [] start

-- This is the refusal of the text.
abbrev pub IsLexRefusal : List ℕ → Refusal → Type 0
IsLexRefusal = Refuses [] start
