-- What adding a token to those before answers.
use Rattle.std.specs.Prelude.{◌≡◌, ◌<◌, ◌≤◌, ℕ, Result, Ok, Err, List, [], ◌∷◌, ◌++◌, length, take, drop}
use Rattle.text_core.specs.declared.end.End.{End}
use Rattle.text_core.specs.declared.end.End.TheVariants.{Bad, NoMemory}
use Rattle.text_core.specs.declared.place.Place.{Place}
use Rattle.text_core.specs.Places.{after, along}
use Rattle.smv_text.specs.declared.token.Token.{Token}
use Rattle.smv_text.specs.declared.token.TokenKind.{TokenKind}
use Rattle.smv_text.specs.Lexing.{go, bad, opened_by, most_brackets, refusal_at}
use Rattle.smv_lex.specs.declared.adding.Added.{Added}
use Rattle.smv_lex.specs.Reading.{behind}

abbrev pub sized_token : Place → TokenKind → ℕ → Token
sized_token at kind size = record { kind = kind; place = at; length = size }

-- What adding a token of a kind and a size answers, where n brackets stand open.
abbrev pub AddsKind : ℕ → Place → TokenKind → ℕ → List Token → List Token → Result Added End → Type 0
AddsKind n at kind size before now (Ok added) =
    (now ≡ before ++ sized_token at kind size ∷ []) × (added.size ≡ size) × (added.opened ≡ opened_by n kind) × (opened_by n kind ≤ most_brackets)
AddsKind n at kind size before now (Err (Bad why)) = (why ≡ refusal_at 4 at) × (most_brackets < opened_by n kind)
AddsKind n at kind size before now (Err NoMemory) = Unit {0}

-- The token that stands next is added to those before. It is in one line.
pub record IsAdded (n : ℕ) (at : Place) (text : List ℕ) (before now : List Token) (added : Added) : Type 0 where
  pub token : Token
  pub items : now ≡ before ++ token ∷ []
  pub next : behind n at text ≡ go token (along at added.size) (drop added.size text)
  pub line : after at (take added.size text) ≡ along at added.size
  pub opened : added.opened ≡ opened_by n token.kind
  pub few : added.opened ≤ most_brackets
  pub some : 0 < added.size
  pub within : added.size ≤ length text

-- what stands next is refused so, or memory runs out
abbrev pub IsBad : ℕ → Place → List ℕ → End → Type 0
IsBad n at text (Bad why) = behind n at text ≡ bad why
IsBad n at text NoMemory = Unit {0}

-- what adding the token that stands next answers
abbrev pub Adds : ℕ → Place → List ℕ → List Token → List Token → Result Added End → Type 0
Adds n at text before now (Ok added) = IsAdded n at text before now added
Adds n at text before now (Err e) = IsBad n at text e
