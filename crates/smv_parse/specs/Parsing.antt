-- What the parser of models answers.
use Rattle.std.specs.Prelude.{◌≡◌, ℕ, Some, None, Result, Ok, Err, List, [], ◌∷◌, drop}
use Rattle.text_core.specs.declared.end.End.{End}
use Rattle.text_core.specs.declared.end.End.TheVariants.{Bad, NoMemory}
use Rattle.text_core.specs.declared.place.Place.{Place}
use Rattle.text_core.specs.declared.place.Kind.TheVariants.{S}
use Rattle.text_core.specs.declared.place.Refusal.{Refusal}
use Rattle.smv_text.specs.declared.token.Token.{Token}
use Rattle.smv_text.specs.declared.token.TokenKind.{TokenKind}
use Rattle.smv_text.specs.declared.token.TokenKind.TheVariants as kind
use Rattle.smv_text.specs.declared.tree.Source.{Source}
use Rattle.smv_text.specs.Lexing.{TokenList}
use Rattle.smv_text.specs.Tree.{PlainSource}
use Rattle.smv_text.specs.View.{plain_source}
use Rattle.smv_text.specs.Heights.{first_high, of_modules}
use Rattle.smv_text.specs.Sources.{SpellsSource, IsDeadAt}

abbrev pub refusal : ℕ → Place → Refusal
refusal n p = record { kind = S n; place = p }

-- The model that the tokens spell, and nothing in it is too high; or that it has such an expression, and where the first stands.
abbrev pub ReadsOrHigh : PlainSource → Result Source End → Type 0
ReadsOrHigh s (Ok e) = (plain_source e ≡ s) × (first_high (of_modules s.modules) ≡ None)
ReadsOrHigh s (Err (Bad why)) = (p : Place) × (first_high (of_modules s.modules) ≡ Some p) × (why ≡ refusal 7 p)
ReadsOrHigh s (Err NoMemory) = Unit {0}

-- the refusal of a dead token: 6 where it is a word that is not supported, else 5
abbrev pub number_at : TokenKind → ℕ
number_at kind.Refused = 6
number_at _ = 5

-- of the first token, or of the end
abbrev pub dead_refusal : Place → List Token → Refusal
dead_refusal end [] = refusal 5 end
dead_refusal end (x ∷ xs) = refusal (number_at x.kind) x.place

-- The tokens spell a model with an expression that is too high, the first of them here.
pub record IsTooHigh (tokens : TokenList) (why : Refusal) : Type 0 where
  pub source : PlainSource
  pub spelled : SpellsSource source tokens.end tokens.items
  pub place : Place
  pub first : first_high (of_modules source.modules) ≡ Some place
  pub is : why ≡ refusal 7 place

-- the dead token of these is at this place: no spelling begins with the tokens up to it, and one begins with those before
abbrev pub dead_token : List Token → ℕ → Type 0
dead_token = IsDeadAt

-- The tokens have a dead token, and it is here.
pub record HasDead (tokens : TokenList) (why : Refusal) : Type 0 where
  pub index : ℕ
  pub dead : dead_token tokens.items index
  pub is : why ≡ dead_refusal tokens.end (drop index tokens.items)

pub data IsRefused (tokens : TokenList) : End → Type 0 where
  too_high : {why : Refusal} → IsTooHigh tokens why → IsRefused tokens (Bad why)
  dead : {why : Refusal} → HasDead tokens why → IsRefused tokens (Bad why)
  no_memory : IsRefused tokens NoMemory
