-- What a text spells.
use Rattle.std.specs.Prelude.{◌≡◌, ℕ, List, None}
use Rattle.text_core.specs.declared.place.Place.{Place}
use Rattle.smv_text.specs.declared.token.Token.{Token}
use Rattle.smv_text.specs.Tree.{PlainSource}
use Rattle.smv_text.specs.Lexing.{Lexes}
use Rattle.smv_text.specs.Sources.{SpellsSource}
use Rattle.smv_text.specs.Heights.{first_high, of_modules}

-- the text spells this model, and none of its expressions is too high
pub record IsSpelled (text : List ℕ) (source : PlainSource) : Type 0 where
  pub tokens : List Token
  pub end : Place
  pub lexed : Lexes text tokens
  pub spelled : SpellsSource source end tokens
  pub low : first_high (of_modules source.modules) ≡ None
