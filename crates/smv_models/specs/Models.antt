-- The accepted SMV model that bytes spell, or their refusal. The model must have more invariants than a given number.
use Rattle.std.specs.Prelude.{◌≡◌, ◌⊎◌, ◌≤◌, ℕ, List, length, Some, None}
use Rattle.text_core.specs.declared.end.End.{End}
use Rattle.text_core.specs.declared.end.End.TheVariants.{Bad, NoMemory}
use Rattle.text_core.specs.declared.place.Kind.TheVariants.{S}
use Rattle.text_core.specs.declared.place.Refusal.{Refusal}
use Rattle.text_core.specs.Places.{start, after}
use Rattle.smv_text.specs.declared.token.Token.{Token}
use Rattle.smv_text.specs.Tree.{PlainSource}
use Rattle.smv_text.specs.Heights.{first_high, of_modules}
use Rattle.smv_text.specs.Lexing.{Lexes, IsLexRefusal}
use Rattle.smv_text.specs.Sources.{SpellsSource}
use Rattle.smv_parse.specs.Parsing.{IsRefused}
use Rattle.smv_meaning.specs.Instances.{weight_of}
use Rattle.smv_meaning.specs.Phases.{IsAccepted, first_refusal}
use Rattle.smv_flatten.specs.FlatModel.{FlatModel, IsFormOf}
use Rattle.command_core.specs.declared.answer.Answer.{Answer}
use Rattle.command_core.specs.declared.answer.Answer.TheVariants.{Refused}
use Rattle.smv_models.specs.Limits.{most_smv_bytes}

-- the bytes, within the limit, spell this model, and none of its expressions is too high
pub record IsModel (bytes : List ℕ) (model : PlainSource) : Type 0 where
  pub within : length bytes ≤ most_smv_bytes
  pub tokens : List Token
  pub lexed : Lexes bytes tokens
  pub spelled : SpellsSource model (after start bytes) tokens
  pub low : first_high (of_modules model.modules) ≡ None

-- the answer for an SMV text that is too long
abbrev pub smv_too_long : Answer
smv_too_long = Refused (record { kind = S 1; place = start })

-- the bytes spell this model, and its checks hold
pub record IsAcceptedModel (bytes : List ℕ) (needed : ℕ) (source : PlainSource) : Type 0 where
  pub is_model : IsModel bytes source
  pub accepted : IsAccepted source needed

-- this is the flat form of the accepted model that the bytes spell, with the weight of the model
pub record IsFormIn (bytes : List ℕ) (needed : ℕ) (f : FlatModel) : Type 0 where
  pub source : PlainSource
  pub accepted : IsAcceptedModel bytes needed source
  pub form : IsFormOf source f
  pub weight : f.weight ≡ weight_of source

-- the refusal of a text that spells no model: that of the lexer, or else of the parser
abbrev pub IsTextRefusal : List ℕ → Refusal → Type 0
IsTextRefusal bytes refusal =
    IsLexRefusal bytes refusal ⊎ ((tokens : List Token) × Lexes bytes tokens × IsRefused (record { items = tokens; end = after start bytes }) (Bad refusal))

-- the refusal of a text: that of the lexer or the parser, or else the first failing check of its model
abbrev pub IsCheckRefusal : List ℕ → ℕ → Refusal → Type 0
IsCheckRefusal bytes needed refusal = IsTextRefusal bytes refusal ⊎ ((model : PlainSource) × IsModel bytes model × (first_refusal model needed ≡ Some refusal))

-- why bytes spell no model: their refusal, or out of memory
abbrev pub IsTextEnd : List ℕ → End → Type 0
IsTextEnd bytes (Bad refusal) = IsTextRefusal bytes refusal
IsTextEnd bytes NoMemory = Unit {0}

-- why bytes have no flat form: their refusal, or out of memory
abbrev pub IsModelEnd : List ℕ → ℕ → End → Type 0
IsModelEnd bytes needed (Bad refusal) = IsCheckRefusal bytes needed refusal
IsModelEnd bytes needed NoMemory = Unit {0}

-- the answer is this refusal of the model
abbrev pub IsRefusal : List ℕ → ℕ → Answer → Type 0
IsRefusal bytes needed answer = (refusal : Refusal) × IsCheckRefusal bytes needed refusal × (answer ≡ Refused refusal)
