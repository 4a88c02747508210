-- The BTOR2 text written for an SMV model, and its properties (BTOR2, CAV 2018; the bound on its lines is this translator's own).
use Rattle.std.specs.Prelude.{◌≡◌, ℕ, ◌+◌, ◌*◌, ◌≤◌, List, length, Option, Some}
use Rattle.text_core.specs.Outside.{Files, file_at, grown}
use Rattle.smv_text.specs.Tree.{PlainSource}
use Rattle.smv_meaning.specs.Instances.{weight_of}
use Rattle.btor_tree.specs.declared.lines.Line.{Line}
use Rattle.btor_tree.specs.Printing.{printed}
use Rattle.btor_tree.specs.Sharing.{HasNoDuplicates}
use Rattle.btor_tree.specs.Texts.{SpellsLines}
use Rattle.command_core.specs.declared.answer.Answer.{Answer}
use Rattle.command_core.specs.Reading.{ContinuesWith, file_within}
use Rattle.command_core.specs.Texts.{IsTextOr}
use Rattle.smv_models.specs.Limits.{most_smv_bytes}
use Rattle.smv_models.specs.Models.{IsAcceptedModel, IsCheckRefusal, smv_too_long}
use Rattle.witness_lift.specs.LineLaws.{Translates, model_lines}

-- the text written for a model: the printed lines of its script's flat system
unfoldable pub btor_text : PlainSource → List ℕ
btor_text source = printed (model_lines source)

-- the bytes spell this model, and its checks hold
abbrev pub Accepts : List ℕ → PlainSource → Type 0
Accepts bytes source = IsAcceptedModel bytes 0 source

-- the BTOR2 text of the model that the bytes spell
abbrev pub IsBtorText : List ℕ → List ℕ → Type 0
IsBtorText bytes text = (source : PlainSource) × IsAcceptedModel bytes 0 source × (text ≡ btor_text source)

-- the answer for the bytes: this text, or their refusal
abbrev pub OfBytes : List ℕ → Answer → Type 0
OfBytes bytes answer = IsTextOr (IsBtorText bytes) (IsCheckRefusal bytes 0) answer

-- the answer for the file with this name: the BTOR2 text of its model, or its refusal
abbrev pub IsTranslation : Files → List ℕ → Answer → Type 0
IsTranslation files model answer = ContinuesWith (file_within files model most_smv_bytes smv_too_long) OfBytes answer

-- ---- the properties of the text

-- The text spells one list of lines, which are a translation of the model. They are at most 16 for each unit of the model's weight,
-- and 200 more. No two sorts, constants or operators among them are equal.
pub record TranslatesTo (source : PlainSource) (text : List ℕ) : Type 0 where
  pub lines : List Line
  pub spells : SpellsLines text lines
  pub only : (others : List Line) → SpellsLines text others → others ≡ lines
  pub translates : Translates source lines
  pub few : length lines ≤ 16 * weight_of source + 200
  pub distinct : HasNoDuplicates lines

-- the text written for each accepted model is correct
abbrev pub TranslationsAreCorrect : Type 0
TranslationsAreCorrect = (bytes : List ℕ) (source : PlainSource) → Accepts bytes source → TranslatesTo source (btor_text source)

-- the written text is correct for the model that the file with this name spells
pub record IsCorrectOutput (files : Files) (name : List ℕ) (before now : Option (List ℕ)) : Type 0 where
  pub bytes : List ℕ
  pub there : file_at files name ≡ Some bytes
  pub source : PlainSource
  pub accepted : Accepts bytes source
  pub text : List ℕ
  pub written : now ≡ grown before text
  pub translated : TranslatesTo source text
