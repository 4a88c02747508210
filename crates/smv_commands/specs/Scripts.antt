-- The script written for an SMV model, and its properties (MoXI, SPIN 2024).
use Rattle.std.specs.Prelude.{◌≡◌, ◌↔◌, ℕ, ◌<◌, List, length, Option, Some}
use Rattle.text_core.specs.Outside.{Files, file_at, grown}
use Rattle.smv_text.specs.Tree.{PlainSource}
use Rattle.smv_script.specs.Script.{script_for}
use Rattle.moxi_term_print.specs.Shown.{lines_text}
use Rattle.moxi_scripts.specs.Script.{PlainScript}
use Rattle.moxi_script_print.specs.Printing.{shown_script}
use Rattle.command_core.specs.declared.answer.Answer.{Answer}
use Rattle.btor_commands.specs.Traces.{HasTrace, SpellsText}
use Rattle.smv_models.specs.Limits.{most_smv_bytes}
use Rattle.command_core.specs.Reading.{ContinuesWith, file_within}
use Rattle.command_core.specs.Texts.{IsTextOr}
use Rattle.smv_script_laws.specs.RunLaws.{HasRun, invariant_count}
use Rattle.smv_models.specs.Models.{IsAcceptedModel, IsCheckRefusal, smv_too_long}

-- the printed script of a model
unfoldable pub moxi_text : PlainSource → List ℕ
moxi_text source = lines_text (shown_script (script_for source))

-- the printed script of the model that the bytes spell
abbrev pub IsScriptText : List ℕ → List ℕ → Type 0
IsScriptText bytes text = (source : PlainSource) × IsAcceptedModel bytes 0 source × (text ≡ moxi_text source)

-- the answer for the bytes: this text, or their refusal
abbrev pub OfBytes : List ℕ → Answer → Type 0
OfBytes bytes answer = IsTextOr (IsScriptText bytes) (IsCheckRefusal bytes 0) answer

-- the answer for the file with this name: the script of its model, or its refusal
abbrev pub IsScript : Files → List ℕ → Answer → Type 0
IsScript files model answer = ContinuesWith (file_within files model most_smv_bytes smv_too_long) OfBytes answer

-- ---- the properties of the script

-- the script is a translation of the model: it has a query for each invariant, and a run breaks invariant j after k steps exactly
-- where a trace meets query j at step k
pub record RepresentsModel (source : PlainSource) (script : PlainScript) : Type 0 where
  pub queries : length script.check.queries ≡ invariant_count source
  pub runs : (j k : ℕ) → j < invariant_count source → HasRun source j k ↔ HasTrace script j k

-- the text spells a script, and each script that it spells is a translation of the model
pub record WritesScript (source : PlainSource) (text : List ℕ) : Type 0 where
  pub there : (script : PlainScript) × SpellsText text script
  pub each : (script : PlainScript) → SpellsText text script → RepresentsModel source script

-- the text written for each accepted model is correct
abbrev pub ScriptsAreCorrect : Type 0
ScriptsAreCorrect = (bytes : List ℕ) (source : PlainSource) → IsAcceptedModel bytes 0 source → WritesScript source (moxi_text source)

-- the written text is correct for the model that the file with this name spells
pub record IsCorrectOutput (files : Files) (name : List ℕ) (before now : Option (List ℕ)) : Type 0 where
  pub bytes : List ℕ
  pub there : file_at files name ≡ Some bytes
  pub source : PlainSource
  pub accepted : IsAcceptedModel bytes 0 source
  pub text : List ℕ
  pub written : now ≡ grown before text
  pub script : WritesScript source text
