-- The MoXI script written for a BTOR2 text, and its properties (BTOR2, CAV 2018; MoXI, SPIN 2024).
use Rattle.std.specs.Prelude.{◌≡◌, ◌↔◌, ℕ, ◌<◌, List, length, Option, Some}
use Rattle.text_core.specs.Outside.{Files, file_at, grown}
use Rattle.text_core.specs.declared.end.End.TheVariants.{Bad}
use Rattle.btor_tree.specs.declared.lines.Line.{Line}
use Rattle.btor_tree.specs.Fits.{operands, is_bad}
use Rattle.btor_tree.specs.Texts.{SpellsLines}
use Rattle.btor_text.specs.Answer.{IsRefused}
use Rattle.btor_import.specs.Script.{import_of}
use Rattle.moxi_layout.specs.LayoutLaws.{HasFrames}
use Rattle.moxi_term_print.specs.Shown.{lines_text}
use Rattle.moxi_scripts.specs.Script.{PlainScript}
use Rattle.moxi_script_print.specs.Printing.{shown_script}
use Rattle.command_core.specs.declared.answer.Answer.{Answer}
use Rattle.command_core.specs.Reading.{ContinuesWith, file_within}
use Rattle.command_core.specs.Texts.{IsTextOr}
use Rattle.btor_commands.specs.Judgement.{btor_too_long}
use Rattle.btor_commands.specs.Limits.{most_btor_bytes}
use Rattle.btor_commands.specs.Traces.{HasTrace, SpellsText}

-- the printed script of lines
unfoldable pub script_text : List Line → List ℕ
script_text lines = lines_text (shown_script (import_of lines))

-- the text is the script of the lines that the bytes spell
abbrev pub IsScriptText : List ℕ → List ℕ → Type 0
IsScriptText bytes text = (lines : List Line) × SpellsLines bytes lines × (text ≡ script_text lines)

-- the answer for the bytes: the script of their lines, or their refusal
abbrev pub OfBytes : List ℕ → Answer → Type 0
OfBytes bytes answer = IsTextOr (IsScriptText bytes) (λ refusal. IsRefused bytes (Bad refusal)) answer

-- the answer for the file with this name: the script of its lines, or its refusal
abbrev pub IsImport : Files → List ℕ → Answer → Type 0
IsImport files model answer = ContinuesWith (file_within files model most_btor_bytes btor_too_long) OfBytes answer

-- ---- the properties of the script

-- The script is a translation of the lines: it has a query for each bad line, and a trace meets query j at step k exactly where
-- frames 0 to k have bad line j true in the last.
pub record RepresentsLines (lines : List Line) (script : PlainScript) : Type 0 where
  pub queries : length script.check.queries ≡ length (operands is_bad lines)
  pub frames : (j k : ℕ) → j < length (operands is_bad lines) → HasFrames lines j k ↔ HasTrace script j k

-- the text spells a script, and each script that it spells is a translation of the lines
pub record WritesScript (lines : List Line) (text : List ℕ) : Type 0 where
  pub there : (script : PlainScript) × SpellsText text script
  pub each : (script : PlainScript) → SpellsText text script → RepresentsLines lines script

-- the script written for each text is correct
abbrev pub ScriptsAreCorrect : Type 0
ScriptsAreCorrect = (bytes : List ℕ) (lines : List Line) → SpellsLines bytes lines → WritesScript lines (script_text lines)

-- the written text is correct for the lines that the file with this name spells
pub record IsCorrectOutput (files : Files) (name : List ℕ) (before now : Option (List ℕ)) : Type 0 where
  pub bytes : List ℕ
  pub there : file_at files name ≡ Some bytes
  pub lines : List Line
  pub spelled : SpellsLines bytes lines
  pub text : List ℕ
  pub written : now ≡ grown before text
  pub script : WritesScript lines text
