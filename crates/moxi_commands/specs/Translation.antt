-- The BTOR2 text written for a script, and its properties (MoXI, SPIN 2024; BTOR2, CAV 2018).
use Rattle.std.specs.Prelude.{◌≡◌, ◌↔◌, ℕ, ◌<◌, List, length, Option, Some, None}
use Rattle.text_core.specs.declared.end.End.{End}
use Rattle.text_core.specs.declared.end.End.TheVariants.{Bad, NoMemory}
use Rattle.text_core.specs.Outside.{Files, file_at, grown}
use Rattle.btor_tree.specs.declared.lines.Line.{Line}
use Rattle.btor_tree.specs.Fits.{operands, is_bad}
use Rattle.btor_tree.specs.Printing.{printed}
use Rattle.btor_tree.specs.Sharing.{HasNoDuplicates}
use Rattle.btor_tree.specs.Texts.{SpellsLines}
use Rattle.moxi_scripts.specs.Script.{PlainScript}
use Rattle.moxi_flat.specs.FlatSystem.{flat_of}
use Rattle.moxi_flat.specs.Limits.{flat_refusal}
use Rattle.moxi_lines.specs.Lines.{lines_of}
use Rattle.moxi_layout.specs.LayoutLaws.{HasFrames, IsLaidOut}
use Rattle.command_core.specs.declared.answer.Answer.{Answer}
use Rattle.command_core.specs.Reading.{ContinuesWith, file_within}
use Rattle.command_core.specs.Texts.{IsTextOr}
use Rattle.btor_commands.specs.Traces.{HasTrace}
use Rattle.moxi_commands.specs.Limits.{most_script_bytes}
use Rattle.moxi_commands.specs.Scripts.{IsScriptText, IsSystemRefusal, script_too_long}

-- the printed lines of the system that the script's check instantiates
unfoldable pub btor_text : PlainScript → List ℕ
btor_text script = printed (lines_of (flat_of script))

-- the bytes spell this script, whose check instantiates a system
pub record IsInstantiated (bytes : List ℕ) (script : PlainScript) : Type 0 where
  pub is_script : IsScriptText bytes script
  pub accepted : flat_refusal script ≡ None

-- why there is no text: the refusal of the bytes, or out of memory
abbrev pub IsLinesEnd : List ℕ → End → Type 0
IsLinesEnd bytes (Bad refusal) = IsSystemRefusal bytes refusal
IsLinesEnd bytes NoMemory = Unit {0}

-- the text is that of the script that the bytes spell
abbrev pub IsLinesText : List ℕ → List ℕ → Type 0
IsLinesText bytes text = (script : PlainScript) × IsInstantiated bytes script × (text ≡ btor_text script)

-- the answer for the bytes: the text of their script, or their refusal
abbrev pub OfBytes : List ℕ → Answer → Type 0
OfBytes bytes answer = IsTextOr (IsLinesText bytes) (IsSystemRefusal bytes) answer

-- the answer for the file with this name: the text of its script, or its refusal
abbrev pub IsBtorText : Files → List ℕ → Answer → Type 0
IsBtorText files model answer = ContinuesWith (file_within files model most_script_bytes script_too_long) OfBytes answer

-- ---- the properties of the text

-- the lines are a translation of the script: they have a bad line for each query, and a trace meets query j at step k exactly where
-- frames 0 to k have bad line j true in the last
pub record RepresentsScript (script : PlainScript) (lines : List Line) : Type 0 where
  pub bads : length (operands is_bad lines) ≡ length script.check.queries
  pub frames : (j k : ℕ) → j < length script.check.queries → HasTrace script j k ↔ HasFrames lines j k

-- the text spells one list of lines, which are a translation of the script; no two sorts, constants or operators among them are equal
pub record WritesLines (script : PlainScript) (text : List ℕ) : Type 0 where
  pub lines : List Line
  pub spelled : SpellsLines text lines
  pub only : (others : List Line) → SpellsLines text others → others ≡ lines
  pub stand : RepresentsScript script lines
  pub distinct : HasNoDuplicates lines

-- the lines of a script's flat system lay the system out
abbrev pub ScriptLinesAreLaidOut : Type 0
ScriptLinesAreLaidOut = (bytes : List ℕ) (script : PlainScript) → IsInstantiated bytes script → IsLaidOut (flat_of script) (lines_of (flat_of script))

-- the text written for each script is correct
abbrev pub LinesAreCorrect : Type 0
LinesAreCorrect = (bytes : List ℕ) (script : PlainScript) → IsInstantiated bytes script → WritesLines script (btor_text script)

-- the written text is correct for the script that the file with this name spells
pub record IsCorrectOutput (files : Files) (name : List ℕ) (before now : Option (List ℕ)) : Type 0 where
  pub bytes : List ℕ
  pub there : file_at files name ≡ Some bytes
  pub script : PlainScript
  pub instantiated : IsInstantiated bytes script
  pub text : List ℕ
  pub written : now ≡ grown before text
  pub lines : WritesLines script text
