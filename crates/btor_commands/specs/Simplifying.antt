-- The smaller text written for a BTOR2 text, and what it preserves (BTOR2, CAV 2018).
use Rattle.std.specs.Prelude.{◌≡◌, ◌↔◌, ℕ, List, Option, Some}
use Rattle.text_core.specs.Outside.{Files, file_at, grown}
use Rattle.text_core.specs.declared.end.End.TheVariants.{Bad}
use Rattle.btor_tree.specs.declared.lines.Line.{Line}
use Rattle.btor_tree.specs.Printing.{printed}
use Rattle.btor_tree.specs.Texts.{SpellsLines}
use Rattle.btor_text.specs.Answer.{IsRefused}
use Rattle.btor_simplify.specs.Keeping.{IsSmallerList}
use Rattle.btor_simplify.specs.Simplified.{IsSimplified}
use Rattle.moxi_layout.specs.LayoutLaws.{HasFrames}
use Rattle.command_core.specs.declared.answer.Answer.{Answer}
use Rattle.command_core.specs.Reading.{ContinuesWith, file_within}
use Rattle.command_core.specs.Texts.{IsTextOr}
use Rattle.btor_commands.specs.Judgement.{btor_too_long}
use Rattle.btor_commands.specs.Limits.{most_btor_bytes}

-- the text is that of the smaller list of the lines that the bytes spell
pub record IsSmallerText (bytes text : List ℕ) : Type 0 where
  pub lines : List Line
  pub spelled : SpellsLines bytes lines
  pub smaller : List Line
  pub simplified : IsSimplified lines smaller
  pub printed_text : text ≡ printed smaller

-- the answer for the bytes: the smaller text of their lines, or their refusal
abbrev pub OfBytes : List ℕ → Answer → Type 0
OfBytes bytes answer = IsTextOr (IsSmallerText bytes) (λ refusal. IsRefused bytes (Bad refusal)) answer

-- the answer for the file with this name: the smaller text of its lines, or its refusal
abbrev pub IsSimplification : Files → List ℕ → Answer → Type 0
IsSimplification files model answer = ContinuesWith (file_within files model most_btor_bytes btor_too_long) OfBytes answer

-- ---- what the smaller text preserves

-- The text spells one list of lines in normal form, at most as many as `lines`, with the same words and witnesses. For each j and k it
-- has frames 0 to k with every constraint true and bad line j true in frame k exactly when `lines` has such frames.
pub record WritesSmaller (lines : List Line) (text : List ℕ) : Type 0 where
  pub smaller : List Line
  pub spelled : SpellsLines text smaller
  pub only : (others : List Line) → SpellsLines text others → others ≡ smaller
  pub keeps : IsSmallerList lines smaller
  pub frames : (j k : ℕ) → HasFrames lines j k ↔ HasFrames smaller j k

-- the text written for each text preserves these
abbrev pub SmallerTextsAreCorrect : Type 0
SmallerTextsAreCorrect = (bytes : List ℕ) (lines smaller : List Line) → SpellsLines bytes lines → IsSimplified lines smaller → WritesSmaller lines (printed smaller)

-- the written text preserves these for the lines that the file with this name spells
pub record IsCorrectOutput (files : Files) (name : List ℕ) (before now : Option (List ℕ)) : Type 0 where
  pub bytes : List ℕ
  pub there : file_at files name ≡ Some bytes
  pub lines : List Line
  pub spelled : SpellsLines bytes lines
  pub text : List ℕ
  pub written : now ≡ grown before text
  pub smaller : WritesSmaller lines text
