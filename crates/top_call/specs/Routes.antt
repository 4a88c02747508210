-- Two routes from a model to its BTOR2 text, and the route from BTOR2 lines to a script and back.
use Rattle.std.specs.Prelude.{◌↔◌, ◌≤◌, ◌<◌, ℕ, List, length}
use Rattle.btor_tree.specs.declared.lines.Line.{Line}
use Rattle.btor_tree.specs.Fits.{is_bad, operands}
use Rattle.btor_tree.specs.Texts.{SpellsLines}
use Rattle.moxi_layout.specs.LayoutLaws.{HasFrames}
use Rattle.smv_text.specs.Tree.{PlainSource}
use Rattle.command_core.specs.declared.answer.Answer.TheVariants.{Done}
use Rattle.command_core.specs.declared.answer.Output.TheVariants.{Text}
use Rattle.smv_commands.specs.Scripts.{moxi_text}
use Rattle.smv_commands.specs.Translation.{Accepts, btor_text}
use Rattle.moxi_commands.specs.Limits.{most_script_bytes}
use Rattle.moxi_commands.specs.Translation.{OfBytes}

-- the translation of the script of an accepted model is the direct translation of the model, unless the script is too long
abbrev pub RoutesMeet : Type 0
RoutesMeet = (bytes : List ℕ) (source : PlainSource) → Accepts bytes source → length (moxi_text source) ≤ most_script_bytes → OfBytes (moxi_text source) (Done (Text (btor_text source)))

-- the text spells one list of lines, in which each bad line is true in the last of frames 0 to k for the same numbers k
pub record KeepsFrames (lines : List Line) (text : List ℕ) : Type 0 where
  pub others : List Line
  pub spelled : SpellsLines text others
  pub frames : (j k : ℕ) → j < length (operands is_bad lines) → HasFrames lines j k ↔ HasFrames others j k
