-- The lines of a BTOR2 text, and those of the text of their script, have each bad line true for the same numbers of steps.
use Rattle.std.proofs.Common.{◌<◌, ℕ, List, length, arith}
use Rattle.text_core.specs.Places.{start, after}
use Rattle.btor_tree.specs.declared.lines.Line.{Line}
use Rattle.btor_tree.specs.Fits.{is_bad, operands}
use Rattle.btor_tree.specs.Texts.{SpellsLines}
use Rattle.moxi_scripts.specs.Script.{PlainScript}
use Rattle.btor_commands.specs.Importing.{ScriptsAreCorrect, RepresentsLines, script_text}
use Rattle.moxi_commands.specs.Translation.{IsInstantiated, LinesAreCorrect, WritesLines, btor_text}
use Rattle.top_call.specs.Routes.{KeepsFrames}

pub keeps : ScriptsAreCorrect → LinesAreCorrect → (bytes : List ℕ) (lines : List Line) (script : PlainScript) → SpellsLines bytes lines → IsInstantiated (script_text lines) script → KeepsFrames lines (btor_text script)
keeps made stand bytes lines script spelled instantiated =
    let t = instantiated.is_script in
    let here : RepresentsLines lines script = (made bytes lines spelled).each script (record { forms = t.forms; formed = t.formed; end = after start (script_text lines); spelled = t.spelled }) in
    let there : WritesLines script (btor_text script) = stand (script_text lines) script instantiated in
    let counts : (j : ℕ) → j < length (operands is_bad lines) → j < length script.check.queries = λ j h. omega (arith, h, here.queries) in
    record {
      others = there.lines;
      spelled = there.spelled;
      frames = λ j k h. (
        λ f. (there.stand.frames j k (counts j h)).0 ((here.frames j k h).0 f),
        λ f. (here.frames j k h).1 ((there.stand.frames j k (counts j h)).1 f),
      );
    }
