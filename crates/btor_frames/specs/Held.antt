-- What a contract sees of the current frame.
use Rattle.std.specs.Prelude.{◌≡◌, Bool, List, length, IsTrue}
use Rattle.word_core.specs.Words.{BitVector}
use Rattle.btor_tree.specs.declared.lines.Line.{Line}
use Rattle.btor_tree.specs.Frame.{IsFrame}
use Rattle.btor_frames.specs.Tables.{Found, IsFoundIn}

-- whether there is a frame, its row, and what was found in the lines
pub record Held : Type 0 where
  pub begun : Bool
  pub row : List BitVector
  pub found : Found

-- one word for each line, a frame of the lines where there is one, and what was found is found in these lines
pub record FramesFit (lines : List Line) (held : Held) : Type 0 where
  pub sized : length held.row ≡ length lines
  pub framed : IsTrue held.begun → IsFrame lines held.row
  pub found : IsFoundIn lines held.found
