use Rattle.std.proofs.Common.{◌∙◌, ap, ◌++◌, ◌∷◌, []}
use Rattle.command_core.specs.Notes.{unread_line}
use Rattle.command_core.proofs.SinkLemmas.{puts_so}
use Rattle.command_core.proofs.notes.put_unread.Goals as goal

pub returns : goal.returns
returns g c =
    puts_so _ _ _ _ _ _ c.put_pieces.result
    (ap (λ words. words ++ (c.bytes.result.now ++ 10 ∷ [])) c.as_slice.ensures ∙ ap unread_line c.bytes.ensures)
    c.put_pieces.ensures
