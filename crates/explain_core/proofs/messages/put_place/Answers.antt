use Rattle.explain_core.proofs.Putting.{piece_puts}
use Rattle.explain_core.proofs.messages.put_place.Goals as goal

pub returns : goal.returns
returns g c = piece_puts c.put_label.result _ _ _ _ _ _ c.args.file.now _ c.in_ok-put.ensures c.put_label.ensures
