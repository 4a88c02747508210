use Rattle.std.proofs.Common.{◌<◌, ◌+◌, length, map, sym}
use Rattle.std.proofs.lemmas.List.{length-map}
use Rattle.explain_core.proofs.Noting.{end_some}
use Rattle.explain_core.proofs.session.end_of.Goals as goal

pub returns-then-number-notes : goal.returns-then-number-notes
returns-then-number-notes c =
    let more : c.args.number + 1 < length (map (λ note. note.now) c.args.notes.now) = rw length-map c.if-number-notes.true in
    sym (end_some (map (λ note. note.now) c.args.notes.now) c.args.number more)
