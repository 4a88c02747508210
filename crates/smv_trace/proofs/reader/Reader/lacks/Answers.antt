use Rattle.std.proofs.Common.{◌≡◌, length, ap, ◌∙◌, subst}
use Rattle.smv_trace.specs.Reading.{lacks}
use Rattle.smv_trace.specs.Numbering.{Numbering, stated_in, lacks_known}
use Rattle.smv_trace.proofs.Numbered.{known_long, lacks_is}
use Rattle.smv_trace.proofs.reader.Reader.lacks.Goals as goal

pub lacks_known-requires : goal.lacks_known-requires
lacks_known-requires c = ap length c.as_slice.ensures.value ∙ known_long c.self.inside.table.now.items c.self.inside.known.items c.self.inside.changes c.self.inside.ends c.self.invariant

pub returns : goal.returns
returns c =
    let items = c.self.inside.table.now.items in
    let here = c.lacks_known.ensures ∙ ap (lacks_known c.args.heading items) c.as_slice.ensures.value ∙ lacks_is c.args.heading items c.self.inside.known.items c.self.inside.changes c.self.inside.ends c.self.invariant in
    subst (λ (n : Numbering). c.lacks_known.result ≡ lacks c.args.heading n.table.items (stated_in n)) c.self.view_is here
