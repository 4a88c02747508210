use Rattle.std.proofs.Common.{length, ap, arith}
use Rattle.smv_trace.specs.Numbering.{Numbering}
use Rattle.smv_trace.proofs.Numbered.{known_long, kept_more, value_stated}
use Rattle.smv_trace.proofs.reader.Reader.state_value.Goals as goal

pub index_mut-requires : goal.index_mut-requires
index_mut-requires c =
    omega (arith, c.requires, c.self.inside.known.ok, ap (λ (n : Numbering). length n.table.items) c.self.view_is, known_long c.self.inside.table.now.items c.self.inside.known.items c.self.inside.changes c.self.inside.ends c.self.invariant)

pub invariant_of-self : goal.invariant_of-self
invariant_of-self c =
    kept_more c.self.inside.table.now.items c.self.inside.known.items c.self.inside.changes c.push.new.self c.self.inside.ends (record { item = c.args.k; value = c.in-Some.value }) c.self.invariant c.in-Ok.ensures.ok

pub returns-in-Ok-clause-step : goal.returns-in-Ok-clause-step
returns-in-Ok-clause-step c = λ at.
    let r : Numbering = record { table = c.self.inside.table.now; heading = c.self.inside.heading; place = c.self.inside.place; first = c.self.inside.first; changes = c.self.inside.changes; ends = c.self.inside.ends } in
    value_stated at r c.args.self.now c.args.k c.in-Some.value c.args.value c.push.new.self c.self.invariant.rising c.self.view_is c.in-Some.is c.in-Ok.ensures.ok
