use Rattle.smv_trace.specs.Numbering.{Numbering}
use Rattle.smv_trace.proofs.Numbered.{kept_with, state_ended}
use Rattle.smv_trace.proofs.reader.Reader.add_state.Goals as goal

pub invariant_of-self-2 : goal.invariant_of-self-2
invariant_of-self-2 c =
    kept_with c.self.inside.table.now.items c.self.inside.known.items c.self.inside.changes c.self.inside.ends c.push.new.self c.len-end.result c.self.invariant c.in_ok-push.ensures.ok c.len-end.ensures

pub returns-clause-step : goal.returns-clause-step
returns-clause-step c =
    let r : Numbering = record { table = c.self.inside.table.now; heading = c.self.inside.heading; place = c.self.inside.place; first = c.self.inside.first; changes = c.self.inside.changes; ends = c.self.inside.ends } in
    state_ended r c.args.self.now c.len-end.result c.push.new.self c.self.view_is c.len-end.ensures c.in_ok-push.ensures.ok
