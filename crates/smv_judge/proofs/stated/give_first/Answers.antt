use Rattle.std.proofs.Common.{◌<◌, List, length, sym, subst}
use Rattle.smv_meaning.specs.declared.value.Given.{Given}
use Rattle.smv_meaning.specs.Values.{given}
use Rattle.smv_flat.specs.FlatParts.{parts_plain}
use Rattle.smv_numbered.specs.Runs.{stated_at, state_at, label_at}
use Rattle.smv_rows.specs.Places.{IsGiven}
use Rattle.smv_judge.specs.declared.stated.Stated.{Stated}
use Rattle.smv_judge.specs.Stated.{states_in, label_in, list_at, end_before}
use Rattle.smv_judge.proofs.StatedRuns.{numbered_carried, stated_long, states_long, state_here}
use Rattle.smv_judge.proofs.stated.give_first.Goals as goal

pub give_inputs-requires : goal.give_inputs-requires
give_inputs-requires c =
    let flat = c.args.flat.now in
    let items = (parts_plain flat).items in
    let cs = c.in-Numbered.numbered.now.changes in
    let ns = c.in-Numbered.numbered.now.ends in
    let carried = c.carry.ensures items (numbered_carried items c.args.run.now c.in-Numbered.numbered c.in-Numbered.field-1 0 c.args.carried.now c.in-Numbered.is c.requires.carried) in
    (c.in_ok-give_carried-in-Numbered.ensures (stated_at items cs (end_before 1 ns)) (stated_long flat cs (end_before 1 ns)) carried).size

pub returns-in_ok-give_carried-in-Numbered-clause-row : goal.returns-in_ok-give_carried-in-Numbered-clause-row
returns-in_ok-give_carried-in-Numbered-clause-row c =
    let flat = c.args.flat.now in
    let items = (parts_plain flat).items in
    let cs = c.in-Numbered.numbered.now.changes in
    let ns = c.in-Numbered.numbered.now.ends in
    let values = c.give_inputs.new.self.values.items in
    let label = given (label_in items c.args.run.now) in
    let carried = c.carry.ensures items (numbered_carried items c.args.run.now c.in-Numbered.numbered c.in-Numbered.field-1 0 c.args.carried.now c.in-Numbered.is c.requires.carried) in
    let row = c.in_ok-give_carried-in-Numbered.ensures (stated_at items cs (end_before 1 ns)) (stated_long flat cs (end_before 1 ns)) carried in
    let joined = c.give_inputs.ensures (given (state_at items cs (end_before 1 ns))) (given (label_at items cs (end_before 1 ns))) label c.requires.inputs.0 row c.requires.inputs.1 in
    let some : 0 < length ns = subst (λ n. 0 < n) (states_long items cs ns) (subst (λ (r : Stated). 0 < length (states_in items r)) c.in-Numbered.is c.requires.some) in
    subst (λ (r : Stated). IsGiven flat.items.now (given (list_at (states_in items r) 0)) label values) (sym c.in-Numbered.is)
    (subst (λ (gs : List Given). IsGiven flat.items.now (given gs) label values) (sym (state_here items cs ns 0 some)) joined)
