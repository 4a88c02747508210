use Rattle.std.proofs.Common.{◌<◌, ◌+◌, List, length, sym, subst}
use Rattle.smv_meaning.specs.declared.value.Given.{Given}
use Rattle.smv_meaning.specs.Values.{given}
use Rattle.smv_flat.specs.FlatParts.{parts_plain}
use Rattle.smv_numbered.specs.Runs.{stated_at, state_at, labels_of}
use Rattle.smv_rows.specs.Places.{IsGiven}
use Rattle.smv_judge.specs.declared.stated.Stated.{Stated}
use Rattle.smv_judge.specs.Stated.{states_in, labels_in, list_at, end_before}
use Rattle.smv_judge.proofs.StatedRuns.{numbered_carried, stated_long, states_long, state_here, label_here}
use Rattle.smv_judge.proofs.stated.give_next.Goals as goal

pub returns-in_ok-give_carried-in-Numbered-clause-row : goal.returns-in_ok-give_carried-in-Numbered-clause-row
returns-in_ok-give_carried-in-Numbered-clause-row c =
    let flat = c.args.flat.now in
    let items = (parts_plain flat).items in
    let cs = c.in-Numbered.numbered.now.changes in
    let ns = c.in-Numbered.numbered.now.ends in
    let k = c.args.k in
    let values = c.give_carried.new.self.values.items in
    let end = end_before ((k + 1) + 1) ns in
    let carried = c.carry.ensures items (numbered_carried items c.args.run.now c.in-Numbered.numbered c.in-Numbered.field-1 (k + 1) c.args.carried.now c.in-Numbered.is c.requires.carried) in
    let row = c.in_ok-give_carried-in-Numbered.ensures (stated_at items cs end) (stated_long flat cs end) carried in
    let state : k + 1 < length ns = subst (λ n. k + 1 < n) (states_long items cs ns) (subst (λ (r : Stated). k + 1 < length (states_in items r)) c.in-Numbered.is c.requires.state) in
    let label : k < length (labels_of items cs ns) = subst (λ (r : Stated). k < length (labels_in items r)) c.in-Numbered.is c.requires.label in
    subst (λ (r : Stated). IsGiven flat.items.now (given (list_at (states_in items r) (k + 1))) (given (list_at (labels_in items r) k)) values) (sym c.in-Numbered.is)
    (subst (λ (gs : List Given). IsGiven flat.items.now (given gs) (given (list_at (labels_of items cs ns) k)) values) (sym (state_here items cs ns (k + 1) state))
    (subst (λ (gs : List Given). IsGiven flat.items.now (given (state_at items cs end)) (given gs) values) (sym (label_here items cs ns k label)) row))
