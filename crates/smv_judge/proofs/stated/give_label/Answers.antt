use Rattle.std.proofs.Common.{List, sym, ◌∙◌, subst}
use Rattle.smv_meaning.specs.declared.value.Given.{Given}
use Rattle.smv_meaning.specs.Values.{given}
use Rattle.smv_flat.specs.FlatParts.{parts_plain}
use Rattle.smv_numbered.specs.declared.heading.Heading.TheVariants as heading
use Rattle.smv_numbered.specs.Values.{values_of}
use Rattle.smv_rows.specs.Places.{IsGiven}
use Rattle.smv_judge.specs.declared.stated.Stated.{Stated}
use Rattle.smv_judge.specs.Stated.{label_in, IsJudgeable}
use Rattle.smv_judge.proofs.StatedRuns.{firsts_of, firsts_long, firsts_are, label_is}
use Rattle.smv_judge.proofs.stated.give_label.Goals as goal

pub returns-in_ok-give-in-Named : goal.returns-in_ok-give-in-Named
returns-in_ok-give-in-Named c =
    let items = (parts_plain c.args.flat.now).items in
    let state = given c.at.result.now in
    (state, subst (λ (r : Stated). IsGiven c.args.flat.now.items.now state (given (label_in items r)) c.give.new.self.values.items) (sym c.in-Named.is) c.in_ok-give-in-Named.ensures)

pub returns-in_ok-give_carried-in-Numbered : goal.returns-in_ok-give_carried-in-Numbered
returns-in_ok-give_carried-in-Numbered c =
    let flat = c.args.flat.now in
    let items = (parts_plain flat).items in
    let values = c.give_carried.new.self.values.items in
    let firsts = (subst (λ (r : Stated). IsJudgeable flat c.args.order.now r) c.in-Numbered.is c.requires.judgeable).1 in
    let row = c.in_ok-give_carried-in-Numbered.ensures (firsts_of items) (firsts_long flat) (c.in_ok-carried-in-Numbered.ensures ∙ firsts ∙ firsts_are items) in
    let state = given (values_of heading.State items (firsts_of items)) in
    let labelled = subst (λ (gs : List Given). IsGiven flat.items.now state (given gs) values) (label_is items) row in
    (state, subst (λ (r : Stated). IsGiven flat.items.now state (given (label_in items r)) values) (sym c.in-Numbered.is) labelled)
