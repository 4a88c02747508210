use Rattle.std.proofs.Common.{map, sym, ◌∙◌}
use Rattle.smv_instances.specs.View.{instance_plain}
use Rattle.smv_model_types.proofs.KeptLemmas.{more_kept}
use Rattle.smv_model_types.proofs.Stored.{stored_becomes, no_row_absurd}
use Rattle.smv_model_types.proofs.bodies.store.Goals as goal

pub returns-in_ok-put_at-in-Some-2-clause-put : goal.returns-in_ok-put_at-in-Some-2-clause-put
returns-in_ok-put_at-in-Some-2-clause-put c =
    let t = map instance_plain c.args.model.now.table.now in
    stored_becomes t c.args.model.now.numbers.now.bodies c.args.model.now.bodies c.args.i c.args.x.now c.requires.is_body c.in-Some.k (sym c.row_value_in.ensures ∙ c.in-Some.is) c.args.entries.now.items c.put_at.new.kept.items c.args.named
    c.in_ok-put_at-in-Some.ensures

pub returns-in_ok-put_at-in-Some-2-clause-kept : goal.returns-in_ok-put_at-in-Some-2-clause-kept
returns-in_ok-put_at-in-Some-2-clause-kept c =
    let t = map instance_plain c.args.model.now.table.now in
    let placed = sym (c.args.model.now.bodies c.args.i c.args.x.now) ∙ sym c.row_value_in.ensures ∙ c.in-Some.is in
    more_kept t c.requires.differ c.args.i c.args.x.now c.in-Some.k c.args.found c.args.kept.now.items c.put_at-in-Some.new.kept.items placed c.requires.found c.in_ok-put_at-in-Some-2.ensures c.requires.kept

pub returns-in-None-clause-put : goal.returns-in-None-clause-put
returns-in-None-clause-put c =
    let t = map instance_plain c.args.model.now.table.now in
    no_row_absurd t c.args.model.now.numbers.now.bodies c.args.model.now.bodies c.args.i c.args.x.now c.requires.is_body (sym c.row_value_in.ensures ∙ c.in-None.is)
