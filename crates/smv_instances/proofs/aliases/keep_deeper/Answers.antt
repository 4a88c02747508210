use Rattle.std.proofs.Common.{map, refl, arith}
use Rattle.smv_instances.specs.View.{instance_plain}
use Rattle.smv_instances.proofs.LeadLemmas.{right_more, stays_closed, kept_closed}
use Rattle.smv_instances.proofs.DepthLemmas.{led_more, counted_more, depth_fits}
use Rattle.smv_instances.proofs.aliases.keep_deeper.Goals as goal

pub overflow_add-deep : goal.overflow_add-deep
overflow_add-deep c =
    let own = c.requires.leads.1 in
    let fits = depth_fits c.args.leads.now c.args.keys.now c.args.key.instance c.args.key.name.now c.args.lead.depth c.requires.counted c.requires.leads.2 own.1 (c.requires.all c.args.key.instance c.args.key.name.now own.0) in
    omega (arith, fits)

pub returns-clause-right : goal.returns-clause-right
returns-clause-right c =
    let t = map instance_plain c.args.parts.now in
    right_more t c.args.leads.now c.add_row_in.new.map c.args.key.instance c.args.key.name.now _ c.requires.right
    c.requires.leads.0 c.requires.leads.3 c.in_ok-add_row_in.ensures

pub returns-clause-counted : goal.returns-clause-counted
returns-clause-counted c =
    let own = c.requires.leads.1 in
    counted_more c.args.leads.now c.add_row_in.new.map c.args.key.instance c.args.key.name.now _ c.args.lead.depth c.args.keys.now c.in_ok-add_row_in.ensures own.1
    (c.requires.all c.args.key.instance c.args.key.name.now own.0) refl c.requires.leads.2 c.requires.counted

pub returns-clause-more : goal.returns-clause-more
returns-clause-more c =
    let own = c.requires.leads.1 in
    led_more c.args.leads.now c.add_row_in.new.map c.args.key.instance c.args.key.name.now _ c.in_ok-add_row_in.ensures own.1 c.args.keys.now (c.requires.all c.args.key.instance c.args.key.name.now own.0)

pub returns-clause-stays : goal.returns-clause-stays
returns-clause-stays c =
    stays_closed (map instance_plain c.args.parts.now) c.args.leads.now c.add_row_in.new.map c.args.key.instance c.args.key.name.now _ c.in_ok-add_row_in.ensures

pub returns-clause-closed : goal.returns-clause-closed
returns-clause-closed c =
    kept_closed (map instance_plain c.args.parts.now) c.args.leads.now c.add_row_in.new.map c.args.key.instance c.args.key.name.now _ c.in_ok-add_row_in.ensures
