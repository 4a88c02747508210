use Rattle.std.proofs.Common.{length, refl, ap, sym, ◌∙◌}
use Rattle.smv_rows.proofs.RowLaw.{filled_is, fills_so}
use Rattle.smv_rows.proofs.row.Row.evaluate.Goals as goal

pub fill_bodies-requires-clause-size : goal.fill_bodies-requires-clause-size
fill_bodies-requires-clause-size c = c.requires.safe.2.size ∙ sym c.requires.order.bodies.size ∙ ap length (sym c.as_slice.ensures.value)

pub fill_bodies-requires-clause-safe : goal.fill_bodies-requires-clause-safe
fill_bodies-requires-clause-safe c =
    fills_so c.args.flat.now c.args.order.now c.requires.order c.args.self.now.values.items c.as_slice.result.now c.args.order.now.order.now c.as_slice.ensures.value refl c.requires.safe

pub returns-clause-values : goal.returns-clause-values
returns-clause-values c =
    filled_is c.args.flat.now c.args.order.now c.requires.order c.args.self.now.values.items c.fill_bodies.new.values.items c.as_slice.result.now c.args.order.now.order.now c.as_slice.ensures.value
    refl c.fill_bodies.ensures.row
