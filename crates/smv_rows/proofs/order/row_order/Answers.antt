use Rattle.std.proofs.Common.{map, refl}
use Rattle.smv_flat.specs.FlatFormulas.{form_plain}
use Rattle.smv_flat.specs.FlatParts.{parts_plain}
use Rattle.smv_rows.proofs.Bodied.{forms_held, order_is}
use Rattle.smv_rows.proofs.order.row_order.Goals as goal

pub bodies_of-requires-clause-held : goal.bodies_of-requires-clause-held
bodies_of-requires-clause-held c = forms_held c.args.flat.now.items.now (map form_plain c.args.flat.now.formulas.now) c.requires.held

pub returns-then-listed-clause-order : goal.returns-then-listed-clause-order
returns-then-listed-clause-order c = record {
  bodies = c.in_ok-bodies.ensures;
  order = order_is (parts_plain c.args.flat.now) c.args.flat.now.items.now c.in_ok-bodies.bodies.items c.args.order.now refl c.in_ok-bodies.ensures c.requires;
  places = λ h. absurd (cc);
  inputs = c.has_inputs-inputs.ensures;
}

pub returns-clause-order : goal.returns-clause-order
returns-clause-order c = record {
  bodies = c.in_ok-bodies.ensures;
  order = order_is (parts_plain c.args.flat.now) c.args.flat.now.items.now c.in_ok-bodies.bodies.items c.args.order.now refl c.in_ok-bodies.ensures c.requires;
  places = λ h. c.in_ok-places.ensures;
  inputs = c.has_inputs-inputs.ensures;
}
