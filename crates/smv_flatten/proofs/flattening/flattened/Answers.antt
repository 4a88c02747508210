use Rattle.std.proofs.Common.{map, refl, sym, ap, ◌∙◌}
use Rattle.smv_instances.specs.View.{instance_plain}
use Rattle.smv_items.specs.FlatItemView.{item_plain}
use Rattle.smv_flat.specs.FlatForms.{flat_of}
use Rattle.smv_flat.specs.FlatFormulas.{form_plain}
use Rattle.smv_flatten.specs.FlatModel.{FlatModel}
use Rattle.smv_flatten.proofs.Models.{parts_are, ordered}
use Rattle.smv_flatten.proofs.flattening.flattened.Goals as goal

pub returns-clause-width : goal.returns-clause-width
returns-clause-width c =
    c.width_of-width.ensures.value (flat_of (map instance_plain c.args.table.now)) (sym (ap (map item_plain) c.deref.ensures.value ∙ c.requires.items)) (sym (ap (map form_plain) c.deref-2.ensures.value ∙ c.requires.formulas))

pub invariant_of-result : goal.invariant_of-result
invariant_of-result c =
    let t = map instance_plain c.args.table.now in
    let f : FlatModel = record { items = c.of.result; symbols = c.args.contents.symbols; formulas = c.of-2.result; width = c.width_of-width.result; weight = c.args.weight; invariants = c.args.invariants } in
    let form = parts_are t f (ap (map item_plain) c.of.ensures ∙ c.requires.items) c.requires.symbols (ap (map form_plain) c.of-2.ensures ∙ c.requires.formulas) in
    let width = c.width_of-width.ensures.value (flat_of t) (sym (ap (map item_plain) c.deref.ensures.value ∙ c.requires.items)) (sym (ap (map form_plain) c.deref-2.ensures.value ∙ c.requires.formulas)) in (
      c.width_of-width.ensures.some,
      c.width_of-width.ensures.bound,
      c.requires.model f form width c.requires.weight c.requires.invariants,
      ordered f (flat_of t) c.args.contents.order c.args.contents.order c.requires.order form refl,
    )
