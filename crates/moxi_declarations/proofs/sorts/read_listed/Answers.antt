use Rattle.std.proofs.Common.{◌≡◌, Some, ap, sym, ◌∙◌, arith}
use Rattle.moxi_sexpr.specs.Tree.{plain, plain_forms}
use Rattle.moxi_scripts.specs.Shapes.{parts_of}
use Rattle.moxi_attributes.specs.Views.{parts_now}
use Rattle.moxi_attributes.specs.laws.FormSizes.{parts_few}
use Rattle.moxi_declarations.proofs.SizeLaws.{symbols_few}
use Rattle.moxi_declarations.proofs.sorts.read_listed.Goals as goal

pub add_constants-requires : goal.add_constants-requires
add_constants-requires c =
    let ts = plain_forms c.in-Some.parts.now in
    let e : parts_of (plain c.args.n.form.now) ≡ Some ts = sym c.parts_of.ensures ∙ ap parts_now c.in-Some.is in
    omega (arith, parts_few _ ts e, symbols_few ts, c.requires)
