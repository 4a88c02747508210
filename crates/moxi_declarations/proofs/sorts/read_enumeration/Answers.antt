use Rattle.std.proofs.Common.{◌≡◌, Some, ap, sym, ◌∙◌, arith}
use Rattle.moxi_sexpr.specs.Tree.{plain_forms}
use Rattle.moxi_scripts.specs.Shapes.{headed, named_in}
use Rattle.moxi_attributes.specs.Views.{named_here, named_now}
use Rattle.moxi_attributes.specs.laws.FormSizes.{named_few}
use Rattle.moxi_declarations.proofs.sorts.read_enumeration.Goals as goal

pub read_listed-requires : goal.read_listed-requires
read_listed-requires c =
    let ts = plain_forms c.args.forms.now in
    let e : named_in (headed ts) ≡ Some (named_here c.in-Some.n) = sym c.named_in.ensures ∙ ap named_now c.in-Some.is in
    omega (arith, named_few ts _ e, c.requires)
