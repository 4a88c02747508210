use Rattle.std.proofs.Common.{◌≡◌, Some, ap, sym, ◌∙◌, arith}
use Rattle.moxi_sexpr.specs.Tree.{plain_forms}
use Rattle.moxi_scripts.specs.Shapes.{headed}
use Rattle.moxi_attributes.specs.Views.{headed_here, headed_now}
use Rattle.moxi_attributes.specs.laws.FormSizes.{headed_few}
use Rattle.moxi_declarations.proofs.checks.read_check.Goals as goal

pub read_shaped-requires : goal.read_shaped-requires
read_shaped-requires c =
    let ts = plain_forms c.args.forms.now in
    let e : headed ts ≡ Some (headed_here c.in-Some.h) = sym c.headed_forms.ensures ∙ ap headed_now c.in-Some.is in
    omega (arith, headed_few ts (headed_here c.in-Some.h) e, c.requires.few)
