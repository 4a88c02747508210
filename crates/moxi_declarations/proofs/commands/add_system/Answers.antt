use Rattle.std.proofs.Common.{◌≡◌, Some, ap, sym, ◌∙◌, arith}
use Rattle.moxi_sexpr.specs.Tree.{plain_forms}
use Rattle.moxi_scripts.specs.Shapes.{headed}
use Rattle.moxi_attributes.specs.Views.{headed_here, headed_now}
use Rattle.moxi_attributes.specs.laws.FormSizes.{headed_few}
use Rattle.moxi_declarations.proofs.commands.add_system.Goals as goal

pub define_system-requires : goal.define_system-requires
define_system-requires c =
    let ts = plain_forms c.args.forms.now in
    let e : headed ts ≡ Some (headed_here c.in-Some.h) = sym c.headed_forms.ensures ∙ ap headed_now c.in-Some.is in
    omega (arith, headed_few ts (headed_here c.in-Some.h) e, c.requires.few)
