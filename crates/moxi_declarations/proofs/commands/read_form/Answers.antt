use Rattle.std.proofs.Common.{◌≡◌, suc, Some, ap, sym, ◌∙◌, arith}
use Rattle.moxi_sexpr.specs.Tree.{all_nodes, nodes, plain, plain_forms}
use Rattle.moxi_term_reading.proofs.ReadingLaws.{plain_list}
use Rattle.moxi_scripts.specs.Shapes.{headed}
use Rattle.moxi_attributes.specs.Views.{headed_here, headed_now}
use Rattle.moxi_attributes.specs.laws.FormSizes.{headed_few}
use Rattle.moxi_declarations.proofs.commands.read_form.Goals as goal

pub read_headed-requires : goal.read_headed-requires
read_headed-requires c =
    let ts = plain_forms c.in-List.parts.items in
    let whole : nodes (plain c.args.form.now) ≡ suc (all_nodes ts) = ap nodes (plain_list c.args.form.now c.in-List.parts c.in-List.is) in
    let e : headed ts ≡ Some (headed_here c.in-Some.h) =
    ap (λ fs. headed (plain_forms fs)) (sym c.deref.ensures.value) ∙ sym c.headed_forms.ensures ∙ ap headed_now c.in-Some.is in
    omega (arith, headed_few ts (headed_here c.in-Some.h) e, whole, c.requires)
