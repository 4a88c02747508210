use Rattle.std.proofs.Common.{◌≡◌, Some, ap, sym, ◌∙◌, arith}
use Rattle.moxi_sexpr.specs.Tree.{plain}
use Rattle.moxi_scripts.specs.Shapes.{named}
use Rattle.moxi_attributes.specs.Views.{named_here, named_now}
use Rattle.moxi_attributes.specs.laws.FormSizes.{named_less}
use Rattle.moxi_attributes.proofs.labels.read_label.Goals as goal

pub read_truth-requires : goal.read_truth-requires
read_truth-requires c =
    let e : named (plain c.args.form.now) ≡ Some (named_here c.in-Some.n) = sym c.named_form.ensures ∙ ap named_now c.in-Some.is in
    omega (arith, named_less (plain c.args.form.now) (named_here c.in-Some.n) e, c.requires)
