use Rattle.std.proofs.Common.{map, ap, sym, subst}
use Rattle.smv_text.specs.View.{plain}
use Rattle.smv_meaning.specs.Values.{given}
use Rattle.smv_laws.proofs.OrderLaws.{acyclic_passes}
use Rattle.smv_laws.proofs.SafeExpressions.{acyclic}
use Rattle.smv_instances.specs.View.{instance_plain}
use Rattle.smv_evaluation.specs.Asked.{States, IsAsked, value_asked}
use Rattle.smv_evaluation.proofs.ValueAt.{other_value}
use Rattle.smv_evaluation.proofs.model_value.value_in_table.Goals as goal

pub reach_of-requires : goal.reach_of-requires
reach_of-requires c =
    let t = map instance_plain c.args.table.now in
    acyclic_passes t (acyclic t c.requires.checked)

pub value_on_rows-requires-clause-asked : goal.value_on_rows-requires-clause-asked
value_on_rows-requires-clause-asked c =
    subst (λ (o : States). IsAsked (map instance_plain c.args.table.now) c.args.i (plain c.args.expr.now) (given c.args.now.now) o c.args.following) (sym c.in_ok-label.ensures.given) c.requires

pub returns : goal.returns
returns c =
    other_value c.value_on_rows.result _ _
    (ap (λ (o : States). value_asked (map instance_plain c.args.table.now) c.args.i (plain c.args.expr.now) (given c.args.now.now) o c.args.following) c.in_ok-label.ensures.given)
    c.value_on_rows.ensures
