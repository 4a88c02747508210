use Rattle.std.proofs.Common.{ap, arith}
use Rattle.moxi_sexpr.proofs.Counting.{forms_end, forms_step}
use Rattle.moxi_sexpr.specs.Tree.{all_nodes}
use Rattle.moxi_sexpr.proofs.nodes.+count.Goals as goal

pub add_all_nodes-loop-form-preserved : goal.add_all_nodes-loop-form-preserved
add_all_nodes-loop-form-preserved t c =
    let l = c.loop-form in
    let e = forms_step c.args.forms.now l.form-index c.form-item.result c.loop-form-test.true c.form-item.is in
    record {
      sum = omega (arith, ap all_nodes e, c.add_nodes-all.ensures, l.invariant.sum);
      few = omega (arith, c.add_nodes-all.ensures);
    }

pub add_all_nodes-returns : goal.add_all_nodes-returns
add_all_nodes-returns t c =
    let l = c.loop-form in
    omega (arith, ap all_nodes (forms_end c.args.forms.now l.form-index c.loop-form-test.false), l.invariant.sum, l.invariant.few)
