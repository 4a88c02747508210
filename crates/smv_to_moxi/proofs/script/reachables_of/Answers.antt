use Rattle.std.proofs.Common.{arith}
use Rattle.smv_script_terms.proofs.Depths.{form_low}
use Rattle.smv_script_terms.proofs.InRange.{form_in_range}
use Rattle.smv_to_moxi.proofs.script.reachables_of.Goals as goal

pub reachable_of-requires : goal.reachable_of-requires
reachable_of-requires c =
    let d = form_low c.args.formulas.now c.loop-form.form-index c.form-item.result c.loop-form-test.true c.form-item.is in
    let r = form_in_range c.args.formulas.now c.loop-form.form-index c.form-item.result c.loop-form-test.true c.form-item.is in
    record { deep = omega (arith, d); in_range = omega (arith, r) }
