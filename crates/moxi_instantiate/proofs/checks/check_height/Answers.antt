use Rattle.std.proofs.Common.{◌∙◌, List, map, ap}
use Rattle.moxi_scripts.specs.declared.script.Formula.{Formula}
use Rattle.moxi_scripts.specs.Script.{plain_formula}
use Rattle.moxi_flat.specs.Systems.{formulas_height}
use Rattle.moxi_instantiate.specs.Counting.{capped, known}
use Rattle.moxi_instantiate.proofs.CheckLaws.{check_heights}
use Rattle.moxi_instantiate.proofs.checks.check_height.Goals as goal

pub returns-clause-value : goal.returns-clause-value
returns-clause-value c = λ calls counted.
    let own = λ (fs : List Formula). capped (formulas_height (known c.args.heights.now) (map plain_formula fs)) in
    check_heights calls c.args.heights.now counted c.args.check.now c.formulas_height-2.result c.formulas_height.result c.formulas_height-reachables.result c.greater-first.result c.greater.result
    (c.formulas_height-2.ensures.value ∙ ap own c.as_slice-3.ensures) (c.formulas_height.ensures.value ∙ ap own c.as_slice-2.ensures) (c.formulas_height-reachables.ensures.value ∙ ap own c.as_slice.ensures)
    c.greater-first.ensures.value c.greater.ensures.value
