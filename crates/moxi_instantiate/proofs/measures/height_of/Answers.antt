use Rattle.std.proofs.Common.{◌∙◌, length, ap, subst, sym}
use Rattle.moxi_scripts.specs.ScriptView.{plain_script}
use Rattle.moxi_flat.specs.Terms.{call_heights, term_height}
use Rattle.moxi_instantiate.specs.declared.systems.Measure.TheVariants.{Height}
use Rattle.moxi_instantiate.specs.Amounts.{amount_upto}
use Rattle.moxi_instantiate.specs.Counting.{AreCounted, capped, known}
use Rattle.moxi_instantiate.proofs.Filling.{levels_agree}
use Rattle.moxi_instantiate.proofs.Measured.{counted_in, script_max}
use Rattle.moxi_instantiate.proofs.measures.height_of.Goals as goal

pub returns : goal.returns
returns c =
    let p = plain_script c.args.script.now in
    let exact = call_heights p.scope in
    let heights = c.in_ok-heights.heights.items in
    let counted : AreCounted (call_heights (plain_script c.args.script.now).scope) c.in_ok-heights.heights.items =
    counted_in term_height c.functions.result.now p.scope.functions heights c.functions.ensures.functions c.in_ok-heights.ensures in
    script_max p c.in_ok-instances.instances c.check_height-asked.result c.greater-height.result
    (c.in_ok-instances.ensures.value ∙ ap (λ xs. capped (amount_upto Height (known xs) p.systems (length p.systems) p.check.system)) c.deref.ensures.value
    ∙ levels_agree Height (known heights) exact counted p.systems (length p.systems) p.check.system)
    (c.check_height-asked.ensures.value exact (subst (AreCounted exact) (sym c.deref-2.ensures.value) counted)) c.greater-height.ensures.value
