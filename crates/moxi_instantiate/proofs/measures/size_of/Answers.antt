use Rattle.std.proofs.Common.{◌∙◌, length, ap, subst, sym}
use Rattle.moxi_scripts.specs.ScriptView.{plain_script}
use Rattle.moxi_flat.specs.Terms.{call_sizes, term_size}
use Rattle.moxi_instantiate.specs.declared.systems.Measure.TheVariants.{Size}
use Rattle.moxi_instantiate.specs.Amounts.{amount_upto}
use Rattle.moxi_instantiate.specs.Counting.{AreCounted, capped, known}
use Rattle.moxi_instantiate.proofs.Filling.{levels_agree}
use Rattle.moxi_instantiate.proofs.Measured.{counted_in, script_sum}
use Rattle.moxi_instantiate.proofs.measures.size_of.Goals as goal

pub returns : goal.returns
returns c =
    let p = plain_script c.args.script.now in
    let exact = call_sizes p.scope in
    let sizes = c.in_ok-sizes.sizes.items in
    let counted : AreCounted (call_sizes (plain_script c.args.script.now).scope) c.in_ok-sizes.sizes.items =
    counted_in term_size c.functions.result.now p.scope.functions sizes c.functions.ensures.functions c.in_ok-sizes.ensures in
    script_sum p c.cap-inputs.result c.cap-outputs.result c.sum-variables.result c.in_ok-instances.instances c.in_ok-asked.asked c.sum-rest.result c.sum-size.result
    (c.cap-inputs.ensures.value ∙ ap capped c.len.ensures) (c.cap-outputs.ensures.value ∙ ap capped c.len-2.ensures) c.sum-variables.ensures.value
    (c.in_ok-instances.ensures.value ∙ ap (λ xs. capped (amount_upto Size (known xs) p.systems (length p.systems) p.check.system)) c.deref.ensures.value
    ∙ levels_agree Size (known sizes) exact counted p.systems (length p.systems) p.check.system)
    (c.in_ok-asked.ensures.value exact (subst (AreCounted exact) (sym c.deref-2.ensures.value) counted)) c.sum-rest.ensures.value c.sum-size.ensures.value
