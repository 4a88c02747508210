use Rattle.std.proofs.Common.{◌∙◌, map, ap}
use Rattle.moxi_terms.specs.View.{plain}
use Rattle.moxi_scripts.specs.declared.script.Formula.{Formula}
use Rattle.moxi_flat.specs.Terms.{term_size}
use Rattle.moxi_instantiate.specs.declared.checks.FormulaKind.TheVariants.{Assumption, Current, Reachable}
use Rattle.moxi_instantiate.specs.CheckCounts.{all_numbers, queries_sum, unnamed_sum}
use Rattle.moxi_instantiate.specs.Counting.{capped, known}
use Rattle.moxi_instantiate.proofs.CheckLaws.{check_counted, formulas_counted}
use Rattle.moxi_instantiate.proofs.checks.check_size.Goals as goal

pub returns-clause-value : goal.returns-clause-value
returns-clause-value c = λ calls counted.
    let check = c.args.check.now in
    let sizes = c.args.sizes.now in
    let one = λ (f : Formula). capped (term_size (known sizes) (plain f.term)) in
    let a = c.in_ok-assumptions.assumptions.items in
    let b = c.in_ok-currents.currents.items in
    let r = c.in_ok-reachables.reachables.items in
    let qs = c.as_slice-queries.result.now in
    check_counted calls check a b r
    (c.in_ok-assumptions.ensures ∙ ap (map one) c.as_slice.ensures ∙ formulas_counted calls sizes counted check.assumptions)
    (c.in_ok-currents.ensures ∙ ap (map one) c.as_slice-2.ensures ∙ formulas_counted calls sizes counted check.currents)
    (c.in_ok-reachables.ensures ∙ ap (map one) c.as_slice-3.ensures ∙ formulas_counted calls sizes counted check.reachables)
    c.queries_size-named.result c.in_ok-assumed.assumed c.in_ok-current.current c.in_ok-reachable.reachable c.sum.result c.sum-2.result c.sum-3.result
    (c.queries_size-named.ensures.value ∙ ap (λ xs. capped (queries_sum xs c.deref-2.result.now c.deref-3.result.now qs)) c.deref.ensures.value
    ∙ ap (λ xs. capped (queries_sum a xs c.deref-3.result.now qs)) c.deref-2.ensures.value ∙ ap (λ xs. capped (queries_sum a b xs qs)) c.deref-3.ensures.value
    ∙ ap (λ qs. capped (queries_sum a b r qs)) c.as_slice-queries.ensures)
    (c.in_ok-assumed.ensures.value ∙ ap (λ xs. capped (unnamed_sum (all_numbers Assumption qs) 0 xs)) c.deref-4.ensures.value ∙ ap (λ qs. capped (unnamed_sum (all_numbers Assumption qs) 0 a)) c.as_slice-queries.ensures)
    (c.in_ok-current.ensures.value ∙ ap (λ xs. capped (unnamed_sum (all_numbers Current qs) 0 xs)) c.deref-5.ensures.value ∙ ap (λ qs. capped (unnamed_sum (all_numbers Current qs) 0 b)) c.as_slice-queries.ensures)
    (c.in_ok-reachable.ensures.value ∙ ap (λ xs. capped (unnamed_sum (all_numbers Reachable qs) 0 xs)) c.deref-6.ensures.value ∙ ap (λ qs. capped (unnamed_sum (all_numbers Reachable qs) 0 r)) c.as_slice-queries.ensures)
    c.sum.ensures.value c.sum-2.ensures.value c.sum-3.ensures.value
