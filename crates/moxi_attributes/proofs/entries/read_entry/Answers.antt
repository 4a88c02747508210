use Rattle.std.proofs.Common.{◌++◌, ap, sym, ◌∙◌}
use Rattle.moxi_sexpr.specs.Tree.{plain}
use Rattle.moxi_term_reading.specs.Reading.{prime_failures}
use Rattle.moxi_term_reading.specs.SortReading.{sort_reading}
use Rattle.moxi_scripts.specs.Collecting.{also}
use Rattle.moxi_scripts.specs.Entries.{entry_tests, sort_failures}
use Rattle.moxi_attributes.specs.Views.{named_now}
use Rattle.moxi_attributes.specs.laws.Collecting.{also_two}
use Rattle.moxi_attributes.proofs.entries.read_entry.Goals as goal

pub returns-in_ok-push-in-Some-clause-finds : goal.returns-in_ok-push-in-Some-clause-finds
returns-in_ok-push-in-Some-clause-finds c =
    let a = c.args in
    let n = c.in-Some.n in
    also_two _ _ _ _ _ c.fail_primed.ensures c.note_sort.ensures
    ∙ ap (λ r. also a.found.now (prime_failures n.primed n.place ++ sort_failures r)) (c.sort_of-sort.ensures ∙ ap (λ q. sort_reading a.scope.now q (plain n.form.now)) c.place_of.ensures)
    ∙ ap (λ o. also a.found.now (entry_tests a.scope.now a.around (plain a.form.now) o)) (ap named_now (sym c.in-Some.is) ∙ c.named_form.ensures)
