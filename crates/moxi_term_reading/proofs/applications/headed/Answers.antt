use Rattle.std.proofs.Common.{◌≡◌, ◌++◌, length, sym, ap, ◌∙◌}
use Rattle.std.proofs.lemmas.List.{length-map}
use Rattle.moxi_terms.specs.Tree.{trees_of}
use Rattle.moxi_terms.specs.View.{plain}
use Rattle.moxi_term_reading.specs.Failures.{least}
use Rattle.moxi_term_reading.specs.Reading.{headed, applied_sort, argument_tests}
use Rattle.moxi_term_reading.specs.Answer.{kept, unless_some}
use Rattle.moxi_term_reading.proofs.ReadingLaws.{tests_both, unless_both, unless_least}
use Rattle.moxi_term_reading.proofs.applications.headed.Goals as goal

pub returns : goal.returns
returns c x fs a e =
    let args = c.args.args in
    let own = c.args.sorts.now in
    let functions = c.args.scope.now.functions in
    let h = c.args.head in
    let found = c.applied-sort.result in
    let sort = applied_sort functions h x.sorts in
    let many : c.count.result ≡ length x.terms = c.count.ensures ∙ ap length c.deref.ensures.value ∙ sym (length-map args.terms.items plain) ∙ ap length a.terms in
    let tests = argument_tests functions c.args.p h (length x.terms) x.sorts in
    let test : found.1 ≡ least tests = c.applied-sort.ensures.test
    ∙ ap (λ n. least (argument_tests functions c.args.p h n (kept args.whole own))) many ∙ ap (λ ss. least (argument_tests functions c.args.p h (length x.terms) ss)) a.sorts in
    let both = c.minimum-tests.ensures ∙ tests_both c.args.primes found.1 fs tests e test in
    let same = unless_both c.args.primes found.1 found.0 sort (c.applied-sort.ensures.sort ∙ ap (λ ss. unless_some found.1 (applied_sort functions h ss)) a.sorts) in
    record {
      term = c.head_term.ensures ∙ ap (λ ts. headed h (trees_of ts)) a.terms;
      sort = c.unless_failed.ensures ∙ ap (λ f. unless_some f found.0) c.minimum-tests.ensures ∙ same ∙ ap (λ f. unless_some f sort) (sym c.minimum-tests.ensures)
          ∙ unless_least (fs ++ tests) sort c.minimum-tests.result both;
      failure = c.minimum.ensures ∙ tests_both args.failure c.minimum-tests.result x.failures (fs ++ tests) a.failure both;
    }
