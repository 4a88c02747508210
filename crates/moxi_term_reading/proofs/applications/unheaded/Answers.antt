use Rattle.std.proofs.Common.{◌≡◌, length, refl, sym, ap, ◌∙◌}
use Rattle.std.proofs.lemmas.List.{length-map}
use Rattle.moxi_terms.specs.View.{plain}
use Rattle.moxi_term_reading.specs.Failures.{least}
use Rattle.moxi_term_reading.specs.Reading.{head_tests}
use Rattle.moxi_term_reading.proofs.ReadingLaws.{tests_both}
use Rattle.moxi_term_reading.proofs.applications.unheaded.Goals as goal

pub returns : goal.returns
returns c x own a =
    let args = c.args.args in
    let tests = head_tests c.args.p c.args.f in
    let many : c.count.result ≡ length x.terms = c.count.ensures ∙ ap length c.deref.ensures.value ∙ sym (length-map args.terms.items plain) ∙ ap length a.terms in
    let test : c.head_test.result ≡ least (tests (length x.terms)) = c.head_test.ensures ∙ ap (λ n. least (tests n)) many in
    record { term = c.no_term.ensures; sort = refl; failure = c.minimum.ensures ∙ tests_both args.failure c.head_test.result x.failures (tests (length x.terms)) a.failure test }
