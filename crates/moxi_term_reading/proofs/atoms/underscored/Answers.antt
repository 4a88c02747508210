use Rattle.std.proofs.Common.{◌≡◌, ◌++◌, Some, sym, ap, ◌∙◌, subst}
use Rattle.moxi_term_reading.specs.Reading.{symbol_underscored, underscore_reading, prime_failures}
use Rattle.moxi_term_reading.specs.Forms.{symbol_now, symbol_of, place_in}
use Rattle.moxi_term_reading.specs.Failures.{least}
use Rattle.moxi_term_reading.specs.Answer.{IsRead}
use Rattle.moxi_sexpr.specs.Tree.{plain, plain_forms}
use Rattle.moxi_term_reading.proofs.ReadingLaws.{tests_both}
use Rattle.moxi_term_reading.proofs.atoms.underscored.Goals as goal

pub returns-in-Some-symbol_of : goal.returns-in-Some-symbol_of
returns-in-Some-symbol_of c =
    let f = c.in-Some.form.now in
    let x = c.in-Some-symbol_of in
    let p = c.args.p in
    let q = c.args.q in
    let first = c.args.first in
    let fs = prime_failures first q in
    let gs = prime_failures x.second (place_in (plain f)) in
    let second = c.prime-in-Some-symbol_of.ensures ∙ ap (λ p. least (prime_failures x.second p)) c.place_in.ensures in
    let primes = c.minimum-primes.ensures ∙ tests_both c.prime.result c.prime-in-Some-symbol_of.result fs gs c.prime.ensures second in
    let symbol : Some (x.name.now, x.second) ≡ symbol_of (plain f) = ap symbol_now (sym x.is) ∙ c.symbol_of.ensures in
    subst (λ ts. IsRead (underscore_reading p q first (plain_forms ts)) c.named_literal.result) (sym c.in-Some.ensures.cases.0)
    (subst (λ o. IsRead (symbol_underscored p q first (place_in (plain f)) o (plain_forms c.in-Some.more.now)) c.named_literal.result) symbol (c.named_literal.ensures (fs ++ gs) primes))
