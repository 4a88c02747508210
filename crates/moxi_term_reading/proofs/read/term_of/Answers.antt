use Rattle.std.proofs.Common.{[], sym, ◌∙◌, subst}
use Rattle.std.proofs.lemmas.Option.{same_Some, none-some}
use Rattle.moxi_sexpr.specs.Tree as form
use Rattle.moxi_term_reading.specs.Answer.{IsRead, locals_of}
use Rattle.moxi_term_reading.specs.Reading.{Context, read}
use Rattle.moxi_terms.specs.Tree.{sorts_of}
use Rattle.moxi_terms.specs.View.{plain}
use Rattle.moxi_term_reading.specs.WellSorted.{IsTerm, IsSortedTerm}
use Rattle.moxi_term_reading.specs.laws.Least.{is_least, least_none}
use Rattle.moxi_term_reading.specs.laws.SortedParts.{known_variables}
use Rattle.moxi_term_reading.proofs.WellSorted.{term_sorted}
use Rattle.moxi_term_reading.proofs.read.term_of.Goals as goal

pub returns-in-Some-default : goal.returns-in-Some-default
returns-in-Some-default c =
    let ctx : Context = record { scope = c.args.scope.now; variables = locals_of c.args.variables.now; primes = c.args.primes } in
    let x = read ctx [] (form.plain c.args.form.now) in
    let got : IsRead x c.in_ok-r.r =
    subst (λ ls. IsRead (read (record { scope = c.args.scope.now; variables = ls; primes = c.args.primes }) [] (form.plain c.args.form.now)) c.in_ok-r.r) c.in_ok-locals.ensures c.in_ok-r.ensures in
    record { answers = is_least x.failures c.in-Some-default.f (sym got.failure ∙ c.in-Some-default.is-0); sorted = tt }

pub returns-in-None-Some : goal.returns-in-None-Some
returns-in-None-Some c =
    let ctx : Context = record { scope = c.args.scope.now; variables = locals_of c.args.variables.now; primes = c.args.primes } in
    let x = read ctx [] (form.plain c.args.form.now) in
    let got : IsRead x c.in_ok-r.r =
    subst (λ ls. IsRead (read (record { scope = c.args.scope.now; variables = ls; primes = c.args.primes }) [] (form.plain c.args.form.now)) c.in_ok-r.r) c.in_ok-locals.ensures c.in_ok-r.ensures in
    let sorted : IsSortedTerm ctx (sorts_of c.args.variables.now) c.in_ok-r.r =
    term_sorted ctx (sorts_of c.args.variables.now) (form.plain c.args.form.now) c.in_ok-r.r (known_variables c.args.variables.now) got c.in-None-Some.is-0 in
    record {
      answers = (least_none x.failures (sym got.failure ∙ c.in-None-Some.is-0), got.term, sym got.sort ∙ c.in-None-Some.is-1);
      sorted = subst (IsTerm c.args.scope.now c.args.primes (sorts_of c.args.variables.now) [] (plain c.in_ok-r.r.term)) (same_Some _ _ (sym sorted.known ∙ c.in-None-Some.is-1)) sorted.term;
    }

pub unreachable-requires : goal.unreachable-requires
unreachable-requires c =
    let ctx : Context = record { scope = c.args.scope.now; variables = locals_of c.args.variables.now; primes = c.args.primes } in
    let got : IsRead (read ctx [] (form.plain c.args.form.now)) c.in_ok-r.r =
    subst (λ ls. IsRead (read (record { scope = c.args.scope.now; variables = ls; primes = c.args.primes }) [] (form.plain c.args.form.now)) c.in_ok-r.r) c.in_ok-locals.ensures c.in_ok-r.ensures in
    let sorted : IsSortedTerm ctx (sorts_of c.args.variables.now) c.in_ok-r.r =
    term_sorted ctx (sorts_of c.args.variables.now) (form.plain c.args.form.now) c.in_ok-r.r (known_variables c.args.variables.now) got c.in-None-None.is-0 in
    none-some sorted.sort (sym c.in-None-None.is-1 ∙ sorted.known)
