use Rattle.std.proofs.Common.{sym, ap, ◌∙◌, arith}
use Rattle.std.proofs.lemmas.Int.{ints}
use Rattle.std.proofs.lemmas.Result.{err_from_is_err_and}
use Rattle.smv_grammar.specs.Reading.{found, negated, first_integer}
use Rattle.smv_grammar.proofs.First.{integer-minus, integer-positive, positive}
use Rattle.smv_expressions.proofs.Following.{finds_free}
use Rattle.smv_expressions.proofs.leaves.integer.Goals as goal

pub returns-in_err-signed-in-Some-clause-found : goal.returns-in_err-signed-in-Some-clause-found
returns-in_err-signed-in-Some-clause-found c =
    let q = c.from_residual-in_err-signed-in-Some in
    let p = err_from_is_err_and q.result q.ensures.1 in
    finds_free _ (first_integer c.args.tokens.now) q.result p.0 _ p.1 p.2 c.in_err-signed-in-Some.ensures.err

pub overflow_sub-result : goal.overflow_sub-result
overflow_sub-result c =
    let is = c.in_ok-signed-in-Some.ensures.ok in
    let small = c.in_ok-signed-in-Some.ensures.small in
    omega (arith, ints, is, small)

pub returns-in_err-signed-in-None-clause-found : goal.returns-in_err-signed-in-None-clause-found
returns-in_err-signed-in-None-clause-found c =
    let q = c.from_residual-in_err-signed-in-None in
    let p = err_from_is_err_and q.result q.ensures.1 in
    finds_free _ (first_integer c.args.tokens.now) q.result p.0 _ p.1 p.2 c.in_err-signed-in-None.ensures.err

pub returns-in_ok-signed-in-Some-clause-found : goal.returns-in_ok-signed-in-Some-clause-found
returns-in_ok-signed-in-Some-clause-found c =
    integer-minus c.args.tokens.now c.in-Some.more.now (sym c.in-Some.ensures.found) ∙ ap negated c.in_ok-n-in-Some.ensures.found
    ∙ ap (λ z. found z c.in_ok-n-in-Some.rest.now) (let is = c.in_ok-signed-in-Some.ensures.ok in let small = c.in_ok-signed-in-Some.ensures.small in omega (arith, ints, is, small))

pub returns-in_ok-signed-in-None-clause-found : goal.returns-in_ok-signed-in-None-clause-found
returns-in_ok-signed-in-None-clause-found c =
    integer-positive c.args.tokens.now (sym c.in-None.ensures.found) ∙ ap positive c.in_ok-n-in-None.ensures.found
    ∙ ap (λ z. found z c.in_ok-n-in-None.rest.now) (let is = c.in_ok-signed-in-None.ensures.ok in let small = c.in_ok-signed-in-None.ensures.small in omega (arith, ints, is, small))
