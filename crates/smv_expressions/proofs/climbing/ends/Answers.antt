use Rattle.std.proofs.Common.{sym, ap, ◌∙◌, subst}
use Rattle.std.proofs.lemmas.Result.{err_from_is_err_and}
use Rattle.smv_text.specs.declared.token.Sign.TheVariants as sign
use Rattle.smv_grammar.specs.Machine.{failed}
use Rattle.smv_grammar.specs.Reading.{first_number}
use Rattle.smv_expressions.specs.Following.{IsLost, Misses}
use Rattle.smv_grammar.proofs.Steps.{high_end_goes, high_end_dies, high_colon_goes, high_colon_dies, low_end_goes, low_end_dies, low_close_goes, low_close_dies}
use Rattle.smv_expressions.proofs.Following.{selects_err}
use Rattle.smv_expressions.proofs.climbing.ends.Goals as goal

pub returns-in_err-high-clause-reads : goal.returns-in_err-high-clause-reads
returns-in_err-high-clause-reads c =
    let q = c.from_residual in
    let p = err_from_is_err_and q.result q.ensures.1 in
    let xs = c.args.tokens.now in
    selects_err _ xs _ p.0 _ p.1 p.2 (λ n dead at t k. high_end_dies k xs at t n (subst (IsLost (first_number xs)) dead c.in_err-high.ensures.found))

pub returns-in_err-behind-clause-reads : goal.returns-in_err-behind-clause-reads
returns-in_err-behind-clause-reads c =
    let q = c.from_residual-in_err-behind in
    let p = err_from_is_err_and q.result q.ensures.1 in
    let xs = c.args.tokens.now in
    let high = c.in_ok-high.high in
    let colon = c.in_ok-high.colon.now in
    selects_err _ xs _ p.0 _ p.1 p.2
    (λ n dead at t k.
    let m = subst (Misses sign.Colon colon) dead c.in_err-behind.ensures.passes in
    high_end_goes k xs colon at t high c.in_ok-high.ensures.found ∙ high_colon_dies k colon at t high m.1 ∙ ap failed (sym m.0))

pub returns-in_err-low-clause-reads : goal.returns-in_err-low-clause-reads
returns-in_err-low-clause-reads c =
    let q = c.from_residual-in_err-low in
    let p = err_from_is_err_and q.result q.ensures.1 in
    let xs = c.args.tokens.now in
    let high = c.in_ok-high.high in
    let colon = c.in_ok-high.colon.now in
    let behind = c.in_ok-behind.behind.now in
    selects_err _ xs _ p.0 _ p.1 p.2
    (λ n dead at t k.
    high_end_goes k xs colon at t high c.in_ok-high.ensures.found ∙ high_colon_goes k colon behind at t high c.in_ok-behind.ensures.passes
    ∙ low_end_dies k behind at t high n (subst (IsLost (first_number behind)) dead c.in_err-low.ensures.found))

pub returns-in_err-rest-clause-reads : goal.returns-in_err-rest-clause-reads
returns-in_err-rest-clause-reads c =
    let q = c.from_residual-in_err-rest in
    let p = err_from_is_err_and q.result q.ensures.1 in
    let xs = c.args.tokens.now in
    let high = c.in_ok-high.high in
    let colon = c.in_ok-high.colon.now in
    let behind = c.in_ok-behind.behind.now in
    let low = c.in_ok-low.low in
    let closing = c.in_ok-low.closing.now in
    selects_err _ xs _ p.0 _ p.1 p.2
    (λ n dead at t k.
    let m = subst (Misses sign.CloseBracket closing) dead c.in_err-rest.ensures.passes in
    high_end_goes k xs colon at t high c.in_ok-high.ensures.found ∙ high_colon_goes k colon behind at t high c.in_ok-behind.ensures.passes ∙ low_end_goes k behind closing at t high low c.in_ok-low.ensures.found
    ∙ low_close_dies k closing at t high low m.1 ∙ ap failed (sym m.0))

pub returns-clause-reads : goal.returns-clause-reads
returns-clause-reads c at t k =
    let xs = c.args.tokens.now in
    let high = c.in_ok-high.high in
    let colon = c.in_ok-high.colon.now in
    let behind = c.in_ok-behind.behind.now in
    let low = c.in_ok-low.low in
    let closing = c.in_ok-low.closing.now in
    high_end_goes k xs colon at t high c.in_ok-high.ensures.found ∙ high_colon_goes k colon behind at t high c.in_ok-behind.ensures.passes ∙ low_end_goes k behind closing at t high low c.in_ok-low.ensures.found
    ∙ low_close_goes k closing c.in_ok-rest.rest.now at t high low c.in_ok-rest.ensures.passes
