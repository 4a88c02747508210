use Rattle.std.proofs.Common.{◌≡◌, ◌∙◌, ◌+◌, ◌*◌, ◌^◌, sym, ap, subst, arith, None}
use Rattle.std.specs.Prelude.{option_and_then}
use Rattle.word_core.specs.Digits.{below}
use Rattle.word_core.proofs.DigitLaws.{passes_at}
use Rattle.word_core.proofs.digits.number_below.Goals as goal

pub returns-in_err-number : goal.returns-in_err-number
returns-in_err-number c =
    let limit = 2 ^ c.args.width in
    let n = c.loop-b.number in
    let d = c.digit_number-digit.result in
    let most : c.ones-most.result + 1 ≡ limit = omega (arith, c.ones-most.ensures, c.loop-b.invariant.1) in
    let over : below limit (n * c.args.base + d) ≡ None = subst (λ m. below m (n * c.args.base + d) ≡ None) most (sym c.with_digit.ensures ∙ c.in_err-number.was) in
    c.from_residual.ensures
    ∙ sym (ap (option_and_then (below limit)) c.loop-b.invariant.0
    ∙ passes_at c.args.base limit n c.loop-b.b-index d c.args.digits.now
    (omega (arith, c.requires.base_low)) (omega arith) c.digit_number-digit.ensures (omega arith) over)
