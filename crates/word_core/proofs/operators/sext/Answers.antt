use Rattle.std.proofs.Common.{◌≡◌, ◌+◌, ◌-◌, ◌<◌, ◌≤◌, ◌^◌, sym, subst, arith, ap, ◌∙◌}
use Rattle.word_core.specs.Words.{BitVector, IsWord}
use Rattle.word_core.specs.declared.word.TheConstants.{WIDEST}
use Rattle.word_core.specs.Table.{uext_of}
use Rattle.word_core.specs.laws.Rows.{uext_is_word, power_grows}
use Rattle.word_core.proofs.operators.sext.Goals as goal

pub overflow_sub-ones : goal.overflow_sub-ones
overflow_sub-ones c =
    let same : c.width-then-is_minus.result ≡ c.width.result = c.width-then-is_minus.ensures.value ∙ sym c.width.ensures.value in
    let less : c.ones-then-is_minus.result ≡ 2 ^ c.width.result - 1 = c.ones-then-is_minus.ensures ∙ ap (λ k. 2 ^ k - 1) same in
    omega (arith, less, c.ones.ensures, power_grows c.width.result c.args.count)

pub made_word-requires : goal.made_word-requires
made_word-requires c =
    let w = c.width.result in
    let n = c.args.count in
    let same : c.width-then-is_minus.result ≡ w = c.width-then-is_minus.ensures.value ∙ sym c.width.ensures.value in
    let less : c.ones-then-is_minus.result ≡ 2 ^ w - 1 = c.ones-then-is_minus.ensures ∙ ap (λ k. 2 ^ k - 1) same in
    let fits : c.args.a.bits < 2 ^ w = subst (λ k. c.args.a.bits < 2 ^ k) (sym c.width.ensures.value) c.width.ensures.word.2 in
    let wide : w + n ≤ WIDEST = omega (arith, c.width.ensures.value, c.requires) in
    let least : 1 ≤ w = omega (arith, c.width.ensures.value, c.width.ensures.word.0) in
    (omega (arith, least), wide, omega (arith, less, c.ones.ensures, power_grows w n, fits, c.bits-then-is_minus.ensures.value))

pub made_word-requires-else-is_minus : goal.made_word-requires-else-is_minus
made_word-requires-else-is_minus c =
    let made : BitVector = record { width = c.width.result + c.args.count; bits = c.bits-else-is_minus.result } in
    let e : made ≡ uext_of c.args.a c.args.count = cc in
    subst IsWord (sym e) (uext_is_word c.args.a c.args.count c.width.ensures.word c.requires)
