use Rattle.std.proofs.Common.{◌≡◌, sym, subst, arith}
use Rattle.word_core.specs.Words.{IsWord}
use Rattle.moxi_lines.specs.Codes.{choice_width}
use Rattle.moxi_lower.proofs.Steps.{choice_word, few_counts}
use Rattle.moxi_lower.proofs.lower.choice_code.Goals as goal

pub unwrap-requires : goal.unwrap-requires
unwrap-requires c =
    let same : c.from.result ≡ c.args.i = omega (arith, c.from.ensures) in
    let word = choice_word c.args.count c.args.i c.requires (few_counts c.args.count (omega (arith, c.ranges.count.fits))) in
    c.of.ensures.there.1
    (subst (λ w. IsWord (record { width = w; bits = c.from.result })) (sym c.choice_width.ensures)
    (subst (λ b. IsWord (record { width = choice_width c.args.count; bits = b })) (sym same) word))
