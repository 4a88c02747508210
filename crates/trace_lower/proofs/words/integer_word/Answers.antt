use Rattle.std.proofs.Common.{sym, subst}
use Rattle.word_core.specs.Words.{IsWord}
use Rattle.trace_lower.proofs.WordLaws.{integer_is_word}
use Rattle.trace_lower.proofs.words.integer_word.Goals as goal

pub unwrap-requires : goal.unwrap-requires
unwrap-requires c =
    c.of.ensures.there.1 (subst (λ b. IsWord (record { width = c.args.width; bits = b })) (sym c.integer_bits.ensures) (integer_is_word c.args.width _ c.requires.some c.requires.bound))
