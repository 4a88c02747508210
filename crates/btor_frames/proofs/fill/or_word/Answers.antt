use Rattle.std.proofs.Common.{◌≡◌, bit_or, sym, subst}
use Rattle.word_core.specs.Words.{BitVector, IsWord}
use Rattle.word_core.specs.Table.{binary_of}
use Rattle.word_core.specs.laws.Rows.{binary_is_word}
use Rattle.word_core.specs.declared.kinds.Binary.TheVariants.{Or}
use Rattle.btor_frames.proofs.fill.or_word.Goals as goal

pub word_of-requires : goal.word_of-requires
word_of-requires c =
    let made : BitVector = record { width = c.width.result; bits = bit_or c.bits.result c.bits-2.result } in
    let e : made ≡ binary_of Or c.args.a c.args.b = cc in
    subst IsWord (sym e) (binary_is_word Or c.args.a c.args.b c.bits.ensures.word c.bits-2.ensures.word c.requires)
