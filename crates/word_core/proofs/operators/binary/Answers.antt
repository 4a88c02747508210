use Rattle.std.proofs.Common.{◌≡◌, sym, subst}
use Rattle.word_core.specs.Words.{BitVector, IsWord}
use Rattle.word_core.specs.Table.{binary_of}
use Rattle.word_core.specs.laws.Rows.{binary_is_word}
use Rattle.word_core.proofs.operators.binary.Goals as goal

pub made_word-requires : goal.made_word-requires
made_word-requires c =
    let made : BitVector = record { width = c.binary_width-width.result; bits = c.binary_number-number.result } in
    let e : made ≡ binary_of c.args.op c.args.a c.args.b = cc in
    subst IsWord (sym e) (binary_is_word c.args.op c.args.a c.args.b c.width.ensures.word c.width-2.ensures.word c.requires)
