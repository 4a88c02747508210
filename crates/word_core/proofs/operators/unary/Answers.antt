use Rattle.std.proofs.Common.{◌≡◌, sym, subst}
use Rattle.word_core.specs.Words.{BitVector, IsWord}
use Rattle.word_core.specs.Table.{unary_of}
use Rattle.word_core.specs.laws.Rows.{unary_is_word}
use Rattle.word_core.proofs.operators.unary.Goals as goal

pub made_word-requires : goal.made_word-requires
made_word-requires c =
    let made : BitVector = record { width = c.unary_width-width.result; bits = c.unary_number-number.result } in
    let e : made ≡ unary_of c.args.op c.args.a = cc in
    subst IsWord (sym e) (unary_is_word c.args.op c.args.a c.width.ensures.word)
