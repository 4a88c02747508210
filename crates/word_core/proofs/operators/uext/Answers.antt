use Rattle.std.proofs.Common.{◌≡◌, ◌+◌, sym, subst}
use Rattle.word_core.specs.Words.{BitVector, IsWord}
use Rattle.word_core.specs.Table.{uext_of}
use Rattle.word_core.specs.laws.Rows.{uext_is_word}
use Rattle.word_core.proofs.operators.uext.Goals as goal

pub made_word-requires : goal.made_word-requires
made_word-requires c =
    let made : BitVector = record { width = c.width.result + c.args.count; bits = c.bits.result } in
    let e : made ≡ uext_of c.args.a c.args.count = cc in
    subst IsWord (sym e) (uext_is_word c.args.a c.args.count c.width.ensures.word c.requires)
