use Rattle.std.proofs.Common.{◌+◌, ap, arith}
use Rattle.word_core.proofs.Masks.{joined_fits, joined_is}
use Rattle.word_core.proofs.numbers.joined.Goals as goal

pub overflow_add-result : goal.overflow_add-result
overflow_add-result c =
    let a = c.args.a in
    let is = joined_is c.args.v c.args.w a c.args.b c.requires.high c.requires.a_fits c.requires.b_fits in
    omega (arith, is, joined_fits c.args.v c.args.w a c.args.b c.requires.high c.requires.a_fits c.requires.b_fits)

pub returns : goal.returns
returns c = ap (λ n. n + c.args.b) (joined_is c.args.v c.args.w c.args.a c.args.b c.requires.high c.requires.a_fits c.requires.b_fits)
