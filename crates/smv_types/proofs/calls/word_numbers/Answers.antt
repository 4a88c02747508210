use Rattle.std.proofs.Common.{◌≤◌, ◌^◌, pos, ap, arith}
use Rattle.std.proofs.Math.Pow.{pow_mono}
use Rattle.std.proofs.lemmas.Int.{ints}
use Rattle.smv_meaning.specs.Types.{integer_type}
use Rattle.smv_types.proofs.Fitting.{word_in_limit, word_over_limit}
use Rattle.smv_types.proofs.calls.word_numbers.Goals as goal

pub returns-then-width-le-WIDEST_INTEGER : goal.returns-then-width-le-WIDEST_INTEGER
returns-then-width-le-WIDEST_INTEGER c =
    let g : 2 ^ c.args.width ≤ 2 ^ 62 = pow_mono {j = 62} (omega arith) in
    (word_in_limit c.args.width (omega arith), ap (integer_type (pos 0)) (omega (arith, ints)))

pub returns-else-width-le-WIDEST_INTEGER : goal.returns-else-width-le-WIDEST_INTEGER
returns-else-width-le-WIDEST_INTEGER c = word_over_limit c.args.width (omega arith)
