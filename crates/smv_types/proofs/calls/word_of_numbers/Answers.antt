use Rattle.std.proofs.Common.{◌≡◌, length, arith}
use Rattle.smv_types.proofs.Fitting.{uwconst_unfit}
use Rattle.smv_types.proofs.calls.word_of_numbers.Goals as goal

pub returns-in-len1 : goal.returns-in-len1
returns-in-len1 c =
    let two : length c.args.types.now ≡ 2 = grind (arith, c.in_ok-check.ensures) in
    rw c.refusal-in-len1.ensures (uwconst_unfit c.args.place c.args.types.now c.args.arguments.now two (λ e. omega arith))

pub returns-in-len3-up : goal.returns-in-len3-up
returns-in-len3-up c =
    let two : length c.args.types.now ≡ 2 = grind (arith, c.in_ok-check.ensures) in
    rw c.refusal-in-len3-up.ensures (uwconst_unfit c.args.place c.args.types.now c.args.arguments.now two (λ e. omega arith))
