use Rattle.std.proofs.Common.{◌≡◌, sym, ◌∙◌, length, arith}
use Rattle.smv_types.proofs.Fitting.{word_first, resize_unfit}
use Rattle.smv_types.proofs.calls.resized.Goals as goal

pub returns-in-len1 : goal.returns-in-len1
returns-in-len1 c =
    let two : length c.args.types.now ≡ 2 = omega arith in
    let fits = word_first c.args.types.now two (sym c.is_word.ensures ∙ c.in_ok-check-in-len2.ensures) in
    rw c.refusal-in-len1.ensures (resize_unfit c.args.place c.args.types.now c.args.arguments.now fits.1 (λ e. omega arith))

pub returns-in-len3-up : goal.returns-in-len3-up
returns-in-len3-up c =
    let two : length c.args.types.now ≡ 2 = omega arith in
    let fits = word_first c.args.types.now two (sym c.is_word.ensures ∙ c.in_ok-check-in-len2.ensures) in
    rw c.refusal-in-len3-up.ensures (resize_unfit c.args.place c.args.types.now c.args.arguments.now fits.1 (λ e. omega arith))
