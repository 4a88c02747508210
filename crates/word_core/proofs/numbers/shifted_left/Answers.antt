use Rattle.std.proofs.Common.{◌*◌, ◌%◌, ◌^◌, ◌∙◌, sym, arith}
use Rattle.std.proofs.lemmas.Bool.{cond-true}
use Rattle.word_core.proofs.Masks.{again}
use Rattle.word_core.proofs.numbers.shifted_left.Goals as goal

pub returns-then-b-from : goal.returns-then-b-from
returns-then-b-from c =
    c.reduced.ensures.value
    ∙ again c.args.width (c.args.a * 2 ^ c.args.b) c.requires.high
    ∙ sym (cond-true _ (c.args.a * 2 ^ c.args.b % 2 ^ c.args.width) 0 (grind arith))
