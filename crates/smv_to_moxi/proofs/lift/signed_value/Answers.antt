use Rattle.std.proofs.Common.{◌≡◌, ◌^◌, ◌-◌, ◌≤◌, false, nat_lt, cond, pos, ◌-ℤ◌, sym, ap, ◌∙◌, arith}
use Rattle.std.proofs.lemmas.Bool.{le-ltb}
use Rattle.smv_to_moxi.proofs.LiftedWords.{negative, two_halves, half_small}
use Rattle.smv_to_moxi.proofs.lift.signed_value.Goals as goal

pub returns-else-bits-width : goal.returns-else-bits-width
returns-else-bits-width c =
    let w = c.args.width in
    let small = half_small w c.requires.bound in
    let test = c.if-bits-width.false in
    let half : 2 ^ (w - 1) ≤ c.args.bits = omega (arith, test, small) in
    let more : nat_lt c.args.bits (2 ^ (w - 1)) ≡ false = le-ltb c.args.bits (2 ^ (w - 1)) half in
    negative c.args.bits (2 ^ w) (2 ^ (w - 1)) (two_halves w c.requires.some) small half c.requires.fits ∙ sym (ap (λ b. cond b (pos c.args.bits) (pos c.args.bits -ℤ pos (2 ^ w))) more)
