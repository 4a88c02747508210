use Rattle.std.proofs.Common.{◌≡◌, ◌-◌, false, arith}
use Rattle.std.specs.Prelude.{min, nat_eq}
use Rattle.explain_core.proofs.Putting.{excerpt_puts}
use Rattle.explain_core.proofs.messages.put_excerpt.Goals as goal

pub returns : goal.returns
returns g c =
    let some : nat_eq c.args.marked 0 ≡ false = grind (arith, c.if-marked-eq0.false) in
    let more : c.min-more.result ≡ min (min (c.args.marked - 1) (c.window_at-part.result.end - c.args.at)) 120 = grind (arith, c.min.ensures, c.min-more.ensures) in
    excerpt_puts c.put_caret.result _ _ _ _ _ _ c.args.line.now c.args.at c.args.marked _ _ _ some c.window_at-part.ensures.start c.window_at-part.ensures.end more c.in_ok-put_shown.ensures c.put_caret.ensures
