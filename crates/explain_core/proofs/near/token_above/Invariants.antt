use Rattle.std.proofs.Common.{◌≡◌, map}
use Rattle.explain_core.specs.Near.{token_above}
use Rattle.explain_core.proofs.near.token_above.Given as goal

abbrev pub invariant-lines : goal.invariant-lines
invariant-lines l = token_above (map (λ line. line.now) l.lines) l.above l.left ≡ token_above (map (λ line. line.now) l.lines) l.number l.most

abbrev pub decreases-lines : goal.decreases-lines
decreases-lines l = l.left
