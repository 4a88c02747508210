use Rattle.std.proofs.Common.{◌≡◌, ◌≤◌, ◌-◌, length, drop, None}
use Rattle.std.specs.Prelude.{IfSome}
use Rattle.explain_core.specs.Near.{last_token}
use Rattle.explain_core.proofs.near.last_token.Given as goal

abbrev pub invariant-tokens : goal.invariant-tokens
invariant-tokens l = record {
  within : l.at ≤ length l.front;
  rest_is : last_token 0 l.at l.last (drop l.at l.front) ≡ last_token 0 0 None l.front;
  before : IfSome l.last (λ r. r.0 ≤ r.1);
  behind : IfSome l.last (λ r. r.1 ≤ length l.front);
}

abbrev pub decreases-tokens : goal.decreases-tokens
decreases-tokens l = length l.front - l.at
