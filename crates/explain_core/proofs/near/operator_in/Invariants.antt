use Rattle.std.proofs.Common.{◌≡◌, ◌≤◌, ◌-◌, length, map, drop}
use Rattle.explain_core.specs.Near.{operator_in}
use Rattle.explain_core.proofs.near.operator_in.Given as goal

abbrev pub invariant-tokens : goal.invariant-tokens
invariant-tokens l = record {
  within : l.at ≤ length l.rest;
  few : l.depth ≤ l.at;
  rest_is : operator_in (map (λ word. word.now) l.wanted) 0 l.at l.depth (drop l.at l.rest) ≡ operator_in (map (λ word. word.now) l.wanted) 0 0 0 l.rest;
}

abbrev pub decreases-tokens : goal.decreases-tokens
decreases-tokens l = length l.rest - l.at
