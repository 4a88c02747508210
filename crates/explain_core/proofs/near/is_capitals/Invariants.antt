use Rattle.std.proofs.Common.{◌≡◌, drop}
use Rattle.explain_core.specs.Near.{is_capitals}
use Rattle.explain_core.proofs.near.is_capitals.Given as goal

abbrev pub invariant-loop-b : goal.invariant-loop-b
invariant-loop-b l = is_capitals (drop l.b-index l.token) ≡ is_capitals l.token
