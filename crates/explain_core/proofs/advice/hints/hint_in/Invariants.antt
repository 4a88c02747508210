use Rattle.std.proofs.Common.{◌≡◌, drop, map}
use Rattle.explain_core.specs.Advice.{hint_in, plain_advice}
use Rattle.explain_core.proofs.advice.hints.hint_in.Given as goal

abbrev pub invariant-loop-word : goal.invariant-loop-word
invariant-loop-word l = hint_in (map plain_advice (drop l.word-index l.hints)) l.token ≡ hint_in (map plain_advice l.hints) l.token
