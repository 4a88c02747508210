use Rattle.std.proofs.Common.{◌≡◌, drop, map}
use Rattle.explain_core.specs.Kinds.{is_among}
use Rattle.explain_core.proofs.advice.hints.is_among.Given as goal

abbrev pub invariant-loop-word : goal.invariant-loop-word
invariant-loop-word l = is_among (map (λ word. word.now) (drop l.word-index l.words)) l.token ≡ is_among (map (λ word. word.now) l.words) l.token
