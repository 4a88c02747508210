use Rattle.std.proofs.Common.{◌≡◌, drop, map}
use Rattle.explain_core.specs.Tokens.{sign_length}
use Rattle.explain_core.proofs.tokens.sign_length.Given as goal

abbrev pub invariant-loop-sign : goal.invariant-loop-sign
invariant-loop-sign l = sign_length (map (λ sign. sign.now) (drop l.sign-index l.signs)) l.rest ≡ sign_length (map (λ sign. sign.now) l.signs) l.rest
