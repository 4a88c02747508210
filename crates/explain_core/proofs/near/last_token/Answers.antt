use Rattle.std.proofs.Common.{◌-◌, ℕ, length, take, drop, ◌∙◌, arith}
use Rattle.std.proofs.lemmas.List.{length-take, length-drop, take_rest}
use Rattle.explain_core.proofs.Skipping.{token_here}
use Rattle.explain_core.proofs.near.last_token.Goals as goal

pub tokens-preserved-then-rest-gt32 : goal.tokens-preserved-then-rest-gt32
tokens-preserved-then-rest-gt32 c = record {
  within = omega (arith, length-take {A = ℕ}, length-drop {A = ℕ});
  rest_is =
      token_here c.args.front.now (take (length c.args.front.now - c.tokens.at) (drop c.tokens.at c.args.front.now)) c.tokens.at c.smv_token_length.result c.tokens.last c.starts_with.result
      c.tokens-test.true (take_rest c.args.front.now c.tokens.at) c.smv_token_length.ensures.value c.starts_with.ensures.value c.if-starts_with.false c.if-rest-gt32.true
      ∙ c.tokens.invariant.rest_is;
  before = omega arith;
  behind = omega (arith, length-take {A = ℕ}, length-drop {A = ℕ});
}
