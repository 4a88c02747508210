use Rattle.std.proofs.Common.{◌≡◌, ◌+◌, ◌-◌, ℕ, false, length, drop, take, map, sym, ap, ◌∙◌, arith, cond}
use Rattle.std.proofs.lemmas.List.{length-drop, length-take, take_rest}
use Rattle.explain_core.proofs.Skipping.{misses, misses_first, misses_open, misses_token, operator_ends, operator_goes, operator_hits}
use Rattle.explain_core.proofs.near.operator_in.Goals.{else-depth-eq0-via-then-depth-eq0+then-at-gt0+else-is_among, else-depth-eq0-via-then-depth-eq0+else-at-gt0, else-depth-eq0-via-else-depth-eq0}
use Rattle.explain_core.proofs.near.operator_in.Goals as goal

pub returns-then-is_among-clause-value : goal.returns-then-is_among-clause-value
returns-then-is_among-clause-value c =
    operator_hits (map (λ word. word.now) c.args.wanted.now) c.args.rest.now (take (length c.args.rest.now - c.tokens.at) (drop c.tokens.at c.args.rest.now)) _ c.tokens.at c.smv_token_length.result c.tokens.depth
    c.tokens-test.true (take_rest c.args.rest.now c.tokens.at) c.smv_token_length.ensures.value
    (ap (λ k. take k (drop c.tokens.at c.args.rest.now)) (let same : c.tokens.at + c.smv_token_length.result - c.tokens.at ≡ c.smv_token_length.result = omega arith in same)
    ∙ ap (take c.smv_token_length.result) (sym (take_rest c.args.rest.now c.tokens.at)))
    c.if-depth-eq0.true c.if-at-gt0.true (sym c.is_among.ensures ∙ c.if-is_among.true)
    ∙ c.tokens.invariant.rest_is

pub returns-then-depth-eq0-2-clause-value : goal.returns-then-depth-eq0-2-clause-value
returns-then-depth-eq0-2-clause-value c =
    let miss : misses (map (λ word. word.now) c.args.wanted.now) c.tokens.at c.tokens.depth (take (length c.args.rest.now - c.tokens.at) (drop c.tokens.at c.args.rest.now)) ≡ false = elim c.else-depth-eq0.branch [
      | else-depth-eq0-via-then-depth-eq0+then-at-gt0+else-is_among w ↦
          misses_token (map (λ word. word.now) c.args.wanted.now) c.tokens.at c.tokens.depth c.smv_token_length.result (take (length c.args.rest.now - c.tokens.at) (drop c.tokens.at c.args.rest.now)) _ c.smv_token_length.ensures.value
          (ap (λ k. take k (drop c.tokens.at c.args.rest.now)) (let same : c.tokens.at + c.smv_token_length.result - c.tokens.at ≡ c.smv_token_length.result = omega arith in same)
          ∙ ap (take c.smv_token_length.result) (sym (take_rest c.args.rest.now c.tokens.at))) (sym w.is_among.ensures ∙ w.if-is_among.false)
      | else-depth-eq0-via-then-depth-eq0+else-at-gt0 w ↦ misses_first (map (λ word. word.now) c.args.wanted.now) c.tokens.at c.tokens.depth (take (length c.args.rest.now - c.tokens.at) (drop c.tokens.at c.args.rest.now)) (omega arith)
      | else-depth-eq0-via-else-depth-eq0 w ↦ misses_open (map (λ word. word.now) c.args.wanted.now) c.tokens.at c.tokens.depth (take (length c.args.rest.now - c.tokens.at) (drop c.tokens.at c.args.rest.now)) (omega arith)
    ] in
    operator_ends (map (λ word. word.now) c.args.wanted.now) c.args.rest.now (take (length c.args.rest.now - c.tokens.at) (drop c.tokens.at c.args.rest.now)) c.tokens.at c.tokens.depth
    c.tokens-test.true (take_rest c.args.rest.now c.tokens.at) miss (sym c.closes.ensures ∙ c.if-closes.true) c.if-depth-eq0-2.true
    ∙ c.tokens.invariant.rest_is

pub tokens-preserved-then-opens : goal.tokens-preserved-then-opens
tokens-preserved-then-opens c =
    let miss : misses (map (λ word. word.now) c.args.wanted.now) c.tokens.at c.tokens.depth (take (length c.args.rest.now - c.tokens.at) (drop c.tokens.at c.args.rest.now)) ≡ false = elim c.else-depth-eq0.branch [
      | else-depth-eq0-via-then-depth-eq0+then-at-gt0+else-is_among w ↦
          misses_token (map (λ word. word.now) c.args.wanted.now) c.tokens.at c.tokens.depth c.smv_token_length.result (take (length c.args.rest.now - c.tokens.at) (drop c.tokens.at c.args.rest.now)) _ c.smv_token_length.ensures.value
          (ap (λ k. take k (drop c.tokens.at c.args.rest.now)) (let same : c.tokens.at + c.smv_token_length.result - c.tokens.at ≡ c.smv_token_length.result = omega arith in same)
          ∙ ap (take c.smv_token_length.result) (sym (take_rest c.args.rest.now c.tokens.at))) (sym w.is_among.ensures ∙ w.if-is_among.false)
      | else-depth-eq0-via-then-depth-eq0+else-at-gt0 w ↦ misses_first (map (λ word. word.now) c.args.wanted.now) c.tokens.at c.tokens.depth (take (length c.args.rest.now - c.tokens.at) (drop c.tokens.at c.args.rest.now)) (omega arith)
      | else-depth-eq0-via-else-depth-eq0 w ↦ misses_open (map (λ word. word.now) c.args.wanted.now) c.tokens.at c.tokens.depth (take (length c.args.rest.now - c.tokens.at) (drop c.tokens.at c.args.rest.now)) (omega arith)
    ] in
    record {
      within = omega (arith, length-take {A = ℕ}, length-drop {A = ℕ});
      few = omega arith;
      rest_is =
          operator_goes (map (λ word. word.now) c.args.wanted.now) c.args.rest.now (take (length c.args.rest.now - c.tokens.at) (drop c.tokens.at c.args.rest.now)) c.tokens.at c.smv_token_length.result c.tokens.depth (c.tokens.depth + 1)
          c.tokens-test.true (take_rest c.args.rest.now c.tokens.at) c.smv_token_length.ensures.value miss (sym c.closes.ensures ∙ c.if-closes.false)
          (ap (λ v. cond v (c.tokens.depth + 1) c.tokens.depth) (sym c.opens.ensures ∙ c.if-opens.true))
          ∙ c.tokens.invariant.rest_is;
    }

pub tokens-preserved : goal.tokens-preserved
tokens-preserved c =
    let miss : misses (map (λ word. word.now) c.args.wanted.now) c.tokens.at c.tokens.depth (take (length c.args.rest.now - c.tokens.at) (drop c.tokens.at c.args.rest.now)) ≡ false = elim c.else-depth-eq0.branch [
      | else-depth-eq0-via-then-depth-eq0+then-at-gt0+else-is_among w ↦
          misses_token (map (λ word. word.now) c.args.wanted.now) c.tokens.at c.tokens.depth c.smv_token_length.result (take (length c.args.rest.now - c.tokens.at) (drop c.tokens.at c.args.rest.now)) _ c.smv_token_length.ensures.value
          (ap (λ k. take k (drop c.tokens.at c.args.rest.now)) (let same : c.tokens.at + c.smv_token_length.result - c.tokens.at ≡ c.smv_token_length.result = omega arith in same)
          ∙ ap (take c.smv_token_length.result) (sym (take_rest c.args.rest.now c.tokens.at))) (sym w.is_among.ensures ∙ w.if-is_among.false)
      | else-depth-eq0-via-then-depth-eq0+else-at-gt0 w ↦ misses_first (map (λ word. word.now) c.args.wanted.now) c.tokens.at c.tokens.depth (take (length c.args.rest.now - c.tokens.at) (drop c.tokens.at c.args.rest.now)) (omega arith)
      | else-depth-eq0-via-else-depth-eq0 w ↦ misses_open (map (λ word. word.now) c.args.wanted.now) c.tokens.at c.tokens.depth (take (length c.args.rest.now - c.tokens.at) (drop c.tokens.at c.args.rest.now)) (omega arith)
    ] in
    record {
      within = omega (arith, length-take {A = ℕ}, length-drop {A = ℕ});
      few = omega arith;
      rest_is =
          operator_goes (map (λ word. word.now) c.args.wanted.now) c.args.rest.now (take (length c.args.rest.now - c.tokens.at) (drop c.tokens.at c.args.rest.now)) c.tokens.at c.smv_token_length.result c.tokens.depth c.tokens.depth
          c.tokens-test.true (take_rest c.args.rest.now c.tokens.at) c.smv_token_length.ensures.value miss (sym c.closes.ensures ∙ c.if-closes.false)
          (ap (λ v. cond v (c.tokens.depth + 1) c.tokens.depth) (sym c.opens.ensures ∙ c.if-opens.false))
          ∙ c.tokens.invariant.rest_is;
    }
