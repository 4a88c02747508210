-- One line further up.
use Rattle.std.proofs.Common.{◌≡◌, ◌<◌, ◌-◌, ℕ, zero, suc, List, Some, None, false, sym, ap, ◌∙◌, cond, arith}
use Rattle.std.specs.Prelude.{nat_le, option_and_then}
use Rattle.explain_core.specs.Lines.{line_of_number}
use Rattle.explain_core.specs.Near.{found_in, or_else, token_above}

pub above_step : (lines : List (List ℕ)) (line : List ℕ) (above left : ℕ) → 0 < left → nat_le above 1 ≡ false → line_of_number lines (above - 1) ≡ Some line → found_in line (above - 1) ≡ None
    → token_above lines (above - 1) (left - 1) ≡ token_above lines above left
unfolding token_above
above_step lines line above zero some low is none = absurd (omega arith)
above_step lines line above (suc left) some low is none =
    let e : suc left - 1 ≡ left = omega arith in
    ap (λ n. token_above lines (above - 1) n) e
    ∙ sym (
    ap (λ v. cond v None (option_and_then (λ l. or_else (found_in l (above - 1)) (token_above lines (above - 1) left)) (line_of_number lines (above - 1)))) low
    ∙ ap (λ o. option_and_then (λ l. or_else (found_in l (above - 1)) (token_above lines (above - 1) left)) o) is
    ∙ ap (λ o. or_else o (token_above lines (above - 1) left)) none
    )
