-- More digits make no number less.
use Rattle.std.proofs.lemmas.List.{drop_more}
use Rattle.std.proofs.Common.{length, drop, get_or, subst, ◌≡◌, ℕ, ◌+◌, ◌*◌, ◌<◌, ◌≤◌, Bool, true, false, cond, List, [], ◌∷◌, Some, None, refl, arith, ap, ◌∙◌}
use Rattle.std.proofs.lemmas.Bool.Decides.{nat_tests}
use Rattle.std.specs.Prelude.{nat_lt, option_and_then}
use Rattle.word_core.specs.Digits.{below, digit_number, number_after}

not_below : (limit n : ℕ) → limit ≤ n → below limit n ≡ None
not_below limit n h = let e : nat_lt n limit ≡ false = grind (arith, h) in ap (λ c. cond c (Some n) None) e

over : (limit n : ℕ) → below limit n ≡ None → limit ≤ n
over limit n e = grind (arith, nat_tests, e)

grows : (base n d : ℕ) → 1 ≤ base → n ≤ n * base + d
grows base n d h = grind (arith, h)

pub passes : (base limit n : ℕ) (bs : List ℕ) → 1 ≤ base → limit ≤ n → option_and_then (below limit) (number_after base n bs) ≡ None
passes base limit n [] h k = not_below limit n k
passes base limit n (b ∷ bs) h k =
    by_test (nat_lt (digit_number b) base) base limit (n * base + digit_number b) bs (passes base limit (n * base + digit_number b) bs h (omega (arith, k, grows base n (digit_number b) h)))
  where
    by_test : (c : Bool) (base limit m : ℕ) (bs : List ℕ) → option_and_then (below limit) (number_after base m bs) ≡ None → option_and_then (below limit) (cond c (number_after base m bs) None) ≡ None
    by_test true base limit m bs e = e
    by_test false base limit m bs e = refl

one_more : (base limit n x : ℕ) (rest : List ℕ) → 1 ≤ base → digit_number x < base → limit ≤ n * base + digit_number x → option_and_then (below limit) (number_after base n (x ∷ rest)) ≡ None
one_more base limit n x rest h small k =
    let e : nat_lt (digit_number x) base ≡ true = grind (arith, small) in
    ap (λ c. option_and_then (below limit) (cond c (number_after base (n * base + digit_number x) rest) None)) e
    ∙ passes base limit (n * base + digit_number x) rest h k

pub passes_at : (base limit n i d : ℕ) (bs : List ℕ) → 1 ≤ base → i < length bs → d ≡ digit_number (get_or bs i 0) → d < base → below limit (n * base + d) ≡ None → option_and_then (below limit) (number_after base n (drop i bs)) ≡ None
passes_at base limit n i d bs h within is small k =
    ap (λ rest. option_and_then (below limit) (number_after base n rest)) (drop_more bs i 0 within)
    ∙ one_more base limit n (get_or bs i 0) (drop (i + 1) bs) h (subst (λ m. m < base) is small) (over limit (n * base + digit_number (get_or bs i 0)) (subst (λ m. below limit (n * base + m) ≡ None) is k))
