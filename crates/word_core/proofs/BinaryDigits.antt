-- The binary digits of a number spell it.
use Rattle.std.proofs.Common.{◌≡◌, ℕ, zero, suc, ◌%◌, ◌<◌, ◌⊎◌, refl, arith, inl, inr, ◌+◌, sym, subst, ◌/◌, ◌*◌, cond, ltb, Option, Some, None, [], Bool, true, false, List, ◌∷◌, ◌++◌, ap, ◌∙◌, ◌^◌}
use Rattle.word_core.specs.Digits.{digit_number, number_after}
use Rattle.std.specs.Prelude.{option_and_then}
use Rattle.std.proofs.lemmas.Bool.{cond-true}

pub bit_cases : (n : ℕ) → (n % 2 ≡ 0) ⊎ (n % 2 ≡ 1)
bit_cases n = below_two (n % 2) (omega arith)
  where
    below_two : (d : ℕ) → d < 2 → (d ≡ 0) ⊎ (d ≡ 1)
    below_two zero h = inl refl
    below_two (suc zero) h = inr refl
    below_two (suc (suc d)) h = absurd (omega (arith, h))

pub digit_fact : (P : ℕ → Type 0) (n : ℕ) → P 48 → P 49 → P (48 + n % 2)
digit_fact P n a b = elim (bit_cases n) [ inl z ↦ subst (λ d. P (48 + d)) (sym z) a | inr o ↦ subst (λ d. P (48 + d)) (sym o) b ]

pub digit_is : (n : ℕ) → digit_number (48 + n % 2) ≡ n % 2
digit_is n = elim (bit_cases n) [ inl z ↦ subst (λ d. digit_number (48 + d) ≡ d) (sym z) refl | inr o ↦ subst (λ d. digit_number (48 + d) ≡ d) (sym o) refl ]

-- one more digit behind those before
pub one_behind : (d : ℕ) → ℕ → Option ℕ
one_behind d m = cond (ltb (digit_number d) 2) (Some (m * 2 + digit_number d)) None

pub unfold_behind : (d m : ℕ) → cond (ltb (digit_number d) 2) (number_after 2 (m * 2 + digit_number d) []) None ≡ one_behind d m
unfolding one_behind
unfold_behind d m = refl

pub number_push : (xs : List ℕ) (d m : ℕ) → number_after 2 m (xs ++ d ∷ []) ≡ option_and_then (one_behind d) (number_after 2 m xs)
number_push [] d m = unfold_behind d m
number_push (x ∷ xs) d m =
    choice _ _ (ltb (digit_number x) 2) (number_push xs d (m * 2 + digit_number x))
  where
    choice : (o p : Option ℕ) (b : Bool) → o ≡ option_and_then (one_behind d) p → cond b o None ≡ option_and_then (one_behind d) (cond b p None)
    choice o p true e = e
    choice o p false e = refl

pub behind_is : (n m : ℕ) → one_behind (48 + n % 2) m ≡ Some (m * 2 + n % 2)
unfolding one_behind
behind_is n m =
    cond-true (ltb (digit_number (48 + n % 2)) 2) _ _ (digit_fact (λ b. ltb (digit_number b) 2 ≡ true) n refl refl) ∙ ap (λ d. Some (m * 2 + d)) (digit_is n)

pub half_small : (w n : ℕ) → n < 2 ^ suc w → n / 2 < 2 ^ w
half_small w n h = omega (arith, h)

-- for any digits that are written from the highest to the lowest
pub number_back : (digits : ℕ → ℕ → List ℕ) → ((n : ℕ) → digits zero n ≡ []) → ((w n : ℕ) → digits (suc w) n ≡ digits w (n / 2) ++ (48 + n % 2) ∷ [])
    → (w n : ℕ) → n < 2 ^ w → number_after 2 0 (digits w n) ≡ Some n
number_back digits none more zero n h = let z : 0 ≡ n = omega (arith, h) in ap (number_after 2 0) (none n) ∙ ap Some z
number_back digits none more (suc w) n h =
    let whole : n / 2 * 2 + n % 2 ≡ n = omega arith in
    ap (number_after 2 0) (more w n)
    ∙ number_push (digits w (n / 2)) (48 + n % 2) 0
    ∙ ap (option_and_then (one_behind (48 + n % 2))) (number_back digits none more w (n / 2) (half_small w n h))
    ∙ behind_is n (n / 2) ∙ ap Some whole
