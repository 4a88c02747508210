-- The places of the variables of an instance.
use Rattle.std.proofs.Common.{◌≡◌, ℕ, zero, suc, ◌+◌, ◌-◌, ◌<◌, cond, nat_lt, Bool, true, false, List, [], ◌∷◌, ◌++◌, length, refl, sym, ap, ◌∙◌, arith}
use Rattle.std.specs.Prelude.{slice_index_or}
use Rattle.std.proofs.lemmas.Bool.Decides.{nat_tests}
use Rattle.std.proofs.lemmas.List.{length-append}
use Rattle.moxi_flat.specs.FlatSystem.{place_inside}
use Rattle.moxi_instantiate.specs.Copying.{number_in}

last_of : (xs : List ℕ) (x : ℕ) → number_in (xs ++ x ∷ []) (length xs) ≡ x
last_of [] x = refl
last_of (y ∷ ys) x = last_of ys x

before_last : (xs : List ℕ) (x v : ℕ) → v < length xs → number_in (xs ++ x ∷ []) v ≡ number_in xs v
before_last [] x v h = absurd (omega (arith, h))
before_last (y ∷ ys) x zero h = refl
before_last (y ∷ ys) x (suc v) h = before_last ys x v (omega (arith, h))

abbrev pub ArePlaced : (ℕ → ℕ) → List ℕ → ℕ → List ℕ → Type 0
ArePlaced place actuals fresh inside = (v : ℕ) → v < length inside → number_in inside v ≡ place_inside place actuals fresh v

at_end : (v n : ℕ) (A : Type 0) → v < n + 1 → (v < n → A) → (v ≡ n → A) → A
at_end v n A h f g = by (nat_lt v n) refl
  where
    by : (b : Bool) → nat_lt v n ≡ b → A
    by true e = f (grind (arith, nat_tests))
    by false e = g (grind (arith, nat_tests, h))

-- one place more
pub placed_on : (place : ℕ → ℕ) (actuals : List ℕ) (fresh x : ℕ) (inside more : List ℕ) → more ≡ inside ++ x ∷ [] → x ≡ place_inside place actuals fresh (length inside)
    → ArePlaced place actuals fresh inside → ArePlaced place actuals fresh more
placed_on place actuals fresh x inside more grown own before v h =
    let long : length more ≡ length inside + 1 = ap length grown ∙ length-append inside (x ∷ []) in
    ap (λ xs. number_in xs v) grown
    ∙ at_end v (length inside) (number_in (inside ++ x ∷ []) v ≡ place_inside place actuals fresh v) (omega (arith, h, long))
    (λ l. before_last inside x v l ∙ before v l)
    (λ e. ap (number_in (inside ++ x ∷ [])) e ∙ last_of inside x ∙ own ∙ ap (place_inside place actuals fresh) (sym e))

pub one_place : (xs ys : List ℕ) (x k : ℕ) → ys ≡ xs ++ x ∷ [] → length xs ≡ k → length ys ≡ k + 1
one_place xs ys x k e h = let n : length ys ≡ length xs + 1 = ap length e ∙ length-append xs (x ∷ []) in omega (arith, n, h)

pub actual_placed : (place : ℕ → ℕ) (actuals : List ℕ) (fresh k x n : ℕ) → n ≡ k → k < length actuals → x ≡ place (slice_index_or actuals k 0) → x ≡ place_inside place actuals fresh n
actual_placed place actuals fresh k x n same l own =
    let test : nat_lt n (length actuals) ≡ true = grind (arith, nat_tests, same, l) in
    own ∙ ap (λ j. place (slice_index_or actuals j 0)) (sym same) ∙ sym (ap (λ b. cond b (place (slice_index_or actuals n 0)) (fresh + (n - length actuals))) test)

pub local_placed : (place : ℕ → ℕ) (actuals : List ℕ) (fresh k x n : ℕ) → n ≡ length actuals + k → x ≡ fresh + k → x ≡ place_inside place actuals fresh n
local_placed place actuals fresh k x n same own =
    let test : nat_lt n (length actuals) ≡ false = grind (arith, nat_tests, same) in
    let rest : k ≡ n - length actuals = omega (arith, same) in
    own ∙ ap (λ j. fresh + j) rest ∙ sym (ap (λ b. cond b (place (slice_index_or actuals n 0)) (fresh + (n - length actuals))) test)

pub more_long : (xs ys : List ℕ) (x n k : ℕ) → ys ≡ xs ++ x ∷ [] → length xs ≡ n + k → length ys ≡ n + (k + 1)
more_long xs ys x n k e h = let m : length ys ≡ length xs + 1 = ap length e ∙ length-append xs (x ∷ []) in omega (arith, m, h)
