-- What is counted of the bodies of functions, one behind the other.
use Rattle.std.proofs.Common.{◌≡◌, ℕ, zero, suc, ◌+◌, ◌<◌, cond, List, [], ◌∷◌, ◌++◌, map, length, refl, sym, ap, ◌∙◌, arith, inl, inr, add-one}
use Rattle.std.specs.Prelude.{slice_index_or}
use Rattle.std.proofs.lemmas.Bool.Decides.{eqb_tells}
use Rattle.std.proofs.lemmas.List.{length-append}
use Rattle.moxi_terms.specs.Tree.{Tree}
use Rattle.moxi_terms.specs.Value.{body_at}
use Rattle.moxi_terms.specs.View.{plain, plain_function}
use Rattle.moxi_terms.specs.declared.term.Function.{Function}
use Rattle.moxi_flat.specs.Terms.{measured_upto}
use Rattle.moxi_instantiate.specs.Counting.{AreCounted, capped, known}
use Rattle.moxi_instantiate.proofs.Capping.{capped_twice}
use Rattle.moxi_terms.proofs.Plain.{body_of}

last_known : (xs : List ℕ) (x n : ℕ) → n ≡ length xs → known (xs ++ x ∷ []) n ≡ x
last_known [] x zero h = refl
last_known [] x (suc n) h = absurd (omega arith)
last_known (y ∷ ys) x zero h = absurd (omega arith)
last_known (y ∷ ys) x (suc n) h = last_known ys x n (omega arith)

other_known : (xs : List ℕ) (x n : ℕ) → (n ≡ length xs → ⊥) → known (xs ++ x ∷ []) n ≡ known xs n
other_known [] x zero h = absurd (h refl)
other_known [] x (suc n) h = refl
other_known (y ∷ ys) x zero h = refl
other_known (y ∷ ys) x (suc n) h = other_known ys x n (λ e. h (ap suc e))

module _ (measure : (ℕ → ℕ) → Tree → ℕ) (agrees : (f g : ℕ → ℕ) → ((n : ℕ) → capped (f n) ≡ capped (g n)) → (t : Tree) → capped (measure f t) ≡ capped (measure g t)) where
  pub one_more : (fs : List Function) (k count : ℕ) (d : Function) (counts more : List ℕ) → k < length fs → length counts ≡ k → AreCounted (measured_upto measure (map plain_function fs) k) counts
      → d ≡ slice_index_or fs k d → count ≡ capped (measure (known counts) (plain d.body)) → more ≡ counts ++ count ∷ [] → AreCounted (measured_upto measure (map plain_function fs) (k + 1)) more
  one_more fs k count d counts more there long counted here own grown n =
      ap (λ xs. capped (known xs n)) grown ∙ by_place ∙ ap (λ j. capped (measured_upto measure (map plain_function fs) j n)) (sym (add-one k))
    where
      by_place : capped (known (counts ++ count ∷ []) n) ≡ capped (measured_upto measure (map plain_function fs) (suc k) n)
      by_place =
          elim (eqb_tells n k) [
            | inl e ↦ ap capped (last_known counts count n (e.1 ∙ sym long)) ∙ ap capped own ∙ capped_twice (measure (known counts) (plain d.body))
                ∙ agrees (known counts) (measured_upto measure (map plain_function fs) k) counted (plain d.body)
                ∙ ap (λ t. capped (measure (measured_upto measure (map plain_function fs) k) t)) (ap (λ f. plain f.body) here ∙ sym (body_of fs k d there))
                ∙ sym (ap (λ b. capped (cond b (measure (measured_upto measure (map plain_function fs) k) (body_at (map plain_function fs) k)) (measured_upto measure (map plain_function fs) k n))) e.0)
            | inr e ↦ ap capped (other_known counts count n (λ h. e.1 (h ∙ long))) ∙ counted n
                ∙ sym (ap (λ b. capped (cond b (measure (measured_upto measure (map plain_function fs) k) (body_at (map plain_function fs) k)) (measured_upto measure (map plain_function fs) k n))) e.0)
          ]

pub one_longer : (xs ys : List ℕ) (x k : ℕ) → ys ≡ xs ++ x ∷ [] → length xs ≡ k → length ys ≡ k + 1
one_longer xs ys x k e h = ap length e ∙ length-append xs (x ∷ []) ∙ (let r : length xs + 1 ≡ k + 1 = omega (arith, h) in r)
