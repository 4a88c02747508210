-- The place of the first byte of a kind.
use Rattle.std.proofs.Common.{◌≡◌, ◌<◌, ℕ, zero, suc, Bool, true, false, not, ◌==◌, if◌then◌else◌, List, [], ◌∷◌, length, ◌⊎◌, inl, inr, refl, sym, ap, ◌∙◌, arith}
use Rattle.memchr.specs.Find.{Passes, is_byte, Nowhere, NoneBefore}
use Rattle.smv_text.specs.Bytes.{front_length}
use Rattle.smv_trace_text.specs.Lines.{is_other}

-- no byte before place n is the mark, and the one at the place is, or there is none
front_run : (mark : ℕ) (bs : List ℕ) (n : ℕ) → ((k : ℕ) → k < n → ¬ Passes (is_byte mark) bs k) → ((n ≡ length bs) ⊎ ((n < length bs) × Passes (is_byte mark) bs n)) → n ≡ front_length (is_other mark) bs
front_run mark [] n before (inl e) = e
front_run mark [] n before (inr h) = absurd (omega (arith, h.0))
front_run mark (b ∷ bs) zero before (inl e) = absurd (omega (arith, e))
front_run mark (b ∷ bs) zero before (inr h) = sym (ap (λ t. if not t then suc (front_length (is_other mark) bs) else 0) h.1)
front_run mark (b ∷ bs) (suc n) before end = by (b == mark) refl (front_run mark bs n (λ k low. before (suc k) (omega (arith, low))) (behind end))
  where
    behind : (suc n ≡ suc (length bs)) ⊎ ((suc n < suc (length bs)) × Passes (is_byte mark) (b ∷ bs) (suc n)) → (n ≡ length bs) ⊎ ((n < length bs) × Passes (is_byte mark) bs n)
    behind (inl e) = inl (omega (arith, e))
    behind (inr h) = inr (omega (arith, h.0), h.1)

    by : (t : Bool) → (b == mark) ≡ t → n ≡ front_length (is_other mark) bs → suc n ≡ front_length (is_other mark) (b ∷ bs)
    by true is rest = absurd (before 0 (omega arith) is)
    by false is rest = ap suc rest ∙ sym (ap (λ t. if not t then suc (front_length (is_other mark) bs) else 0) is)

pub first_found : (mark : ℕ) (bs : List ℕ) (n : ℕ) → NoneBefore (Passes (is_byte mark) bs) 0 (length bs) n → Passes (is_byte mark) bs n → n ≡ front_length (is_other mark) bs
first_found mark bs n none at = front_run mark bs n (λ k low. none.before k (omega arith) low) (inr (none.high, at))

pub none_found : (mark : ℕ) (bs : List ℕ) → Nowhere (Passes (is_byte mark) bs) 0 (length bs) → length bs ≡ front_length (is_other mark) bs
none_found mark bs none = front_run mark bs (length bs) (λ k low. none k (omega arith) low) (inl refl)
