-- The marks of what is stated.
use Rattle.std.proofs.Common.{◌≡◌, ◌≢◌, ◌<◌, ℕ, zero, suc, Bool, true, false, eqb, ◌||◌, List, [], ◌∷◌, length, drop, get_or, set, refl, sym, ap, ◌∙◌, subst, arith, inl, inr, get_or-set_other, get_or-set_same}
use Rattle.std.proofs.lemmas.Bool.{cases_Bool, eqb-true, eqb-false, eq-eqb}
use Rattle.std.proofs.Math.Seq.{drop-cons}
use Rattle.btor_witness.specs.declared.witness.Stated.{Stated}
use Rattle.btor_witness.specs.Parts.{is_stated}

-- what the statements from place i on still have marked, behind one step
pub cleared_more : (marks : List Bool) (stated : List Stated) (i k : ℕ) (s : Stated) → i < length stated → get_or stated i s ≡ s → s.index < length marks
    → ((j : ℕ) → get_or marks j false ≡ true → is_stated (drop i stated) j ≡ true)
    → get_or (set marks s.index false) k false ≡ true → is_stated (drop (suc i) stated) k ≡ true
cleared_more marks stated i k s lt at within before h =
    let cut : drop i stated ≡ s ∷ drop (suc i) stated = drop-cons stated i s lt ∙ ap (λ x. x ∷ drop (suc i) stated) at in
    elim (cases_Bool (eqb s.index k)) [
      | inl t ↦ let e : s.index ≡ k = eqb-true s.index k t in
          absurd (let f : get_or (set marks s.index false) k false ≡ false = subst (λ n. get_or (set marks s.index false) n false ≡ false) e (get_or-set_same marks s.index false false within) in cc)
      | inr f ↦ let ne : k ≢ s.index = λ e. eqb-false s.index k f (sym e) in
          let was : is_stated (drop i stated) k ≡ true = before k (sym (get_or-set_other marks s.index k false false ne) ∙ h) in
          let step : is_stated (drop i stated) k ≡ is_stated (drop (suc i) stated) k = ap (λ x. is_stated x k) cut ∙ ap (λ b. b || is_stated (drop (suc i) stated) k) f in
          sym step ∙ was
    ]

-- a statement at a place is stated
pub stated_at : (stated : List Stated) (i : ℕ) (s : Stated) → i < length stated → get_or stated i s ≡ s → is_stated stated s.index ≡ true
stated_at [] i s lt e = absurd (omega (arith, lt))
stated_at (x ∷ xs) zero s lt e = let f : eqb x.index s.index ≡ true = eq-eqb x.index s.index (ap (λ (z : Stated). z.index) e) in rw f refl
stated_at (x ∷ xs) (suc i) s lt e = let ih = stated_at xs i s (omega arith) e in
    elim (cases_Bool (eqb x.index s.index)) [ inl t ↦ rw t refl | inr f ↦ rw f ih ]
