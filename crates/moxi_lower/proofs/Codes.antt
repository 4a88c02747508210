-- The words that are stated of the first variables: each is found by its number, and stated once.
use Rattle.std.proofs.Common.{◌≡◌, ◌≢◌, ℕ, zero, suc, ◌<◌, ◌≤◌, false, eqb, List, [], ◌∷◌, ◌++◌, Some, refl, sym, ap, ◌∙◌, arith, inl, inr}
use Rattle.std.specs.List.{AllByRecursion}
use Rattle.std.proofs.lemmas.Bool.{eqb-false, eq-eqb, ne_eqb, cond-true, cond-false, or_parts}
use Rattle.btor_witness.specs.declared.witness.Stated.{Stated}
use Rattle.btor_witness.specs.Parts.{is_stated}
use Rattle.btor_witness.specs.Printing.{IsStatedOnce, value_of}
use Rattle.btor_witness.proofs.Tables.{value_more}
use Rattle.moxi_terms.specs.declared.term.Enumeration.{Enumeration}
use Rattle.moxi_terms.specs.Value.{Values}
use Rattle.moxi_lines.specs.Codes.{code_of}
use Rattle.moxi_lower.specs.Lowered.{codes_upto, stated_code}
use Rattle.moxi_lift.proofs.Upto.{below_cases}
use Rattle.moxi_lines.proofs.Extending.{all_both}

-- ---- one statement more

fresh_push : (xs : List Stated) (s : Stated) (i : ℕ) → is_stated xs i ≡ false → s.index ≢ i → is_stated (xs ++ s ∷ []) i ≡ false
fresh_push [] s i h ne = let e : eqb s.index i ≡ false = ne_eqb s.index i ne in rw e refl
fresh_push (x ∷ xs) s i h ne =
    let p = or_parts (eqb x.index i) (is_stated xs i) h in
    let e : eqb x.index i ≡ false = p.0 in
    rw e (fresh_push xs s i p.1 ne)

once_push : (xs : List Stated) (s : Stated) → IsStatedOnce xs → is_stated xs s.index ≡ false → IsStatedOnce (xs ++ s ∷ [])
once_push [] s h fresh = (refl, tt)
once_push (x ∷ xs) s h fresh =
    let p = or_parts (eqb x.index s.index) (is_stated xs s.index) fresh in
    (fresh_push xs s x.index h.0 (λ e. eqb-false x.index s.index p.0 (sym e)), once_push xs s h.1 p.1)

-- ---- the words of values

less_not : (m n : ℕ) → m < n → m ≢ n
less_not m n h e = omega (arith, h, e)

more_not : (m n : ℕ) → n < m → m ≢ n
more_not m n h e = omega (arith, h, e)

module _ (es : List Enumeration) (values : Values) where
  pub code_stated : (n v : ℕ) → v < n → value_of (codes_upto es values n) v ≡ Some (code_of es (values v))
  code_stated zero v h = absurd (omega (arith, h))
  code_stated (suc n) v h =
      let before = codes_upto es values n in
      let more = value_more before (stated_code es values n) v in
      elim (below_cases v n h) [
        | inl l ↦ more ∙ cond-false (eqb n v) (Some (code_of es (values n))) (value_of before v) (ne_eqb n v (more_not n v l)) ∙ code_stated n v l
        | inr e ↦ more ∙ cond-true (eqb n v) (Some (code_of es (values n))) (value_of before v) (eq-eqb n v (sym e)) ∙ ap (λ k. Some (code_of es (values k))) (sym e)
      ]

  code_fresh : (n v : ℕ) → n ≤ v → is_stated (codes_upto es values n) v ≡ false
  code_fresh zero v h = refl
  code_fresh (suc n) v h = fresh_push (codes_upto es values n) (stated_code es values n) v (code_fresh n v (omega (arith, h))) (less_not n v (omega (arith, h)))

  pub codes_once : (n : ℕ) → IsStatedOnce (codes_upto es values n)
  codes_once zero = tt
  codes_once (suc n) = once_push (codes_upto es values n) (stated_code es values n) (codes_once n) (code_fresh n n (omega arith))

  pub codes_all : (P : Stated → Type 0) (n : ℕ) → ((v : ℕ) → v < n → P (stated_code es values v)) → AllByRecursion P (codes_upto es values n)
  codes_all P zero h = tt
  codes_all P (suc n) h = all_both P (codes_upto es values n) (stated_code es values n ∷ []) (codes_all P n (λ v l. h v (omega (arith, l)))) (h n (omega arith), tt)
