-- Statements that rise are their own rising form.
use Rattle.std.proofs.Common.{◌≡◌, ℕ, zero, suc, ◌<◌, ◌≤◌, true, cond, eqb, leb, List, [], ◌∷◌, ◌++◌, Option, Some, None, refl, sym, ap, ◌∙◌, arith, inl, inr}
use Rattle.std.specs.Option.{option_or}
use Rattle.std.specs.List.{AllByRecursion}
use Rattle.std.proofs.lemmas.Bool.{cases_lt, and_parts, and_from, eq-eqb, ne_eqb, cond-true, cond-false, leb-true, le-leb}
use Rattle.word_core.specs.Words.{BitVector}
use Rattle.btor_witness.specs.declared.witness.Stated.{Stated}
use Rattle.btor_witness.specs.Printing.{IsBelow, value_of, one_statement, rising, rises_from}

or_none : (o : Option BitVector) → option_or o None ≡ o
or_none None = refl
or_none (Some x) = refl

-- no word is stated of a number below the least one
none_below : (low n : ℕ) (stated : List Stated) → rises_from low stated ≡ true → n < low → value_of stated n ≡ None
none_below low n [] h lt = refl
none_below low n (s ∷ ss) h lt =
    let p = and_parts (leb low s.index) (rises_from (suc s.index) ss) h in
    let le = leb-true low s.index p.0 in
    ap (λ o. option_or o (cond (eqb s.index n) (Some s.value) None)) (none_below (suc s.index) n ss p.1 (omega (arith, le, lt)))
    ∙ cond-false (eqb s.index n) (Some s.value) None (ne_eqb s.index n (omega (arith, le, lt)))

-- nothing is stated of the numbers below the least one
rising_below : (low n : ℕ) (stated : List Stated) → rises_from low stated ≡ true → n ≤ low → rising stated n ≡ []
rising_below low zero stated h le = refl
rising_below low (suc n) stated h le =
    ap (λ xs. xs ++ one_statement n (value_of stated n)) (rising_below low n stated h (omega arith)) ∙ ap (one_statement n) (none_below low n stated h (omega arith))

-- the first statement is the first of the rising form
rising_first : (n : ℕ) (s : Stated) (ss : List Stated) → rises_from (suc s.index) ss ≡ true → s.index < n → rising (s ∷ ss) n ≡ s ∷ rising ss n
rising_first zero s ss h lt = absurd (omega (arith, lt))
rising_first (suc n) s ss h lt =
    let first : Option BitVector = cond (eqb s.index n) (Some s.value) None in
    elim (cases_lt s.index n) [
      | inl less ↦
          let none : first ≡ None = cond-false (eqb s.index n) (Some s.value) None (ne_eqb s.index n (omega (arith, less))) in
          let value : value_of (s ∷ ss) n ≡ value_of ss n = ap (option_or (value_of ss n)) none ∙ or_none (value_of ss n) in
          ap (λ xs. xs ++ one_statement n (value_of (s ∷ ss) n)) (rising_first n s ss h less) ∙ ap (λ o. s ∷ (rising ss n ++ one_statement n o)) value
      | inr ge ↦
          let at : s.index ≡ n = omega (arith, ge, lt) in
          let all : rises_from n (s ∷ ss) ≡ true = and_from (leb n s.index) (rises_from (suc s.index) ss) (le-leb n s.index ge) h in
          let none : value_of ss n ≡ None = none_below (suc s.index) n ss h (omega (arith, at)) in
          let some : first ≡ Some s.value = cond-true (eqb s.index n) (Some s.value) None (eq-eqb s.index n at) in
          let value : value_of (s ∷ ss) n ≡ Some s.value = ap (λ o. option_or o first) none ∙ some in
          let front : rising (s ∷ ss) n ≡ [] = rising_below n n (s ∷ ss) all (omega arith) in
          let rest : rising ss (suc n) ≡ [] = rising_below (suc s.index) (suc n) ss h (omega (arith, at)) in
          ap (λ xs. xs ++ one_statement n (value_of (s ∷ ss) n)) front ∙ ap (one_statement n) value
          ∙ ap (λ (i : ℕ). record { index = i; value = s.value } ∷ []) (sym at) ∙ ap (λ xs. s ∷ xs) (sym rest)
    ]

pub rising_stays : (low count : ℕ) (stated : List Stated) → rises_from low stated ≡ true → AllByRecursion (IsBelow count) stated → rising stated count ≡ stated
rising_stays low count [] h below = rising_below count count [] refl (omega arith)
rising_stays low count (s ∷ ss) h below =
    let p = and_parts (leb low s.index) (rises_from (suc s.index) ss) h in
    rising_first count s ss p.1 below.0 ∙ ap (λ xs. s ∷ xs) (rising_stays (suc s.index) count ss p.1 below.1)
