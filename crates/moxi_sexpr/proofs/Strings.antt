-- Strings: each quote is doubled.
use Rattle.std.proofs.Common.{◌≡◌, ◌+◌, ℕ, Bool, true, false, cond, eqb, Option, Some, None, List, [], ◌∷◌, ◌++◌, length, refl, sym, ap, ◌∙◌, subst, arith}
use Rattle.std.specs.List.{list_any}
use Rattle.std.proofs.lemmas.Bool.{eqb-true, cond_both, cond-false, or_parts}
use Rattle.moxi_sexpr.specs.Bytes.{Stops}
use Rattle.moxi_sexpr.specs.Atoms.{doubled}
use Rattle.moxi_sexpr.specs.Reading.{quote_length, undoubled}

undoubled_step : (t : Bool) (b : ℕ) (bs : List ℕ) → eqb b 34 ≡ t → undoubled false (doubled bs) ≡ bs
    → undoubled false (cond t (34 ∷ (34 ∷ doubled bs)) (b ∷ doubled bs)) ≡ b ∷ bs
undoubled_step true b bs e ih = ap (λ x. 34 ∷ x) ih ∙ ap (λ x. x ∷ bs) (sym (eqb-true b 34 e))
undoubled_step false b bs e ih = rw e (ap (λ x. b ∷ x) ih)

pub undoubled_doubled : (s : List ℕ) → undoubled false (doubled s) ≡ s
undoubled_doubled [] = refl
undoubled_doubled (b ∷ bs) = undoubled_step (eqb b 34) b bs refl (undoubled_doubled bs)

plain_step : (t : Bool) (b : ℕ) (bs : List ℕ) → eqb b 34 ≡ t → t ≡ false → undoubled false bs ≡ bs → undoubled false (b ∷ bs) ≡ b ∷ bs
plain_step true b bs e f ih = absurd (cc)
plain_step false b bs e f ih = rw e (ap (λ x. b ∷ x) ih)

-- bytes without a quote
pub undoubled_plain : (s : List ℕ) → list_any (λ b. eqb b 34) s ≡ false → undoubled false s ≡ s
undoubled_plain [] e = refl
undoubled_plain (b ∷ bs) e =
    let parts = or_parts (eqb b 34) (list_any (λ b. eqb b 34) bs) e in
    plain_step (eqb b 34) b bs refl parts.0 (undoubled_plain bs parts.1)

closed_here : (n : ℕ) (rest : List ℕ) → Stops (λ b. eqb b 34) rest → quote_length n true rest ≡ Some n
closed_here n [] f = refl
closed_here n (b ∷ bs) f = rw f refl

length_step : (t : Bool) (n : ℕ) (b : ℕ) (bs rest : List ℕ) → eqb b 34 ≡ t
    → ((m : ℕ) → quote_length m false (doubled bs ++ 34 ∷ rest) ≡ Some (m + length (doubled bs)))
    → quote_length n false (cond t (34 ∷ (34 ∷ doubled bs)) (b ∷ doubled bs) ++ 34 ∷ rest) ≡ Some (n + length (cond t (34 ∷ (34 ∷ doubled bs)) (b ∷ doubled bs)))
length_step true n b bs rest e ih = ih (n + 2) ∙ ap Some (omega arith)
length_step false n b bs rest e ih = rw e (ih (n + 1) ∙ ap Some (omega arith))

pub quote_length_is : (s rest : List ℕ) → Stops (λ b. eqb b 34) rest → (n : ℕ) → quote_length n false (doubled s ++ 34 ∷ rest) ≡ Some (n + length (doubled s))
quote_length_is [] rest f n = closed_here n rest f ∙ ap Some (omega arith)
quote_length_is (b ∷ bs) rest f n = length_step (eqb b 34) n b bs rest refl (λ m. quote_length_is bs rest f m)

-- what the length says
abbrev pub Closed : ℕ → List ℕ → Option ℕ → Type 0
Closed n text None = Unit {0}
Closed n text (Some k) = (s : List ℕ) × (rest : List ℕ) × (text ≡ doubled s ++ 34 ∷ rest) × Stops (λ b. eqb b 34) rest × (k ≡ n + length (doubled s))

one_more : (n b : ℕ) (bs : List ℕ) (o : Option ℕ) → eqb b 34 ≡ false → Closed (n + 1) bs o → Closed n (b ∷ bs) o
one_more n b bs None e h = tt
one_more n b bs (Some k) e (s, rest, same, stops, long) =
    let d : doubled (b ∷ s) ≡ b ∷ doubled s = cond-false _ _ _ e in
    (b ∷ s, rest, ap (λ x. b ∷ x) same ∙ ap (λ x. x ++ 34 ∷ rest) (sym d), stops, omega (arith, long, ap length d))

two_more : (n : ℕ) (bs : List ℕ) (o : Option ℕ) → Closed (n + 2) bs o → Closed n (34 ∷ (34 ∷ bs)) o
two_more n bs None h = tt
two_more n bs (Some k) (s, rest, same, stops, long) = (34 ∷ s, rest, ap (λ x. 34 ∷ (34 ∷ x)) same, stops, omega (arith, long))

mutual
  pub closed_outside : (text : List ℕ) (n : ℕ) → Closed n text (quote_length n false text)
  closed_outside [] n = tt
  closed_outside (b ∷ bs) n =
      cond_both (eqb b 34) _ _ (Closed n (b ∷ bs)) (λ e. let P : ℕ → Type 0 = λ x. Closed n (x ∷ bs) (quote_length n true bs) in subst P (sym (eqb-true b 34 e)) (closed_pending bs n))
      (λ e. one_more n b bs _ e (closed_outside bs (n + 1)))

  pub closed_pending : (text : List ℕ) (n : ℕ) → Closed n (34 ∷ text) (quote_length n true text)
  closed_pending [] n = ([], [], refl, tt, omega arith)
  closed_pending (b ∷ bs) n =
      cond_both (eqb b 34) _ _ (Closed n (34 ∷ (b ∷ bs))) (λ e. let P : ℕ → Type 0 = λ x. Closed n (34 ∷ (x ∷ bs)) (quote_length (n + 2) false bs) in subst P (sym (eqb-true b 34 e)) (two_more n bs _ (closed_outside bs (n + 2))))
      (λ e. ([], b ∷ bs, refl, e, omega arith))
