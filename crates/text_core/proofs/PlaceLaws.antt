-- Places behind some bytes of a text.
use Rattle.std.proofs.Common.{ℕ, suc, eqb, arith, List, [], ◌∷◌, ◌++◌, length, ◌≡◌, sym, subst, Bool, not, true}
use Rattle.std.proofs.lemmas.Bool.{cond_both}
use Rattle.text_core.specs.declared.place.Place.{Place}
use Rattle.text_core.specs.Places.{next_place, Reaches, after}
use Rattle.std.specs.List.{list_all}

-- the place stays within its numbers
pub reaches_next : (b : ℕ) (p : Place) (n : ℕ) → Reaches p (suc n) → Reaches (next_place p b) n
reaches_next b p n h = cond_both (eqb b 10) _ _ (λ q. Reaches q n) (λ _. record { line = omega arith; column = omega arith; offset = omega arith }) (λ _. record { line = omega arith; column = omega arith; offset = omega arith })

pub reaches_after : (bs : List ℕ) (p : Place) (rest : List ℕ) → Reaches p (length (bs ++ rest)) → Reaches (after p bs) (length rest)
reaches_after [] p rest h = h
reaches_after (b ∷ bs) p rest h = reaches_after bs (next_place p b) rest (reaches_next b p (length (bs ++ rest)) h)

pub reaches_along : (text bs rest : List ℕ) (p q : Place) → text ≡ bs ++ rest → q ≡ after p bs → Reaches p (length text) → Reaches q (length rest)
reaches_along text bs rest p q e f h =
    subst (λ (x : Place). Reaches x (length rest)) (sym f) (reaches_after bs p rest (subst (λ (x : List ℕ). Reaches p (length x)) e h))

abbrev pub is_inner : ℕ → Bool
is_inner b = not (eqb b 10)

-- no byte ends the line
abbrev pub IsInLine : List ℕ → Type 0
IsInLine bs = list_all is_inner bs ≡ true
