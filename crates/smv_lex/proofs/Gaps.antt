-- A gap, byte by byte.
use Rattle.std.proofs.Common.{◌≡◌, ℕ, suc, Bool, false, Some, None, List, ◌∷◌, take, drop, sym, ap, ◌∙◌}
use Rattle.text_core.specs.declared.place.Place.{Place}
use Rattle.text_core.specs.Places.{after, next_place}
use Rattle.smv_lex.specs.Reading.{gap_length, gap_step}
use Rattle.text_core.specs.Bytes.{on_some}

-- the place and the text behind a gap
abbrev pub AreBehind : Place → Bool → List ℕ → Place → List ℕ → Type 0
AreBehind at inside rest p text =
    (after at (take (gap_length inside rest) rest) ≡ after p (take (gap_length false text) text)) × (drop (gap_length inside rest) rest ≡ drop (gap_length false text) text)

-- a byte more
pub gap_on : (at p : Place) (inside next : Bool) (b : ℕ) (rest more text : List ℕ) → rest ≡ b ∷ more → gap_step inside b more ≡ Some next
    → AreBehind at inside rest p text → AreBehind (next_place at b) next more p text
gap_on at p inside next b rest more text e f (place_is, rest_is) =
    let long : gap_length inside (b ∷ more) ≡ suc (gap_length next more) = ap (λ o. on_some o 0 (λ i. suc (gap_length i more))) f in (
      sym (ap (λ x. after at (take (gap_length inside x) x)) e ∙ ap (λ k. after at (take k (b ∷ more))) long) ∙ place_is,
      sym (ap (λ x. drop (gap_length inside x) x) e ∙ ap (λ k. drop k (b ∷ more)) long) ∙ rest_is,
    )

-- where it ends
pub gap_off : (inside : Bool) (b : ℕ) (rest more : List ℕ) → rest ≡ b ∷ more → gap_step inside b more ≡ None → gap_length inside rest ≡ 0
gap_off inside b rest more e f = ap (gap_length inside) e ∙ ap (λ o. on_some o 0 (λ i. suc (gap_length i more))) f

pub gap_over : (at p : Place) (inside : Bool) (rest text : List ℕ) → gap_length inside rest ≡ 0 → AreBehind at inside rest p text
    → (at ≡ after p (take (gap_length false text) text)) × (rest ≡ drop (gap_length false text) text)
gap_over at p inside rest text e (place_is, rest_is) = (sym (ap (λ k. after at (take k rest)) e) ∙ place_is, sym (ap (λ k. drop k rest) e) ∙ rest_is)
