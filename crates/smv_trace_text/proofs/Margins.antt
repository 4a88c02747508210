-- Lines with the blanks before them.
use Rattle.std.proofs.Common.{◌≡◌, ℕ, Bool, true, false, List, [], ◌∷◌, ◌++◌, refl, ap, ◌∙◌}
use Rattle.std.specs.Prelude.{codes}
use Rattle.std.specs.List.{flat_map}
use Rattle.std.proofs.lemmas.List.{append_assoc}
use Rattle.smv_meaning.specs.declared.value.Given.{Given}
use Rattle.smv_trace_text.specs.Texts.{value_text, value_line, margin, unmargined}

-- does a line follow?
abbrev pub follows : List Given → Bool
follows [] = false
follows (g ∷ gs) = true

pub lines_are : (gs : List Given) → flat_map value_line gs ≡ margin (follows gs) ++ unmargined gs
lines_are [] = refl
lines_are (g ∷ gs) =
    let rest = flat_map value_line gs in
    let value = value_text g.value in
    ap (λ (t : List ℕ). codes "    " ++ t)
    (append_assoc g.name (codes " = " ++ (value ++ 10 ∷ [])) rest ∙ ap (λ (t : List ℕ). g.name ++ (codes " = " ++ t)) (append_assoc value (10 ∷ []) rest))
