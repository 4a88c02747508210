-- Blanks at the end of a line.
use Rattle.std.proofs.Common.{◌≡◌, ℕ, true, false, List, [], ◌∷◌, ◌++◌, refl, ap, ◌∙◌}
use Rattle.std.proofs.lemmas.Bool.{cond-true, cond-false}
use Rattle.smv_text.specs.Bytes.{is_blank}
use Rattle.smv_trace_text.specs.Lines.{onto_end, without_end}

-- a blank at the end
pub end_off : (front : List ℕ) (b : ℕ) → is_blank b ≡ true → without_end (front ++ b ∷ []) ≡ without_end front
end_off [] b e = cond-true (is_blank b) [] (b ∷ []) e
end_off (c ∷ front) b e = ap (onto_end c) (end_off front b e)

onto_some : (c b : ℕ) (front : List ℕ) → onto_end c (front ++ b ∷ []) ≡ c ∷ (front ++ b ∷ [])
onto_some c b [] = refl
onto_some c b (d ∷ front) = refl

pub end_kept : (front : List ℕ) (b : ℕ) → is_blank b ≡ false → without_end (front ++ b ∷ []) ≡ front ++ b ∷ []
end_kept [] b e = cond-false (is_blank b) [] (b ∷ []) e
end_kept (c ∷ front) b e = ap (onto_end c) (end_kept front b e) ∙ onto_some c b front
