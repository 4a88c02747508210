-- A line that is read as a note is the one that is noted.
use Rattle.std.proofs.Common.{◌≡◌, ℕ, Bool, List, [], ◌∷◌, ◌++◌, sym, ap, ◌∙◌, append_assoc}
use Rattle.std.specs.Prelude.{codes}
use Rattle.text_core.specs.declared.place.Refusal.{Refusal}
use Rattle.text_core.specs.declared.verdict.Clause.{Clause}
use Rattle.command_core.specs.Notes.{rejected_line, refused_line, refused_words}
use Rattle.explain_core.specs.Notes.{denial_words, refusal_words}

refused_ends : (words : List ℕ) (refusal : Refusal) → refused_line words refusal ≡ (words ++ refusal_words refusal) ++ 10 ∷ []
refused_ends words refusal = simp append_assoc

pub refused_is : (second : Bool) (refusal : Refusal) (line rest : List ℕ) → line ≡ refused_words second ++ rest → rest ≡ refusal_words refusal
    → refused_line (refused_words second) refusal ≡ line ++ 10 ∷ []
refused_is second refusal line rest whole is =
    refused_ends (refused_words second) refusal ∙ ap (λ r. (refused_words second ++ r) ++ 10 ∷ []) (sym is) ∙ ap (λ w. w ++ 10 ∷ []) (sym whole)

pub rejected_is : (step : ℕ) (clause : Clause) (line rest : List ℕ) → line ≡ codes "no: step " ++ rest → rest ≡ denial_words step clause
    → rejected_line step clause ≡ line ++ 10 ∷ []
rejected_is step clause line rest whole is =
    (simp append_assoc) ∙ ap (λ r. (codes "no: step " ++ r) ++ 10 ∷ []) (sym is) ∙ ap (λ w. w ++ 10 ∷ []) (sym whole)
