-- One frame more is judged.
use Rattle.std.proofs.Common.{◌≡◌, ℕ, suc, Bool, true, false, List, [], ◌∷◌, ◌++◌, length, map, refl, sym, ap, ◌∙◌, subst, inl, inr, add-one}
use Rattle.text_core.specs.declared.verdict.Clause.{Clause}
use Rattle.text_core.specs.declared.verdict.Verdict.{Verdict}
use Rattle.text_core.specs.declared.verdict.Verdict.TheVariants.{Yes, No}
use Rattle.btor_tree.specs.declared.lines.Line.{Line}
use Rattle.btor_frames.specs.Held.{Held}
use Rattle.btor_frames.specs.Judged.{Statement, IsStatedFrame}
use Rattle.btor_witness.specs.declared.witness.Frame.{Frame}
use Rattle.btor_witness.specs.Judging.{statement_of, Passes, FailsFirst, IsJudgedAfter}
use Rattle.btor_witness.proofs.Judgement.{any_before}
use Rattle.btor_judge.specs.Standing.{stated_before, AreJudged, JudgesFrame}

before_push : (fs : List Frame) (f : Frame) (more : List Statement) → stated_before (fs ++ f ∷ []) more ≡ stated_before fs (statement_of f ∷ more)
before_push [] f more = refl
before_push (g ∷ fs) f more = ap (λ x. statement_of g ∷ x) (before_push fs f more)

before_none : (fs : List Frame) → stated_before fs [] ≡ map statement_of fs
before_none [] = refl
before_none (f ∷ fs) = ap (λ x. statement_of f ∷ x) (before_none fs)

whole : (fs : List Frame) (f : Frame) → stated_before fs (statement_of f ∷ []) ≡ map statement_of (fs ++ f ∷ [])
whole fs f = sym (before_push fs f []) ∙ before_none (fs ++ f ∷ [])

-- before the first frame
pub fresh_judged : (lines : List Line) (held : Held) (count j : ℕ) (frames : List Frame) (verdict : Verdict) → held.begun ≡ false → verdict ≡ Yes → frames ≡ [] → count ≡ length frames → AreJudged lines held count j frames verdict
fresh_judged lines held count j frames verdict b e f c =
    let none : count ≡ 0 = c ∙ ap length f in
    subst (AreJudged lines held count j frames) (sym e)
    (λ s more v h.
    let at : IsJudgedAfter lines j 0 held.begun held.row (s ∷ more) v = subst (λ n. IsJudgedAfter lines j n held.begun held.row (s ∷ more) v) none h in
    let start : IsJudgedAfter lines j 0 false held.row (s ∷ more) v = subst (λ x. IsJudgedAfter lines j 0 x held.row (s ∷ more) v) b at in
    subst (λ fs. IsJudgedAfter lines j 0 false [] (stated_before fs (s ∷ more)) v) (sym f) (any_before lines j 0 held.row [] (s ∷ more) v start))

-- none has failed, and the frame passes
pub frame_passes : (last : Bool) (lines : List Line) (held new : Held) (count j : ℕ) (before : List Frame) (f : Frame) → AreJudged lines held count j before Yes → new.begun ≡ true → IsStatedFrame lines held.begun held.row (statement_of f) new.row → Passes lines j held.begun last (statement_of f) new.row → JudgesFrame lines last new count j before f Yes
frame_passes true lines held new count j before f judged begun p passes =
    subst (λ ss. IsJudgedAfter lines j 0 false [] ss Yes) (whole before f) (judged (statement_of f) [] Yes (new.row, p, inr (passes, refl)))
frame_passes false lines held new count j before f judged begun p passes =
    λ s more v h.
    let at : IsJudgedAfter lines j (suc count) new.begun new.row (s ∷ more) v = subst (λ n. IsJudgedAfter lines j n new.begun new.row (s ∷ more) v) (add-one count) h in
    let on : IsJudgedAfter lines j (suc count) true new.row (s ∷ more) v = subst (λ b. IsJudgedAfter lines j (suc count) b new.row (s ∷ more) v) begun at in
    subst (λ ss. IsJudgedAfter lines j 0 false [] ss v) (sym (before_push before f (s ∷ more))) (judged (statement_of f) (s ∷ more) v (new.row, p, inr (passes, on)))

-- none has failed, and the frame fails
pub frame_fails : (last : Bool) (lines : List Line) (held new : Held) (count j : ℕ) (before : List Frame) (f : Frame) (clause : Clause) → AreJudged lines held count j before Yes → IsStatedFrame lines held.begun held.row (statement_of f) new.row → FailsFirst lines j held.begun last (statement_of f) new.row clause → JudgesFrame lines last new count j before f (No count clause)
frame_fails true lines held new count j before f clause judged p fails =
    subst (λ ss. IsJudgedAfter lines j 0 false [] ss (No count clause)) (whole before f) (judged (statement_of f) [] (No count clause) (new.row, p, inl (clause, fails, refl)))
frame_fails false lines held new count j before f clause judged p fails =
    λ s more. subst (λ ss. IsJudgedAfter lines j 0 false [] ss (No count clause)) (sym (before_push before f (s ∷ more))) (judged (statement_of f) (s ∷ more) (No count clause) (new.row, p, inl (clause, fails, refl)))

-- one has failed
failed_before : (last : Bool) (lines : List Line) (held : Held) (count j : ℕ) (before : List Frame) (f : Frame) (step : ℕ) (clause : Clause) → AreJudged lines held count j before (No step clause) → JudgesFrame lines last held count j before f (No step clause)
failed_before true lines held count j before f step clause judged = subst (λ ss. IsJudgedAfter lines j 0 false [] ss (No step clause)) (whole before f) (judged (statement_of f) [])
failed_before false lines held count j before f step clause judged =
    λ s more. subst (λ ss. IsJudgedAfter lines j 0 false [] ss (No step clause)) (sym (before_push before f (s ∷ more))) (judged (statement_of f) (s ∷ more))

pub stays_failed : (last : Bool) (lines : List Line) (held : Held) (count j : ℕ) (before : List Frame) (f : Frame) (verdict : Verdict) → (verdict ≡ Yes → ⊥) → AreJudged lines held count j before verdict → JudgesFrame lines last held count j before f verdict
stays_failed last lines held count j before f Yes differs judged = absurd (differs refl)
stays_failed last lines held count j before f (No step clause) differs judged = failed_before last lines held count j before f step clause judged
