-- A witness has one verdict at most, and `Yes` exactly where it is accepted.
use Rattle.std.proofs.Common.{◌≡◌, ◌≢◌, ℕ, suc, Bool, true, false, List, [], ◌∷◌, length, map, refl, sym, ap, ◌∙◌, subst, arith, inl, inr, ◌⊎◌}
use Rattle.text_core.specs.declared.verdict.Clause.{Clause}
use Rattle.text_core.specs.declared.verdict.Clause.TheVariants.{StateDiffers, ConstraintFails, NotBroken}
use Rattle.text_core.specs.declared.verdict.Verdict.{Verdict}
use Rattle.text_core.specs.declared.verdict.Verdict.TheVariants.{Yes, No}
use Rattle.word_core.specs.Words.{BitVector}
use Rattle.btor_tree.specs.declared.lines.Line.{Line}
use Rattle.btor_tree.specs.Fits.{IsWellFormed}
use Rattle.btor_frames.specs.Judged.{Statement, AreStatedAfter, PassAfter, IsAccepted}
use Rattle.btor_frames.proofs.Stating.{one_stated}
use Rattle.btor_witness.specs.declared.witness.Frame.{Frame}
use Rattle.btor_witness.specs.declared.witness.Witness.{Witness}
use Rattle.btor_witness.specs.Judging.{statement_of, statements_of, is_last, Passes, FailsFirst, IsJudgedAfter, judged_btor}

fails_not : (lines : List Line) (j : ℕ) (begun last : Bool) (s : Statement) (row : List BitVector) (clause : Clause) → FailsFirst lines j begun last s row clause → Passes lines j begun last s row → ⊥
fails_not lines j begun last s row StateDiffers f p = f p.0
fails_not lines j begun last s row ConstraintFails f p = f.1 p.1
fails_not lines j begun last s row NotBroken f p = f.3 (p.2 f.2)
fails_not lines j begun last s row clause f p = absurd f

one_clause : (lines : List Line) (j : ℕ) (begun last : Bool) (s : Statement) (row : List BitVector) (a b : Clause) → FailsFirst lines j begun last s row a → FailsFirst lines j begun last s row b → a ≡ b
one_clause lines j begun last s row StateDiffers StateDiffers f g = refl
one_clause lines j begun last s row StateDiffers ConstraintFails f g = absurd (f g.0)
one_clause lines j begun last s row StateDiffers NotBroken f g = absurd (f g.0)
one_clause lines j begun last s row StateDiffers b f g = absurd g
one_clause lines j begun last s row ConstraintFails StateDiffers f g = absurd (g f.0)
one_clause lines j begun last s row ConstraintFails ConstraintFails f g = refl
one_clause lines j begun last s row ConstraintFails NotBroken f g = absurd (f.1 g.1)
one_clause lines j begun last s row ConstraintFails b f g = absurd g
one_clause lines j begun last s row NotBroken StateDiffers f g = absurd (g f.0)
one_clause lines j begun last s row NotBroken ConstraintFails f g = absurd (g.1 f.1)
one_clause lines j begun last s row NotBroken NotBroken f g = refl
one_clause lines j begun last s row NotBroken b f g = absurd g
one_clause lines j begun last s row a b f g = absurd f

-- what is judged from a frame on
abbrev Then : List Line → ℕ → ℕ → Bool → Statement → List Statement → Verdict → List BitVector → Type 0
Then lines j step begun s more v row =
    ((clause : Clause) × FailsFirst lines j begun (is_last more) s row clause × (v ≡ No step clause)) ⊎ (Passes lines j begun (is_last more) s row × IsJudgedAfter lines j (suc step) true row more v)

one_after : (lines : List Line) (j step : ℕ) (begun : Bool) (before : List BitVector) (stated : List Statement) (v u : Verdict) → IsWellFormed lines → IsJudgedAfter lines j step begun before stated v → IsJudgedAfter lines j step begun before stated u → v ≡ u
one_after lines j step begun before [] v u w h k = h ∙ sym k
one_after lines j step begun before (s ∷ more) v u w h k =
    let same : k.0 ≡ h.0 = one_stated lines begun before k.0 h.0 s w k.1 h.1 in
    let other : Then lines j step begun s more u h.0 = subst (Then lines j step begun s more u) same k.2 in
    elim h.2 [
      | inl a ↦ elim other [
        | inl b ↦ a.2 ∙ ap (λ c. No step c) (one_clause lines j begun (is_last more) s h.0 a.0 b.0 a.1 b.1) ∙ sym b.2
        | inr b ↦ absurd (fails_not lines j begun (is_last more) s h.0 a.0 a.1 b.0)
      ]
      | inr a ↦ elim other [
        | inl b ↦ absurd (fails_not lines j begun (is_last more) s h.0 b.0 b.1 a.0)
        | inr b ↦ one_after lines j (suc step) true h.0 more v u w a.1 b.1
      ]
    ]

pub one_verdict : (lines : List Line) (w : Witness) (v u : Verdict) → IsWellFormed lines → judged_btor lines w v → judged_btor lines w u → v ≡ u
one_verdict lines w v u f h k = one_after lines w.bad 0 false [] (statements_of w) v u f h k

yes_no : (step : ℕ) (clause : Clause) → Yes ≡ No step clause → ⊥
yes_no step clause e = absurd (cc)

yes_passes : (lines : List Line) (j step : ℕ) (begun : Bool) (before : List BitVector) (s : Statement) (more : List Statement) → IsJudgedAfter lines j step begun before (s ∷ more) Yes → (rows : List (List BitVector)) × AreStatedAfter lines begun before (s ∷ more) rows × PassAfter lines j begun (s ∷ more) rows
yes_passes lines j step begun before s [] h =
    elim h.2 [ inl a ↦ absurd (yes_no step a.0 a.2) | inr a ↦ (h.0 ∷ [], (h.1, tt), (a.0.0, a.0.1, a.0.2 refl)) ]
yes_passes lines j step begun before s (t ∷ more) h =
    elim h.2 [
      | inl a ↦ absurd (yes_no step a.0 a.2)
      | inr a ↦ let r = yes_passes lines j (suc step) true h.0 t more a.1 in (h.0 ∷ r.0, (h.1, r.1), (a.0.0, a.0.1, r.2))
    ]

not_last : false ≡ true → ⊥
not_last e = absurd (cc)

passes_yes : (lines : List Line) (j step : ℕ) (begun : Bool) (before : List BitVector) (s : Statement) (more : List Statement) (rows : List (List BitVector)) → AreStatedAfter lines begun before (s ∷ more) rows → PassAfter lines j begun (s ∷ more) rows → IsJudgedAfter lines j step begun before (s ∷ more) Yes
passes_yes lines j step begun before s [] [] p q = absurd p
passes_yes lines j step begun before s [] (row ∷ []) p q = (row, p.0, inr ((q.0, q.1, λ t. q.2), refl))
passes_yes lines j step begun before s [] (row ∷ r ∷ rows) p q = absurd p.1
passes_yes lines j step begun before s (t ∷ more) [] p q = absurd p
passes_yes lines j step begun before s (t ∷ more) (row ∷ rows) p q =
    (row, p.0, inr ((q.0, q.1, λ l. absurd (not_last l)), passes_yes lines j (suc step) true row t more rows p.1 q.2))

both : (lines : List Line) (j : ℕ) (stated : List Statement) → stated ≢ [] → (IsJudgedAfter lines j 0 false [] stated Yes → IsAccepted lines j stated) × (IsAccepted lines j stated → IsJudgedAfter lines j 0 false [] stated Yes)
both lines j [] n = absurd (n refl)
both lines j (s ∷ more) n = (λ h. yes_passes lines j 0 false [] s more h, λ a. passes_yes lines j 0 false [] s more a.0 a.1 a.2)

some_stated : (frames : List Frame) → frames ≢ [] → map statement_of frames ≢ []
some_stated [] n = absurd (n refl)
some_stated (f ∷ frames) n = λ e. absurd (omega (arith, ap length e))

pub yes_where_accepted : (lines : List Line) (w : Witness) → w.frames ≢ [] → (judged_btor lines w Yes → IsAccepted lines w.bad (statements_of w)) × (IsAccepted lines w.bad (statements_of w) → judged_btor lines w Yes)
yes_where_accepted lines w n = both lines w.bad (statements_of w) (some_stated w.frames n)
