-- Witnesses of two lists with the same words are the same, and are judged equally.
use Rattle.std.proofs.Common.{◌≡◌, ℕ, suc, ◌<◌, ◌≤◌, Bool, true, false, List, [], ◌∷◌, length, sym, subst, inl, inr, ◌⊎◌}
use Rattle.text_core.specs.declared.place.Kind.TheVariants.{X}
use Rattle.text_core.specs.declared.place.Refusal.{Refusal}
use Rattle.text_core.specs.declared.verdict.Clause.{Clause}
use Rattle.text_core.specs.declared.verdict.Clause.TheVariants.{StateDiffers, ConstraintFails, NotBroken}
use Rattle.text_core.specs.declared.verdict.Verdict.{Verdict}
use Rattle.word_core.specs.Words.{BitVector}
use Rattle.btor_tree.specs.declared.lines.Line.{Line}
use Rattle.btor_tree.specs.Fits.{IsWellFormed}
use Rattle.btor_tree.specs.Parts.{line_place}
use Rattle.btor_frames.specs.Judged.{Statement, IsStatedFrame}
use Rattle.btor_witness.specs.Judging.{is_last, statements_of, Passes, FailsFirst, IsJudgedAfter}
use Rattle.btor_witness.specs.Sizes.{Sizes, most_bytes}
use Rattle.btor_witness.specs.Texts.{ReadsText, RefusesText}
use Rattle.btor_simplify.specs.Words.{KeepsWords}
use Rattle.btor_simplify.specs.Witnesses.{KeepsWitnesses}
use Rattle.btor_simplify.proofs.WitnessesPlaces.{sizes_same}
use Rattle.btor_simplify.proofs.GivenValues.{AreLast, AreAlike}
use Rattle.btor_simplify.proofs.WitnessesFrames.{PassAlike, carry_to, carry_from, alike}

-- where the frames of one list have frames of the other that pass alike, what is judged of the one is judged of the other
module _ (lines others : List Line) (j : ℕ) (R : List BitVector → List BitVector → Type 0) (carry : (begun : Bool) (last before : List BitVector) (stated : Statement) (row : List BitVector) → AreLast R begun last before → IsStatedFrame lines begun last stated row → (image : List BitVector) × IsStatedFrame others begun before stated image × R row image) (same : (begun : Bool) (stated : Statement) (row image : List BitVector) → R row image → PassAlike lines others j begun stated row image) where
  fails : (begun last : Bool) (stated : Statement) (row image : List BitVector) (clause : Clause) → R row image → FailsFirst lines j begun last stated row clause → FailsFirst others j begun last stated image clause
  fails begun last stated row image StateDiffers r f = let p = same begun stated row image r in λ g. f (p.states.1 g)
  fails begun last stated row image ConstraintFails r f =
      let p = same begun stated row image r in
      (p.states.0 f.0, λ g. f.1 (p.constraints.1 g))
  fails begun last stated row image NotBroken r f =
      let p = same begun stated row image r in
      (p.states.0 f.0, p.constraints.0 f.1, f.2, λ g. f.3 (p.bad.1 g))
  fails begun last stated row image clause r f = absurd f

  passes : (begun last : Bool) (stated : Statement) (row image : List BitVector) → R row image → Passes lines j begun last stated row → Passes others j begun last stated image
  passes begun last stated row image r f =
      let p = same begun stated row image r in
      (p.states.0 f.0, p.constraints.0 f.1, λ e. p.bad.0 (f.2 e))

  judged_after : (step : ℕ) (begun : Bool) (last before : List BitVector) (stated : List Statement) (v : Verdict) → AreLast R begun last before → IsJudgedAfter lines j step begun last stated v → IsJudgedAfter others j step begun before stated v
  judged_after step begun last before [] v b h = h
  judged_after step begun last before (s ∷ more) v b h =
      let c = carry begun last before s h.0 b h.1 in (
        c.0,
        c.1,
        elim h.2 [
          | inl f ↦ inl (f.0, fails begun (is_last more) s h.0 c.0 f.0 c.2 f.1, f.2)
          | inr p ↦ inr (passes begun (is_last more) s h.0 c.0 c.2 p.0, judged_after (suc step) true h.0 c.0 more v c.2 p.1)
        ],
      )

turned : (R : List BitVector → List BitVector → Type 0) (begun : Bool) (last before : List BitVector) → AreLast (λ x y. R y x) begun before last → AreLast R begun last before
turned R true last before h = h
turned R false last before h = h

-- the text's refusal, by what a witness is read against
abbrev RefusesBy : List ℕ → Refusal → Sizes → Type 0
RefusesBy text r sizes =
    (((most_bytes < length text) × (r.kind ≡ X 8) × (r.place.line ≡ 1)) ⊎ ((length text ≤ most_bytes) × RefusesText sizes text r.kind r.place.line)) × (r.place ≡ line_place text r.place.line)

pub keeps_witnesses : (old new : List Line) → IsWellFormed old → IsWellFormed new → KeepsWords old new → KeepsWitnesses old new
keeps_witnesses old new wo wn k =
    let place = k.0 in
    let sizes = sizes_same old new place k.1 in
    let R = AreAlike old new place in
    record {
      spelled = λ text w. (λ h. (h.0, subst (λ z. ReadsText z text w) (sym sizes) h.1), λ h. (h.0, subst (λ z. ReadsText z text w) sizes h.1));
      refused = λ text r. (λ h. subst (RefusesBy text r) (sym sizes) h, λ h. subst (RefusesBy text r) sizes h);
      judged = λ w v. (
        λ h. judged_after old new w.bad R (carry_to old new place k.1 wo wn k.2) (alike old new place k.1 wo wn w.bad) 0 false [] [] (statements_of w) v tt h,
        λ h. judged_after new old w.bad (λ image row. R row image)
            (λ begun before last stated image b p. carry_from old new place k.1 wo wn k.2 begun last before stated image (turned R begun last before b) p)
            (λ begun stated image row r. let p = alike old new place k.1 wo wn w.bad begun stated row image r in record { states = (p.states.1, p.states.0); constraints = (p.constraints.1, p.constraints.0); bad = (p.bad.1, p.bad.0) })
            0 false [] [] (statements_of w) v tt h,
      );
    }
