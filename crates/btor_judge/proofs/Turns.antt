-- What each line does to a reader.
use Rattle.std.proofs.Common.{◌≡◌, ◌⊎◌, ◌<◌, ◌+◌, ℕ, true, false, cond, eqb, ltb, List, [], ◌∷◌, ◌++◌, length, Option, Some, None, Result, Ok, Err, refl, sym, ap, ◌∙◌, subst, inl, inr}
use Rattle.std.proofs.lemmas.Bool.{cond-true, cond-false, lt-ltb, eq-eqb, ne_eqb}
use Rattle.std.proofs.lemmas.List.{length_push}
use Rattle.word_core.specs.Words.{BitVector}
use Rattle.text_core.specs.declared.place.Kind.{Kind}
use Rattle.text_core.specs.declared.place.Kind.TheVariants.{X}
use Rattle.text_core.specs.declared.verdict.Verdict.{Verdict}
use Rattle.btor_tree.specs.declared.lines.Line.{Line}
use Rattle.btor_tree.specs.Parts.{Parts}
use Rattle.btor_frames.specs.Held.{Held, FramesFit}
use Rattle.btor_witness.specs.declared.phase.Phase.{Phase}
use Rattle.btor_witness.specs.declared.phase.Phase.TheVariants as phase
use Rattle.btor_witness.specs.declared.shape.Shape.{Shape}
use Rattle.btor_witness.specs.declared.shape.Shape.TheVariants.{Sat, Property, States, Inputs, End, Assignment}
use Rattle.btor_witness.specs.declared.witness.Frame.{Frame}
use Rattle.btor_witness.specs.Parts.{stating}
use Rattle.btor_witness.specs.Sizes.{Sizes, sizes_of, is_within}
use Rattle.btor_witness.specs.Shapes.{is_passed, shape_of}
use Rattle.btor_witness.specs.Reading.{Reading, moves, done, bad, last_frame, frames_at, frames_of, new_frame, step, with_stated, step_in}
use Rattle.btor_witness.specs.Texts.{next_of}
use Rattle.btor_witness.specs.Judging.{judged_btor}
use Rattle.btor_witness.specs.laws.Laws.{at_passed, at_shape}
use Rattle.btor_judge.specs.declared.reader.Reader.{Reader}
use Rattle.btor_judge.specs.declared.reader.Stage.{Stage}
use Rattle.btor_judge.specs.declared.reader.Stage.TheVariants.{Going, Done}
use Rattle.btor_judge.specs.Kept.{StatedPart, Holds, IsStating}
use Rattle.btor_judge.specs.Standing.{AreJudged, IsFresh, IsAt, JudgesFrame, HasClosed, Does, IsStageOf}
use Rattle.btor_judge.proofs.Passing.{fresh_judged}

-- another phase
at_phase : (lines : List Line) (reader : Reader) (r : Reading) (p : Phase) → IsAt lines reader r → IsFresh reader r.frames p → IsAt lines (record reader { phase = p }) (record r { phase = p })
at_phase lines reader r p h fresh =
    record {
      fits = record { bads = h.fits.bads; states = h.fits.states; inputs = h.fits.inputs; frames = h.fits.frames; places = h.fits.places };
      same_phase = refl;
      same_bad = h.same_bad;
      counted = h.counted;
      states = h.states;
      inputs = h.inputs;
      fresh = fresh;
      judged = h.judged;
    }

phase_at : (lines : List Line) (reader : Reader) (r : Reading) (p : Phase) → IsAt lines reader r → reader.phase ≡ p → r.phase ≡ p
phase_at lines reader r p h e = sym h.same_phase ∙ e

phase_not : (lines : List Line) (reader : Reader) (r : Reading) (p : Phase) → IsAt lines reader r → (reader.phase ≡ p → ⊥) → r.phase ≡ p → ⊥
phase_not lines reader r p h differs e = differs (h.same_phase ∙ e)

-- the line `sat`
pub at_sat : (lines : List Line) (reader : Reader) (r : Reading) → IsAt lines reader r → reader.phase ≡ phase.Start → Does lines r (step_in (sizes_of lines) Sat r.phase r) (record reader { phase = phase.Property }) Going
at_sat lines reader r h e =
    let p = phase_at lines reader r phase.Start h e in
    (record r { phase = phase.Property }, inl (ap (λ q. step_in (sizes_of lines) Sat q r) p), at_phase lines reader r phase.Property h (subst (IsFresh reader r.frames) p h.fresh))

-- the bad line
pub at_property : (lines : List Line) (reader : Reader) (r : Reading) (n : ℕ) → IsAt lines reader r → reader.phase ≡ phase.Property → n < reader.bads → Does lines r (step_in (sizes_of lines) (Property n) r.phase r) (record reader { bad = n; phase = phase.Heading }) Going
at_property lines reader r n h e lt =
    let p = phase_at lines reader r phase.Property h e in
    let fresh = subst (IsFresh reader r.frames) p h.fresh in
    let q : Reading = record r { phase = phase.Heading; bad = n } in
    let sizes = sizes_of lines in
    let there : ltb n sizes.bads ≡ true = lt-ltb n sizes.bads (subst (λ k. n < k) h.fits.bads lt) in (
      q,
      inl (ap (λ x. step_in sizes (Property n) x r) p ∙ cond-true (ltb n sizes.bads) (moves q) (bad (X 2)) there),
      record {
        fits = record { bads = h.fits.bads; states = h.fits.states; inputs = h.fits.inputs; frames = h.fits.frames; places = h.fits.places };
        same_phase = refl;
        same_bad = refl;
        counted = h.counted;
        states = h.states;
        inputs = h.inputs;
        fresh = tt;
        judged = fresh_judged lines reader.frames reader.count n r.frames reader.verdict fresh.0 fresh.1 fresh.2 h.counted;
      },
    )

-- headings
pub states_at : (lines : List Line) (reader : Reader) (r : Reading) (n : ℕ) (p : Phase) → IsAt lines reader r → reader.phase ≡ p → step_in (sizes_of lines) (States n) r.phase r ≡ step_in (sizes_of lines) (States n) p r
states_at lines reader r n p h e = ap (λ x. step_in (sizes_of lines) (States n) x r) (phase_at lines reader r p h e)

states_new : (sizes : Sizes) (n : ℕ) (p : Phase) (r : Reading) → (p ≡ phase.Start → ⊥) → (p ≡ phase.Property → ⊥) → step_in sizes (States n) p r ≡ new_frame sizes phase.States n r
states_new sizes n phase.Start r differs none = absurd (differs refl)
states_new sizes n phase.Property r differs none = absurd (none refl)
states_new sizes n phase.Heading r differs none = refl
states_new sizes n phase.States r differs none = refl
states_new sizes n phase.Inputs r differs none = refl

pub states_frame : (lines : List Line) (reader : Reader) (r : Reading) (n : ℕ) → IsAt lines reader r → (reader.phase ≡ phase.Start → ⊥) → (reader.phase ≡ phase.Property → ⊥) → step_in (sizes_of lines) (States n) r.phase r ≡ new_frame (sizes_of lines) phase.States n r
states_frame lines reader r n h differs none = states_new (sizes_of lines) n r.phase r (phase_not lines reader r phase.Start h differs) (phase_not lines reader r phase.Property h none)

pub inputs_at : (lines : List Line) (reader : Reader) (r : Reading) (n : ℕ) (p : Phase) → IsAt lines reader r → reader.phase ≡ p → step_in (sizes_of lines) (Inputs n) r.phase r ≡ step_in (sizes_of lines) (Inputs n) p r
inputs_at lines reader r n p h e = ap (λ x. step_in (sizes_of lines) (Inputs n) x r) (phase_at lines reader r p h e)

inputs_new : (sizes : Sizes) (n : ℕ) (p : Phase) (r : Reading) → (p ≡ phase.Start → ⊥) → (p ≡ phase.Property → ⊥) → (p ≡ phase.States → ⊥) → step_in sizes (Inputs n) p r ≡ new_frame sizes phase.Inputs n r
inputs_new sizes n phase.Start r differs none other = absurd (differs refl)
inputs_new sizes n phase.Property r differs none other = absurd (none refl)
inputs_new sizes n phase.Heading r differs none other = refl
inputs_new sizes n phase.States r differs none other = absurd (other refl)
inputs_new sizes n phase.Inputs r differs none other = refl

pub inputs_frame : (lines : List Line) (reader : Reader) (r : Reading) (n : ℕ) → IsAt lines reader r → (reader.phase ≡ phase.Start → ⊥) → (reader.phase ≡ phase.Property → ⊥) → (reader.phase ≡ phase.States → ⊥) → step_in (sizes_of lines) (Inputs n) r.phase r ≡ new_frame (sizes_of lines) phase.Inputs n r
inputs_frame lines reader r n h differs none other = inputs_new (sizes_of lines) n r.phase r (phase_not lines reader r phase.Start h differs) (phase_not lines reader r phase.Property h none) (phase_not lines reader r phase.States h other)

-- inputs of the frame whose states were read
pub at_inputs : (lines : List Line) (reader : Reader) (r : Reading) (n : ℕ) → IsAt lines reader r → reader.phase ≡ phase.States → n ≡ reader.count → Does lines r (step_in (sizes_of lines) (Inputs n) r.phase r) (record reader { phase = phase.Inputs }) Going
at_inputs lines reader r n h e same =
    let q : Reading = record r { phase = phase.Inputs } in
    (q, inl (inputs_at lines reader r n phase.States h e ∙ cond-true (eqb n (length r.frames)) (moves q) (new_frame (sizes_of lines) phase.Inputs n r) (eq-eqb n (length r.frames) (same ∙ h.counted))), at_phase lines reader r phase.Inputs h tt)

pub other_inputs : (lines : List Line) (reader : Reader) (r : Reading) (n : ℕ) → IsAt lines reader r → reader.phase ≡ phase.States → (n ≡ reader.count → ⊥) → step_in (sizes_of lines) (Inputs n) r.phase r ≡ new_frame (sizes_of lines) phase.Inputs n r
other_inputs lines reader r n h e other =
    inputs_at lines reader r n phase.States h e ∙ cond-false (eqb n (length r.frames)) (moves (record r { phase = phase.Inputs })) (new_frame (sizes_of lines) phase.Inputs n r) (ne_eqb n (length r.frames) (λ same. other (same ∙ sym h.counted)))

-- a new frame
pub wrong_number : (sizes : Sizes) (part : Phase) (n : ℕ) (r : Reading) → (n ≡ length (frames_of r) → ⊥) → new_frame sizes part n r ≡ bad (X 3)
wrong_number sizes part n r other = cond-false (eqb n (length (frames_of r))) _ (bad (X 3)) (ne_eqb n (length (frames_of r)) other)

pub too_many : (sizes : Sizes) (part : Phase) (n : ℕ) (r : Reading) → n ≡ length (frames_of r) → is_within sizes (n + 1) ≡ false → new_frame sizes part n r ≡ bad (X 8)
too_many sizes part n r same over =
    cond-true (eqb n (length (frames_of r))) _ (bad (X 3)) (eq-eqb n (length (frames_of r)) same) ∙ cond-false (is_within sizes (n + 1)) (moves (record { phase = part; bad = r.bad; frames = frames_of r; states = []; inputs = [] })) (bad (X 8)) over

in_part : (reader : Reader) (frames : List Frame) (p : Phase) → (p ≡ phase.States) ⊎ (p ≡ phase.Inputs) → IsFresh reader frames p
in_part reader frames p (inl e) = subst (IsFresh reader frames) (sym e) tt
in_part reader frames p (inr e) = subst (IsFresh reader frames) (sym e) tt

pub at_frame : (lines : List Line) (closed : Reader) (r : Reading) (part : Phase) (n : ℕ) (states inputs : StatedPart) → (part ≡ phase.States) ⊎ (part ≡ phase.Inputs) → n ≡ length (frames_of r) → is_within (sizes_of lines) (n + 1) ≡ true → HasClosed lines closed r
    → states.widths ≡ closed.states.widths → inputs.widths ≡ closed.inputs.widths → Holds states [] → Holds inputs [] → Does lines r (new_frame (sizes_of lines) part n r) (record closed { states = states; inputs = inputs; phase = part }) Going
at_frame lines closed r part n states inputs is same within h sw iw hs hi =
    let q : Reading = record { phase = part; bad = r.bad; frames = frames_of r; states = []; inputs = [] } in
    let sizes = sizes_of lines in
    let new : Reader = record closed { states = states; inputs = inputs; phase = part } in (
      q,
      inl (cond-true (eqb n (length (frames_of r))) (cond (is_within sizes (n + 1)) (moves q) (bad (X 8))) (bad (X 3)) (eq-eqb n (length (frames_of r)) same) ∙ cond-true (is_within sizes (n + 1)) (moves q) (bad (X 8)) within),
      record {
        fits = record { bads = h.fits.bads; states = sw ∙ h.fits.states; inputs = iw ∙ h.fits.inputs; frames = h.fits.frames; places = h.fits.places };
        same_phase = refl;
        same_bad = h.same_bad;
        counted = h.counted;
        states = hs;
        inputs = hi;
        fresh = in_part new (frames_of r) part is;
        judged = h.judged;
      },
    )

-- frames that are judged
pub closed_none : (lines : List Line) (reader : Reader) (r : Reading) → IsAt lines reader r → frames_of r ≡ r.frames → HasClosed lines reader r
closed_none lines reader r h e =
    record {
      fits = h.fits;
      same_bad = h.same_bad;
      counted = h.counted ∙ ap length (sym e);
      states = h.states;
      inputs = h.inputs;
      judged = subst (λ fs. AreJudged lines reader.frames reader.count r.bad fs reader.verdict) (sym e) h.judged;
    }

no_frame : (p : Phase) (r : Reading) → (p ≡ phase.States → ⊥) → (p ≡ phase.Inputs → ⊥) → frames_at p r ≡ r.frames
no_frame phase.Start r s i = refl
no_frame phase.Property r s i = refl
no_frame phase.Heading r s i = refl
no_frame phase.States r s i = absurd (s refl)
no_frame phase.Inputs r s i = absurd (i refl)

pub none_begun : (lines : List Line) (reader : Reader) (r : Reading) → IsAt lines reader r → (reader.phase ≡ phase.States → ⊥) → (reader.phase ≡ phase.Inputs → ⊥) → frames_of r ≡ r.frames
none_begun lines reader r h s i = no_frame r.phase r (phase_not lines reader r phase.States h s) (phase_not lines reader r phase.Inputs h i)

frame_in : (p : Phase) (r : Reading) → (p ≡ phase.States) ⊎ (p ≡ phase.Inputs) → frames_at p r ≡ r.frames ++ last_frame r ∷ []
frame_in p r (inl e) = ap (λ x. frames_at x r) e
frame_in p r (inr e) = ap (λ x. frames_at x r) e

pub one_begun : (lines : List Line) (reader : Reader) (r : Reading) → IsAt lines reader r → (reader.phase ≡ phase.States) ⊎ (reader.phase ≡ phase.Inputs) → frames_of r ≡ r.frames ++ last_frame r ∷ []
one_begun lines reader r h is = frame_in r.phase r (elim is [ inl e ↦ inl (phase_at lines reader r phase.States h e) | inr e ↦ inr (phase_at lines reader r phase.Inputs h e) ])

pub closed_one : (lines : List Line) (old : Reader) (held : Held) (verdict : Verdict) (r : Reading) → IsAt lines old r → frames_of r ≡ r.frames ++ last_frame r ∷ [] → FramesFit lines held → AreJudged lines held (old.count + 1) old.bad (r.frames ++ last_frame r ∷ []) verdict → HasClosed lines (record old { frames = held; verdict = verdict; count = old.count + 1 }) r
closed_one lines old held verdict r h e fits judged =
    record {
      fits = record { bads = h.fits.bads; states = h.fits.states; inputs = h.fits.inputs; frames = fits; places = h.fits.places };
      same_bad = h.same_bad;
      counted = ap (λ n. n + 1) h.counted ∙ sym (ap length e ∙ length_push r.frames (last_frame r));
      states = h.states;
      inputs = h.inputs;
      judged = subst (λ j. AreJudged lines held (old.count + 1) j (frames_of r) verdict) h.same_bad (subst (λ fs. AreJudged lines held (old.count + 1) old.bad fs verdict) (sym e) judged);
    }

-- statements
pub at_states : (lines : List Line) (reader : Reader) (r : Reading) (i : ℕ) (word : Option BitVector) (stated : Result (Unit {0}) Kind) (stage : Stage) (new : StatedPart) → IsAt lines reader r → reader.phase ≡ phase.States → new.widths ≡ reader.states.widths
    → IsStating (stating reader.states.widths r.states i word) new stated → IsStageOf stated stage → Does lines r (step_in (sizes_of lines) (Assignment i word) r.phase r) (record reader { states = new }) stage
at_states lines reader r i word (Ok u) stage new h e w is stays =
    let q : Reading = record r { states = is.0 } in
    let p = phase_at lines reader r phase.States h e in
    let stating_is : stating (sizes_of lines).states r.states i word ≡ Ok is.0 = ap (λ ws. stating ws r.states i word) (sym h.fits.states) ∙ is.1 in
    subst (λ s. Does lines r (step_in (sizes_of lines) (Assignment i word) r.phase r) (record reader { states = new }) s) (sym stays) (
      q,
      inl (ap (λ x. step_in (sizes_of lines) (Assignment i word) x r) p ∙ ap (with_stated (λ states. record r { states = states })) stating_is),
      record {
        fits = record { bads = h.fits.bads; states = w ∙ h.fits.states; inputs = h.fits.inputs; frames = h.fits.frames; places = h.fits.places };
        same_phase = h.same_phase;
        same_bad = h.same_bad;
        counted = h.counted;
        states = is.2;
        inputs = h.inputs;
        fresh = in_part (record reader { states = new }) r.frames r.phase (inl p);
        judged = h.judged;
      },
    )
at_states lines reader r i word (Err kind) stage new h e w is stays =
    let stating_is : stating (sizes_of lines).states r.states i word ≡ Err kind = ap (λ ws. stating ws r.states i word) (sym h.fits.states) ∙ is in
    subst (λ s. Does lines r (step_in (sizes_of lines) (Assignment i word) r.phase r) (record reader { states = new }) s) (sym stays)
    (ap (λ x. step_in (sizes_of lines) (Assignment i word) x r) (phase_at lines reader r phase.States h e) ∙ ap (with_stated (λ states. record r { states = states })) stating_is)

pub at_input : (lines : List Line) (reader : Reader) (r : Reading) (i : ℕ) (word : Option BitVector) (stated : Result (Unit {0}) Kind) (stage : Stage) (new : StatedPart) → IsAt lines reader r → reader.phase ≡ phase.Inputs → new.widths ≡ reader.inputs.widths
    → IsStating (stating reader.inputs.widths r.inputs i word) new stated → IsStageOf stated stage → Does lines r (step_in (sizes_of lines) (Assignment i word) r.phase r) (record reader { inputs = new }) stage
at_input lines reader r i word (Ok u) stage new h e w is stays =
    let q : Reading = record r { inputs = is.0 } in
    let p = phase_at lines reader r phase.Inputs h e in
    let stating_is : stating (sizes_of lines).inputs r.inputs i word ≡ Ok is.0 = ap (λ ws. stating ws r.inputs i word) (sym h.fits.inputs) ∙ is.1 in
    subst (λ s. Does lines r (step_in (sizes_of lines) (Assignment i word) r.phase r) (record reader { inputs = new }) s) (sym stays) (
      q,
      inl (ap (λ x. step_in (sizes_of lines) (Assignment i word) x r) p ∙ ap (with_stated (λ inputs. record r { inputs = inputs })) stating_is),
      record {
        fits = record { bads = h.fits.bads; states = h.fits.states; inputs = w ∙ h.fits.inputs; frames = h.fits.frames; places = h.fits.places };
        same_phase = h.same_phase;
        same_bad = h.same_bad;
        counted = h.counted;
        states = h.states;
        inputs = is.2;
        fresh = in_part (record reader { inputs = new }) r.frames r.phase (inr p);
        judged = h.judged;
      },
    )
at_input lines reader r i word (Err kind) stage new h e w is stays =
    let stating_is : stating (sizes_of lines).inputs r.inputs i word ≡ Err kind = ap (λ ws. stating ws r.inputs i word) (sym h.fits.inputs) ∙ is in
    subst (λ s. Does lines r (step_in (sizes_of lines) (Assignment i word) r.phase r) (record reader { inputs = new }) s) (sym stays)
    (ap (λ x. step_in (sizes_of lines) (Assignment i word) x r) (phase_at lines reader r phase.Inputs h e) ∙ ap (with_stated (λ inputs. record r { inputs = inputs })) stating_is)

-- the end
end_in : (sizes : Sizes) (p : Phase) (r : Reading) → (p ≡ phase.States) ⊎ (p ≡ phase.Inputs) → step_in sizes End p r ≡ done (record { bad = r.bad; frames = frames_of r })
end_in sizes p r (inl e) = ap (λ x. step_in sizes End x r) e
end_in sizes p r (inr e) = ap (λ x. step_in sizes End x r) e

pub at_end : (lines : List Line) (old : Reader) (held : Held) (verdict : Verdict) (r : Reading) → IsAt lines old r → (old.phase ≡ phase.States) ⊎ (old.phase ≡ phase.Inputs) → JudgesFrame lines true held old.count old.bad r.frames (last_frame r) verdict → Does lines r (step_in (sizes_of lines) End r.phase r) (record old { frames = held; verdict = verdict }) Done
at_end lines old held verdict r h is judged =
    let there : (r.phase ≡ phase.States) ⊎ (r.phase ≡ phase.Inputs) = elim is [ inl e ↦ inl (phase_at lines old r phase.States h e) | inr e ↦ inr (phase_at lines old r phase.Inputs h e) ] in
    let e = frame_in r.phase r there in (
      record { bad = r.bad; frames = frames_of r },
      end_in (sizes_of lines) r.phase r there,
      record {
        bad = sym h.same_bad;
        steps = ap length e ∙ length_push r.frames (last_frame r) ∙ ap (λ n. n + 1) (sym h.counted);
        verdict = subst (λ fs. judged_btor lines (record { bad = r.bad; frames = fs }) verdict) (sym e) (subst (λ j. judged_btor lines (record { bad = j; frames = r.frames ++ last_frame r ∷ [] }) verdict) h.same_bad judged);
      },
    )

-- a line of any shape
pub passed_over : (lines : List Line) (reader : Reader) (r : Reading) (ps : Parts) → IsAt lines reader r → is_passed ps ≡ true → Does lines r (next_of (sizes_of lines) r ps) reader Going
passed_over lines reader r ps h e = (r, inr (at_passed (sizes_of lines) r ps e, refl), h)

pub shaped : (lines : List Line) (reader : Reader) (r : Reading) (ps : Parts) (shape : Shape) (stage : Stage) → is_passed ps ≡ false → shape_of ps ≡ Some shape → Does lines r (step (sizes_of lines) r shape) reader stage → Does lines r (next_of (sizes_of lines) r ps) reader stage
shaped lines reader r ps shape stage e f h = subst (λ x. Does lines r x reader stage) (sym (at_shape (sizes_of lines) r ps (Some shape) e f)) h

pub shapeless : (lines : List Line) (r : Reading) (ps : Parts) → is_passed ps ≡ false → shape_of ps ≡ None → next_of (sizes_of lines) r ps ≡ bad (X 1)
shapeless lines r ps e f = at_shape (sizes_of lines) r ps None e f
