-- A reader by the reading where it is.
use Rattle.std.proofs.Common.{◌≡◌, ◌⊎◌, ◌<◌, ◌≤◌, ◌^◌, ℕ, true, false, cond, eqb, leb, ◌||◌, List, [], ◌∷◌, length, get_or, Some, None, sym, ap, ◌∙◌, subst, arith, inl, inr}
use Rattle.std.specs.Prelude.{slice_get}
use Rattle.std.specs.Option.{option_or}
use Rattle.std.specs.List.{AllByRecursion}
use Rattle.std.proofs.lemmas.List.{length_push}
use Rattle.std.proofs.lemmas.Bool.{cases_Bool, cond-true, and_parts, leb-true}
use Rattle.std.proofs.lemmas.Option.{same_Some, slice_get_within, get_or_from_slice_get}
use Rattle.word_core.specs.Words.{BitVector}
use Rattle.btor_tree.specs.declared.lines.Line.{Line}
use Rattle.btor_tree.specs.Fits.{IsWellFormed, is_bad, is_state, is_input, count_of}
use Rattle.btor_tree.specs.Frame.{word_at}
use Rattle.btor_tree.proofs.Widths.{option_cases}
use Rattle.btor_frames.specs.Held.{Held, FramesFit}
use Rattle.btor_frames.specs.Judged.{stated_or, IsStatedFrame}
use Rattle.btor_frames.proofs.Stating.{step_stated}
use Rattle.btor_frames.specs.Steps.{SuppliedFit, IsStep}
use Rattle.btor_witness.specs.declared.phase.Phase.{Phase}
use Rattle.btor_witness.specs.declared.phase.Phase.TheVariants as phase
use Rattle.btor_witness.specs.declared.witness.Stated.{Stated}
use Rattle.btor_witness.specs.declared.witness.Frame.{Frame}
use Rattle.btor_witness.specs.Parts.{is_stated}
use Rattle.btor_witness.specs.Sizes.{Sizes, sizes_of, widths_of, most_frames}
use Rattle.btor_witness.specs.Reading.{Reading, last_frame, frames_at}
use Rattle.btor_witness.specs.Fitting.{BadFits}
use Rattle.btor_witness.specs.Printing.{IsOf, IsPart, value_of}
use Rattle.btor_witness.specs.Judging.{statement_of}
use Rattle.btor_witness.specs.Room.{HoldsStated, IsWordThere, places_of}
use Rattle.btor_witness.proofs.Marks.{stated_at}
use Rattle.btor_witness.proofs.Tables.{length_widths}
use Rattle.btor_witness.proofs.Places.{length_places, place_inside}
use Rattle.btor_witness.proofs.Statements.{value_all, value_once, all_from}
use Rattle.btor_witness.proofs.Judgement.{hands, handed_fit}
use Rattle.btor_judge.specs.declared.reader.Reader.{Reader}
use Rattle.btor_judge.specs.Kept.{StatedPart, Holds}
use Rattle.btor_judge.specs.Standing.{ReaderFits, AreJudged, IsAt, RepresentsIn, HasFrame, AgreesAt}

-- the words of a part, over the widths of the lines
pub holds_words : (kept : StatedPart) (widths : List ℕ) (stated : List Stated) → kept.widths ≡ widths → Holds kept stated → HoldsStated widths stated kept.words
holds_words kept widths stated e h = subst (λ ws. HoldsStated ws stated kept.words) e h.words

pub frame_handed : (lines : List Line) (reader : Reader) (f : Frame) → IsWellFormed lines → HasFrame lines reader f → SuppliedFit lines reader.inputs.words reader.states.words
frame_handed lines reader f w h =
    handed_fit lines f reader.inputs.words reader.states.words w h.inputs_fit h.states_fit
    (holds_words reader.inputs (widths_of is_input lines) f.inputs h.fits.inputs h.inputs)
    (holds_words reader.states (widths_of is_state lines) f.states h.fits.states h.states)

-- what is read of a frame
in_frame : (sizes : Sizes) (n : ℕ) (p : Phase) → (p ≡ phase.States) ⊎ (p ≡ phase.Inputs) → BadFits sizes n p → n < sizes.bads
in_frame sizes n p (inl e) h = subst (BadFits sizes n) e h
in_frame sizes n p (inr e) h = subst (BadFits sizes n) e h

pub has_frame : (lines : List Line) (reader : Reader) (r : Reading) → (reader.phase ≡ phase.States) ⊎ (reader.phase ≡ phase.Inputs) → RepresentsIn lines reader r → HasFrame lines reader (last_frame r)
has_frame lines reader r e h =
    let at = h.0 in
    let there : (r.phase ≡ phase.States) ⊎ (r.phase ≡ phase.Inputs) = elim e [ inl s ↦ inl (sym at.same_phase ∙ s) | inr i ↦ inr (sym at.same_phase ∙ i) ] in
    record {
      fits = at.fits;
      bad_line = subst (λ n. n < count_of is_bad lines) (sym at.same_bad) (in_frame (sizes_of lines) r.bad r.phase there h.1.bad_line);
      states = at.states;
      inputs = at.inputs;
      states_fit = h.1.states;
      inputs_fit = h.1.inputs;
    }

-- frames are few
frames_more : (p : Phase) (r : Reading) → length r.frames ≤ length (frames_at p r)
frames_more phase.Start r = omega arith
frames_more phase.Property r = omega arith
frames_more phase.Heading r = omega arith
frames_more phase.States r = omega (arith, length_push r.frames (last_frame r))
frames_more phase.Inputs r = omega (arith, length_push r.frames (last_frame r))

pub few_frames : (lines : List Line) (reader : Reader) (r : Reading) → RepresentsIn lines reader r → reader.count < 2 ^ 31
few_frames lines reader r h =
    let n = length (frames_at r.phase r) in
    let few : n ≤ most_frames = leb-true n most_frames (and_parts (leb n most_frames) _ h.1.within).0 in
    omega (arith, few, h.0.counted, frames_more r.phase r)

-- the words of states that are stated
stated_value : (xs : List Stated) (k : ℕ) → is_stated xs k ≡ true → (x : BitVector) × (value_of xs k ≡ Some x)
stated_value [] k h = absurd (let g : false ≡ true = h in cc)
stated_value (s ∷ ss) k h =
    elim (option_cases (value_of ss k)) [
      | inr f ↦ (f.0, ap (λ o. option_or o (cond (eqb s.index k) (Some s.value) None)) f.1)
      | inl n ↦ elim (cases_Bool (eqb s.index k)) [
        | inl t ↦ (s.value, ap (λ o. option_or o (cond (eqb s.index k) (Some s.value) None)) n ∙ cond-true (eqb s.index k) (Some s.value) None t)
        | inr f ↦
            let rest : is_stated ss k ≡ true = sym (ap (λ b. b || is_stated ss k) f) ∙ h in
            let v = stated_value ss k rest in
            absurd (let g : None ≡ Some v.0 = sym n ∙ v.1 in cc)
      ]
    ]

-- the stated word of a number
word_kept : (widths : List ℕ) (kept : StatedPart) (stated : List Stated) (k : ℕ) (x : BitVector) → kept.widths ≡ widths → Holds kept stated → AllByRecursion (IsOf widths) stated → value_of stated k ≡ Some x → word_at kept.words k ≡ x
word_kept widths kept stated k x e h all v =
    let of = value_all (IsOf widths) stated k x all v in
    h.words.by_index k x.width (ap (λ ws. slice_get ws k) e ∙ of.0) ∙ ap (λ o. stated_or o x.width) v

pub all_agree_from : (lines : List Line) (row : List BitVector) (kept : StatedPart) (stated : List Stated) (n : ℕ) → kept.widths ≡ widths_of is_state lines → Holds kept stated → IsPart (widths_of is_state lines) stated → n ≡ length (places_of is_state lines) → ((k : ℕ) → k < n → AgreesAt (places_of is_state lines) row kept k) → AllByRecursion (IsWordThere (places_of is_state lines) row) stated
all_agree_from lines row kept stated n e h part long agrees =
    all_from (IsWordThere (places_of is_state lines) row) stated (λ i s at place there.
    let marked : get_or kept.marks s.index false ≡ true = h.marks s.index ∙ stated_at stated i s (slice_get_within stated i s at) (get_or_from_slice_get stated i s s at) in
    let inside = slice_get_within (places_of is_state lines) s.index place there in
    let value = value_once stated i s part.1 at in
    agrees s.index (omega (arith, long, inside)) marked place there ∙ word_kept (widths_of is_state lines) kept stated s.index s.value e h part.0 value)

pub agrees_there : (lines : List Line) (row : List BitVector) (kept : StatedPart) (stated : List Stated) (k : ℕ) → kept.widths ≡ widths_of is_state lines → Holds kept stated → IsPart (widths_of is_state lines) stated → AllByRecursion (IsWordThere (places_of is_state lines) row) stated → AgreesAt (places_of is_state lines) row kept k
agrees_there lines row kept stated k e h part all = λ marked place there.
    let v = stated_value stated k (sym (h.marks k) ∙ marked) in
    value_all (IsWordThere (places_of is_state lines) row) stated k v.0 all v.1 place there ∙ sym (word_kept (widths_of is_state lines) kept stated k v.0 e h part.0 v.1)

-- a state's number
pub numbers : (lines : List Line) (reader : Reader) (f : Frame) (k : ℕ) → HasFrame lines reader f → k < length reader.places → (k < length reader.states.widths) × (k < length reader.states.words)
numbers lines reader f k h lt =
    let places = length_places 0 is_state lines in
    let widths = length_widths lines is_state lines in
    let inside : k < length reader.states.widths = omega (arith, lt, ap length h.fits.places, places, ap length h.fits.states, widths) in
    (inside, omega (arith, inside, h.states.words.sized))

-- the place of a state, and its word
pub place_read : (lines : List Line) (reader : Reader) (k place : ℕ) → ReaderFits lines reader → k < length reader.places → place ≡ get_or reader.places k place → (slice_get (places_of is_state lines) k ≡ Some place) × (place < length reader.frames.row)
place_read lines reader k place h lt e =
    let there = place_inside lines reader.places k place h.places lt e in
    (there.0, omega (arith, there.1, h.frames.sized))

pub agrees_where : (lines : List Line) (reader : Reader) (k place : ℕ) (x : BitVector) → slice_get (places_of is_state lines) k ≡ Some place → x ≡ word_at reader.states.words k → word_at reader.frames.row place ≡ x → AgreesAt (places_of is_state lines) reader.frames.row reader.states k
agrees_where lines reader k place x there word same = λ marked other at. ap (word_at reader.frames.row) (same_Some other place (sym at ∙ there)) ∙ same ∙ word

-- the frame of a step
pub stepped : (lines : List Line) (reader : Reader) (f : Frame) (held : Held) → HasFrame lines reader f → FramesFit lines held → HasFrame lines (record reader { frames = held }) f
stepped lines reader f held h fits =
    record {
      fits = record { bads = h.fits.bads; states = h.fits.states; inputs = h.fits.inputs; frames = fits; places = h.fits.places };
      bad_line = h.bad_line;
      states = h.states;
      inputs = h.inputs;
      states_fit = h.states_fit;
      inputs_fit = h.inputs_fit;
    }

pub stated_step : (lines : List Line) (reader : Reader) (f : Frame) (row : List BitVector) → HasFrame lines reader f → IsStep lines reader.frames.begun reader.frames.row reader.inputs.words reader.states.words row → IsStatedFrame lines reader.frames.begun reader.frames.row (statement_of f) row
stated_step lines reader f row h p =
    step_stated lines reader.frames.begun reader.frames.row reader.inputs.words reader.states.words row (statement_of f)
    (hands lines f reader.inputs.words reader.states.words (holds_words reader.inputs (widths_of is_input lines) f.inputs h.fits.inputs h.inputs) (holds_words reader.states (widths_of is_state lines) f.states h.fits.states h.states))
    p

-- what is judged before the last frame
pub judged_before : (lines : List Line) (reader : Reader) (r : Reading) → IsAt lines reader r → AreJudged lines reader.frames reader.count reader.bad r.frames reader.verdict
judged_before lines reader r h = subst (λ j. AreJudged lines reader.frames reader.count j r.frames reader.verdict) (sym h.same_bad) h.judged
