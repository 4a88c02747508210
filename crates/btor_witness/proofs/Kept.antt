-- What is read is a witness for the lines.
use Rattle.std.proofs.Common.{◌≡◌, ◌≢◌, ℕ, ◌+◌, ◌*◌, ◌^◌, ◌<◌, true, false, cond, eqb, ltb, leb, List, [], ◌∷◌, ◌++◌, length, Option, Some, None, Result, Ok, Err, refl, sym, ap, ◌∙◌, subst, arith}
use Rattle.std.specs.Prelude.{slice_get, is_some, IfSome, IfOk}
use Rattle.std.specs.List.{AllByRecursion}
use Rattle.std.proofs.lemmas.List.{length_push}
use Rattle.std.proofs.lemmas.Bool.{and_from, le-leb, leb-true, ltb-true, eqb-true, eqb-false, ne_eqb, cond_both, or_parts}
use Rattle.text_core.specs.declared.place.Kind.{Kind}
use Rattle.word_core.specs.Words.{BitVector, IsWord}
use Rattle.word_core.specs.declared.word.TheConstants.{WIDEST}
use Rattle.word_core.specs.Digits.{digits_value, read_word}
use Rattle.btor_tree.specs.Parts.{Parts}
use Rattle.btor_witness.specs.declared.phase.Phase.{Phase}
use Rattle.btor_witness.specs.declared.phase.Phase.TheVariants as phase
use Rattle.btor_witness.specs.declared.shape.Shape.{Shape}
use Rattle.btor_witness.specs.declared.shape.Shape.TheVariants.{Sat, Property, Justice, States, Inputs, End, Assignment}
use Rattle.btor_witness.specs.declared.witness.Stated.{Stated}
use Rattle.btor_witness.specs.declared.witness.Frame.{Frame}
use Rattle.btor_witness.specs.declared.witness.Witness.{Witness}
use Rattle.text_core.specs.declared.end.End.{End as WitnessEnd}
use Rattle.btor_witness.specs.Bytes.{all_binary, bits_after, word_of}
use Rattle.btor_witness.specs.Sizes.{Sizes, is_within, most_frames, most_words}
use Rattle.btor_witness.specs.Shapes.{Spells}
use Rattle.btor_witness.specs.Parts.{is_stated, with_word, with_width, stating}
use Rattle.btor_witness.specs.Reading.{Reading, begin, Next, nothing, moves, done, bad, last_frame, frames_at, frames_of, new_frame, step, with_stated, step_in}
use Rattle.btor_witness.specs.Texts.{IsNext, passed, spelled, shapeless, Reads, blank, line, last, ReadsText}
use Rattle.btor_witness.specs.Printing.{IsOf, IsStatedOnce, IsPart, IsWitness}
use Rattle.btor_witness.specs.Fitting.{BadFits, FrameFits, FitsAt}
use Rattle.btor_witness.specs.laws.Binary.{binary_tested, binary_word, bits_small}

all_push : {X : Type 0} (P : X → Type 0) (xs : List X) (x : X) → AllByRecursion P xs → P x → AllByRecursion P (xs ++ x ∷ [])
all_push P [] x h p = (p, tt)
all_push P (y ∷ xs) x h p = (h.0, all_push P xs x h.1 p)

-- the word of a shape is a word
word_fits : (b : ℕ) (bs : List ℕ) → all_binary (b ∷ bs) ≡ true → IfSome (word_of (b ∷ bs)) IsWord
word_fits b bs h =
    let n = length (b ∷ bs) in
    let none : 0 + n ≡ n = omega arith in
    let fits : bits_after 0 (b ∷ bs) < 2 ^ n = subst (λ k. bits_after 0 (b ∷ bs) < 2 ^ k) none (bits_small (b ∷ bs) 0 0 h (omega arith)) in
    cond_both (leb (length (b ∷ bs)) WIDEST) (Some (record { width = length (b ∷ bs); bits = bits_after 0 (b ∷ bs) })) None (λ o. IfSome o IsWord)
    (λ t. (omega arith, leb-true (length (b ∷ bs)) WIDEST t, fits)) (λ _. tt)

abbrev ShapeFits : Shape → Type 0
ShapeFits (Assignment i word) = IfSome word IsWord
ShapeFits shape = Unit {0}

shape_fits : (shape : Shape) (ps : Parts) → Spells shape ps → ShapeFits shape
shape_fits Sat ps h = tt
shape_fits (Property n) ps h = tt
shape_fits (Justice n) ps h = tt
shape_fits (States n) ps h = tt
shape_fits (Inputs n) ps h = tt
shape_fits End ps h = tt
shape_fits (Assignment i word) ps h = subst (λ o. IfSome o IsWord) (sym h.6) (read_fits h.1 h.5) where
  read_fits : (digits : List ℕ) → is_some (digits_value 2 digits) ≡ true → IfSome (read_word (length digits) 2 digits) IsWord
  read_fits [] t = absurd (let f : false ≡ true = t in cc)
  read_fits (b ∷ bs) t =
      let binary = sym (binary_tested b bs) ∙ t in
      subst (λ o. IfSome o IsWord) (sym (binary_word b bs binary)) (word_fits b bs binary)

-- one statement more
fresh_push : (xs : List Stated) (s : Stated) (i : ℕ) → is_stated xs i ≡ false → i ≢ s.index → is_stated (xs ++ s ∷ []) i ≡ false
fresh_push [] s i h ne = let e : eqb s.index i ≡ false = ne_eqb s.index i (λ e. ne (sym e)) in rw e refl
fresh_push (x ∷ xs) s i h ne =
    let p = or_parts (eqb x.index i) (is_stated xs i) h in
    let e : eqb x.index i ≡ false = p.0 in
    rw e (fresh_push xs s i p.1 ne)

once_push : (xs : List Stated) (s : Stated) → IsStatedOnce xs → is_stated xs s.index ≡ false → IsStatedOnce (xs ++ s ∷ [])
once_push [] s h fresh = (refl, tt)
once_push (x ∷ xs) s h fresh =
    let p = or_parts (eqb x.index s.index) (is_stated xs s.index) fresh in
    (fresh_push xs s x.index h.0 (eqb-false x.index s.index p.0), once_push xs s h.1 p.1)

word_stated : (widths : List ℕ) (stated : List Stated) (i width : ℕ) (word : Option BitVector) → slice_get widths i ≡ Some width → IsPart widths stated → is_stated stated i ≡ false → IfSome word IsWord
    → IfOk (with_word stated i width word) (IsPart widths)
word_stated widths stated i width None there part fresh fits = tt
word_stated widths stated i width (Some x) there part fresh fits =
    let s : Stated = record { index = i; value = x } in
    cond_both (eqb x.width width) (Ok (stated ++ s ∷ [])) _ (λ (r : Result (List Stated) Kind). IfOk r (IsPart widths))
    (λ t. (all_push (IsOf widths) stated s part.0 (there ∙ ap Some (sym (eqb-true x.width width t)), fits), once_push stated s part.1 fresh)) (λ _. tt)

width_stated : (widths : List ℕ) (stated : List Stated) (i : ℕ) (o : Option ℕ) (word : Option BitVector) → slice_get widths i ≡ o → IsPart widths stated → IfSome word IsWord → IfOk (with_width stated i o word) (IsPart widths)
width_stated widths stated i None word there part fits = tt
width_stated widths stated i (Some width) word there part fits =
    cond_both (is_stated stated i) _ (with_word stated i width word) (λ (r : Result (List Stated) Kind). IfOk r (IsPart widths)) (λ _. tt) (λ f. word_stated widths stated i width word there part f fits)

stating_fits : (widths : List ℕ) (stated : List Stated) (i : ℕ) (word : Option BitVector) → IsPart widths stated → IfSome word IsWord → IfOk (stating widths stated i word) (IsPart widths)
stating_fits widths stated i word part fits = width_stated widths stated i (slice_get widths i) word refl part fits

-- a witness for the lines that keeps the limits
abbrev pub IsShort : Sizes → Witness → Type 0
IsShort sizes w = IsWitness sizes w × (is_within sizes (length w.frames) ≡ true)

abbrev pub NextFits : Sizes → Next → Type 0
NextFits sizes nothing = Unit {0}
NextFits sizes (moves r) = FitsAt sizes r.phase r
NextFits sizes (done w) = IsShort sizes w
NextFits sizes (bad k) = Unit {0}

sat_fits : (sizes : Sizes) (p : Phase) (r : Reading) → FitsAt sizes p r → NextFits sizes (step_in sizes Sat p r)
sat_fits sizes phase.Start r h = record { bad_line = tt; frames = h.frames; states = h.states; inputs = h.inputs; within = h.within }
sat_fits sizes phase.Property r h = tt
sat_fits sizes phase.Heading r h = tt
sat_fits sizes phase.States r h = tt
sat_fits sizes phase.Inputs r h = tt

property_fits : (sizes : Sizes) (n : ℕ) (p : Phase) (r : Reading) → FitsAt sizes p r → NextFits sizes (step_in sizes (Property n) p r)
property_fits sizes n phase.Start r h = tt
property_fits sizes n phase.Property r h =
    cond_both (ltb n sizes.bads) (moves (record r { phase = phase.Heading; bad = n })) _ (NextFits sizes)
    (λ t. record { bad_line = ltb-true n sizes.bads t; frames = h.frames; states = h.states; inputs = h.inputs; within = h.within }) (λ _. tt)
property_fits sizes n phase.Heading r h = tt
property_fits sizes n phase.States r h = tt
property_fits sizes n phase.Inputs r h = tt

justice_fits : (sizes : Sizes) (n : ℕ) (p : Phase) (r : Reading) → NextFits sizes (step_in sizes (Justice n) p r)
justice_fits sizes n phase.Start r = tt
justice_fits sizes n phase.Property r = tt
justice_fits sizes n phase.Heading r = tt
justice_fits sizes n phase.States r = tt
justice_fits sizes n phase.Inputs r = tt

frames_fit : (sizes : Sizes) (p : Phase) (r : Reading) → FitsAt sizes p r → AllByRecursion (FrameFits sizes) (frames_at p r)
frames_fit sizes phase.Start r h = h.frames
frames_fit sizes phase.Property r h = h.frames
frames_fit sizes phase.Heading r h = h.frames
frames_fit sizes phase.States r h = all_push (FrameFits sizes) r.frames (last_frame r) h.frames (h.states, h.inputs)
frames_fit sizes phase.Inputs r h = all_push (FrameFits sizes) r.frames (last_frame r) h.frames (h.states, h.inputs)

-- a part that a frame may begin with
pub record Opens (sizes : Sizes) (part : Phase) : Type 0 where
  pub long : (r : Reading) → length (frames_at part r) ≡ length r.frames + 1
  pub bads : (n : ℕ) → n < sizes.bads → BadFits sizes n part

states_open : (sizes : Sizes) → Opens sizes phase.States
states_open sizes = record { long = λ r. length_push r.frames (last_frame r); bads = λ n h. h }

inputs_open : (sizes : Sizes) → Opens sizes phase.Inputs
inputs_open sizes = record { long = λ r. length_push r.frames (last_frame r); bads = λ n h. h }

new_frame_fits : (sizes : Sizes) (part : Phase) (n : ℕ) (r : Reading) → Opens sizes part → r.bad < sizes.bads → FitsAt sizes r.phase r → NextFits sizes (new_frame sizes part n r)
new_frame_fits sizes part n r opens lt h =
    let next : Reading = record { phase = part; bad = r.bad; frames = frames_of r; states = []; inputs = [] } in
    cond_both (eqb n (length (frames_of r))) (cond (is_within sizes (n + 1)) (moves next) _) _ (NextFits sizes)
    (λ same. cond_both (is_within sizes (n + 1)) (moves next) _ (NextFits sizes)
    (λ short.
    let e : length (frames_at part next) ≡ n + 1 = opens.long next ∙ ap (λ k. k + 1) (sym (eqb-true n (length (frames_of r)) same)) in
    record { bad_line = opens.bads r.bad lt; frames = frames_fit sizes r.phase r h; states = (tt, tt); inputs = (tt, tt); within = ap (is_within sizes) e ∙ short })
    (λ _. tt))
    (λ _. tt)

states_fits : (sizes : Sizes) (n : ℕ) (r : Reading) → FitsAt sizes r.phase r → NextFits sizes (step_in sizes (States n) r.phase r)
states_fits sizes n r h = by_phase r.phase h.bad_line where
  by_phase : (p : Phase) → BadFits sizes r.bad p → NextFits sizes (step_in sizes (States n) p r)
  by_phase phase.Start b = tt
  by_phase phase.Property b = tt
  by_phase phase.Heading b = new_frame_fits sizes phase.States n r (states_open sizes) b h
  by_phase phase.States b = new_frame_fits sizes phase.States n r (states_open sizes) b h
  by_phase phase.Inputs b = new_frame_fits sizes phase.States n r (states_open sizes) b h

inputs_fits : (sizes : Sizes) (n : ℕ) (r : Reading) → FitsAt sizes r.phase r → NextFits sizes (step_in sizes (Inputs n) r.phase r)
inputs_fits sizes n r h = by_phase r.phase h where
  by_phase : (p : Phase) → FitsAt sizes p r → NextFits sizes (step_in sizes (Inputs n) p r)
  by_phase phase.Start b = tt
  by_phase phase.Property b = tt
  by_phase phase.Heading b = new_frame_fits sizes phase.Inputs n r (inputs_open sizes) b.bad_line h
  by_phase phase.States b =
      cond_both (eqb n (length r.frames)) (moves (record r { phase = phase.Inputs })) _ (NextFits sizes)
      (λ _. record {
        bad_line = b.bad_line;
        frames = b.frames;
        states = b.states;
        inputs = b.inputs;
        within = ap (is_within sizes) (length_push r.frames (last_frame r) ∙ sym (length_push r.frames (last_frame r))) ∙ b.within;
      })
      (λ _. new_frame_fits sizes phase.Inputs n r (inputs_open sizes) b.bad_line h)
  by_phase phase.Inputs b = new_frame_fits sizes phase.Inputs n r (inputs_open sizes) b.bad_line h

with_states_fits : (sizes : Sizes) (r : Reading) (x : Result (List Stated) Kind) → r.phase ≡ phase.States → FitsAt sizes phase.States r → IfOk x (IsPart sizes.states) → NextFits sizes (with_stated (λ states. record r { states = states }) x)
with_states_fits sizes r (Err k) e h part = tt
with_states_fits sizes r (Ok states) e h part =
    let next : Reading = record r { states = states } in
    subst (λ p. FitsAt sizes p next) (sym e)
    (record { bad_line = h.bad_line; frames = h.frames; states = part; inputs = h.inputs; within = ap (is_within sizes) (length_push r.frames (last_frame next) ∙ sym (length_push r.frames (last_frame r))) ∙ h.within })

with_inputs_fits : (sizes : Sizes) (r : Reading) (x : Result (List Stated) Kind) → r.phase ≡ phase.Inputs → FitsAt sizes phase.Inputs r → IfOk x (IsPart sizes.inputs) → NextFits sizes (with_stated (λ inputs. record r { inputs = inputs }) x)
with_inputs_fits sizes r (Err k) e h part = tt
with_inputs_fits sizes r (Ok inputs) e h part =
    let next : Reading = record r { inputs = inputs } in
    subst (λ p. FitsAt sizes p next) (sym e)
    (record { bad_line = h.bad_line; frames = h.frames; states = h.states; inputs = part; within = ap (is_within sizes) (length_push r.frames (last_frame next) ∙ sym (length_push r.frames (last_frame r))) ∙ h.within })

assignment_fits : (sizes : Sizes) (i : ℕ) (word : Option BitVector) (r : Reading) → IfSome word IsWord → FitsAt sizes r.phase r → NextFits sizes (step_in sizes (Assignment i word) r.phase r)
assignment_fits sizes i word r fits h = by_phase r.phase refl h where
  by_phase : (p : Phase) → r.phase ≡ p → FitsAt sizes p r → NextFits sizes (step_in sizes (Assignment i word) p r)
  by_phase phase.Start e b = tt
  by_phase phase.Property e b = tt
  by_phase phase.Heading e b = tt
  by_phase phase.States e b = with_states_fits sizes r (stating sizes.states r.states i word) e b (stating_fits sizes.states r.states i word b.states fits)
  by_phase phase.Inputs e b = with_inputs_fits sizes r (stating sizes.inputs r.inputs i word) e b (stating_fits sizes.inputs r.inputs i word b.inputs fits)

not_none : (fs : List Frame) (f : Frame) → fs ++ f ∷ [] ≢ []
not_none [] f e = cc
not_none (g ∷ fs) f e = cc

states_of : (sizes : Sizes) (fs : List Frame) → AllByRecursion (FrameFits sizes) fs → AllByRecursion (λ (f : Frame). IsPart sizes.states f.states) fs
states_of sizes [] h = tt
states_of sizes (f ∷ fs) h = (h.0.0, states_of sizes fs h.1)

inputs_of : (sizes : Sizes) (fs : List Frame) → AllByRecursion (FrameFits sizes) fs → AllByRecursion (λ (f : Frame). IsPart sizes.inputs f.inputs) fs
inputs_of sizes [] h = tt
inputs_of sizes (f ∷ fs) h = (h.0.1, inputs_of sizes fs h.1)

ended_fits : (sizes : Sizes) (r : Reading) (fs : List Frame) → r.bad < sizes.bads → fs ≢ [] → AllByRecursion (FrameFits sizes) fs → is_within sizes (length fs) ≡ true → IsShort sizes (record { bad = r.bad; frames = fs })
ended_fits sizes r fs lt some all within = (record { bad = lt; some = some; states = states_of sizes fs all; inputs = inputs_of sizes fs all }, within)

end_fits : (sizes : Sizes) (r : Reading) → FitsAt sizes r.phase r → NextFits sizes (step_in sizes End r.phase r)
end_fits sizes r h = by_phase r.phase refl h where
  by_phase : (p : Phase) → r.phase ≡ p → FitsAt sizes p r → NextFits sizes (step_in sizes End p r)
  by_phase phase.Start e b = tt
  by_phase phase.Property e b = tt
  by_phase phase.Heading e b = tt
  by_phase phase.States e b =
      let frames = ap (λ p. frames_at p r) e in
      let fs = r.frames ++ last_frame r ∷ [] in
      subst (λ (x : List Frame). IsShort sizes (record { bad = r.bad; frames = x })) (sym frames) (ended_fits sizes r fs b.bad_line (not_none r.frames (last_frame r)) (frames_fit sizes phase.States r b) b.within)
  by_phase phase.Inputs e b =
      let frames = ap (λ p. frames_at p r) e in
      let fs = r.frames ++ last_frame r ∷ [] in
      subst (λ (x : List Frame). IsShort sizes (record { bad = r.bad; frames = x })) (sym frames) (ended_fits sizes r fs b.bad_line (not_none r.frames (last_frame r)) (frames_fit sizes phase.Inputs r b) b.within)

step_fits : (sizes : Sizes) (r : Reading) (shape : Shape) → ShapeFits shape → FitsAt sizes r.phase r → NextFits sizes (step sizes r shape)
step_fits sizes r Sat s h = sat_fits sizes r.phase r h
step_fits sizes r (Property n) s h = property_fits sizes n r.phase r h
step_fits sizes r (Justice n) s h = justice_fits sizes n r.phase r
step_fits sizes r (States n) s h = states_fits sizes n r h
step_fits sizes r (Inputs n) s h = inputs_fits sizes n r h
step_fits sizes r End s h = end_fits sizes r h
step_fits sizes r (Assignment i word) s h = assignment_fits sizes i word r s h

pub next_fits : {sizes : Sizes} {r : Reading} {ps : Parts} {x : Next} → IsNext sizes r ps x → FitsAt sizes r.phase r → NextFits sizes x
next_fits (passed e) h = tt
next_fits {sizes = sizes} {r = r} {ps = ps} (spelled shape e spells) h = step_fits sizes r shape (shape_fits shape ps spells) h
next_fits (shapeless e none) h = tt

pub reads_fit : {sizes : Sizes} {r : Reading} {raws : List (List ℕ)} {w : Witness} → Reads sizes r raws w → FitsAt sizes r.phase r → IsShort sizes w
reads_fit (blank a k) h = reads_fit k h
reads_fit (line next a k) h = reads_fit k (next_fits a h)
reads_fit (last a) h = next_fits a h

pub begin_fits : (sizes : Sizes) → FitsAt sizes phase.Start begin
begin_fits sizes = record {
  bad_line = tt;
  frames = tt;
  states = (tt, tt);
  inputs = (tt, tt);
  within = and_from (leb 0 most_frames) (leb (0 * (length sizes.states + length sizes.inputs)) most_words) (le-leb 0 most_frames (omega arith)) (le-leb (0 * (length sizes.states + length sizes.inputs)) most_words (omega arith));
}

pub text_fits : (sizes : Sizes) (text : List ℕ) (w : Witness) → ReadsText sizes text w → IsShort sizes w
text_fits sizes text w h = reads_fit h (begin_fits sizes)

pub fits_ok : (sizes : Sizes) (text : List ℕ) (r : Result Witness WitnessEnd) → IfOk r (ReadsText sizes text) → IfOk r (IsWitness sizes)
fits_ok sizes text (Ok w) h = (text_fits sizes text w h).0
fits_ok sizes text (Err e) h = tt

pub within_ok : (sizes : Sizes) (text : List ℕ) (r : Result Witness WitnessEnd) → IfOk r (ReadsText sizes text) → IfOk r (λ w. is_within sizes (length w.frames) ≡ true)
within_ok sizes text (Ok w) h = (text_fits sizes text w h).1
within_ok sizes text (Err e) h = tt
