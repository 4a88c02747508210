-- The frames of a witness, judged one after the other.
use Rattle.std.proofs.Common.{◌≡◌, ℕ, zero, suc, ◌+◌, ◌<◌, Bool, true, false, eqb, List, [], ◌∷◌, length, take, drop, map, get_or, Some, Result, Ok, Err, refl, sym, ap, ◌∙◌, subst, arith, inl, inr, add-one}
use Rattle.std.specs.Prelude.{IfOk}
use Rattle.std.specs.List.{AllByRecursion}
use Rattle.std.proofs.Math.Seq.{drop-cons}
use Rattle.std.proofs.lemmas.Bool.{cases_Bool, eqb-true, eqb-false, eq-eqb, ne_eqb}
use Rattle.std.proofs.lemmas.Option.{same_Some}
use Rattle.text_core.specs.declared.errors.NoMemory.{NoMemory}
use Rattle.text_core.specs.declared.verdict.Clause.{Clause}
use Rattle.text_core.specs.declared.verdict.Verdict.{Verdict}
use Rattle.text_core.specs.declared.verdict.Verdict.TheVariants.{No}
use Rattle.word_core.specs.Words.{BitVector}
use Rattle.btor_tree.specs.declared.lines.Line.{Line}
use Rattle.btor_tree.specs.Fits.{IsWellFormed, count_of, is_input, is_state, state_value, width_at}
use Rattle.btor_tree.proofs.Paths.{state_is}
use Rattle.btor_tree.proofs.Widths.{option_cases}
use Rattle.btor_frames.specs.Steps.{value_kind, SuppliedFit}
use Rattle.btor_frames.specs.Judged.{Statement, IsStatedFrame, StatesAgree, StatementFits, SuppliesStated, stated_or}
use Rattle.btor_frames.proofs.Stating.{hands_fit}
use Rattle.btor_witness.specs.declared.witness.Frame.{Frame}
use Rattle.btor_witness.specs.declared.witness.Witness.{Witness}
use Rattle.btor_witness.specs.declared.room.Room.{Room}
use Rattle.btor_witness.specs.Sizes.{widths_of}
use Rattle.btor_witness.specs.Printing.{IsOf, IsPart, value_of}
use Rattle.btor_witness.specs.Judging.{statement_of, statements_of, is_last, Passes, FailsFirst, IsJudgedAfter, judged_btor}
use Rattle.btor_witness.specs.Room.{HoldsStated, IsWordThere, RoomFits, places_of}
use Rattle.btor_witness.proofs.Statements.{value_all, value_once, all_from}
use Rattle.btor_witness.proofs.Places.{place_there, state_place, width_by_number}
use Rattle.btor_witness.proofs.Tables.{length_widths}

-- the words that are supplied are the stated ones
pub hands : (lines : List Line) (f : Frame) (inputs free : List BitVector) → HoldsStated (widths_of is_input lines) f.inputs inputs → HoldsStated (widths_of is_state lines) f.states free → SuppliesStated lines (statement_of f) inputs free
hands lines f inputs free h k =
    record {
      inputs_stated = λ i l g e. h.by_index _ _ (width_by_number lines is_input i l g (ap is_input e));
      states_stated = λ i l g e. k.by_index _ _ (width_by_number lines is_state i l g (ap is_state e));
    }

pub statement_fits : (lines : List Line) (f : Frame) → IsPart (widths_of is_input lines) f.inputs → IsPart (widths_of is_state lines) f.states → StatementFits lines (statement_of f)
statement_fits lines f a b =
    record {
      inputs = λ i l x g e v.
          let of = value_all (IsOf (widths_of is_input lines)) f.inputs _ x a.0 v in
          (of.1, same_Some _ _ (sym of.0 ∙ width_by_number lines is_input i l g (ap is_input e)));
      states = λ i l x g e v.
          let of = value_all (IsOf (widths_of is_state lines)) f.states _ x b.0 v in
          (of.1, same_Some _ _ (sym of.0 ∙ width_by_number lines is_state i l g (ap is_state e)));
    }

pub handed_fit : (lines : List Line) (f : Frame) (inputs free : List BitVector) → IsWellFormed lines → IsPart (widths_of is_input lines) f.inputs → IsPart (widths_of is_state lines) f.states → HoldsStated (widths_of is_input lines) f.inputs inputs → HoldsStated (widths_of is_state lines) f.states free → SuppliedFit lines inputs free
handed_fit lines f inputs free w a b h k =
    hands_fit lines (statement_of f) inputs free w (statement_fits lines f a b) (hands lines f inputs free h k) (h.sized ∙ length_widths lines is_input lines) (k.sized ∙ length_widths lines is_state lines)

-- the stated words are the frame's exactly where those of determined states are
pub all_agree : (lines : List Line) (begun : Bool) (f : Frame) (row : List BitVector) → AllByRecursion (IsWordThere (places_of is_state lines) row) f.states → StatesAgree lines begun (statement_of f) row
all_agree lines begun f row all i l a x g e v q =
    let sum : 0 + i ≡ i = omega arith in
    value_all (IsWordThere (places_of is_state lines) row) f.states (count_of is_state (take i lines)) x all q i (place_there 0 is_state lines i l g (ap is_state e) ∙ ap (λ n. Some n) sum)

pub agree_all : (lines : List Line) (begun : Bool) (before : List BitVector) (f : Frame) (row : List BitVector) → IsPart (widths_of is_state lines) f.states → IsStatedFrame lines begun before (statement_of f) row → StatesAgree lines begun (statement_of f) row → AllByRecursion (IsWordThere (places_of is_state lines) row) f.states
agree_all lines begun before f row part p agree =
    all_from (IsWordThere (places_of is_state lines) row) f.states (λ n s at i place.
    let q = state_place lines s.index i place in
    let stated : value_of f.states (count_of is_state (take i lines)) ≡ Some s.value = ap (value_of f.states) q.3 ∙ value_once f.states n s part.1 at in
    let e = state_is q.0.op q.2 in
    elim (option_cases (state_value (value_kind begun) lines i)) [
      | inl none ↦ p.states i q.0 q.1 e none ∙ ap (λ o. stated_or o (width_at lines i)) stated
      | inr v ↦ agree i q.0 v.0 s.value q.1 e v.1 stated
    ])

-- the frames before step i pass, and what the rest is judged the whole is
pub record SoFar (lines : List Line) (w : Witness) (i : ℕ) (room : Room) : Type 0 where
  pub fits : RoomFits lines room
  pub goes : (v : Verdict) → IsJudgedAfter lines w.bad i room.frames.begun room.frames.row (map statement_of (drop i w.frames)) v → judged_btor lines w v

-- in frame 0 no frame before is read
pub any_before : (lines : List Line) (j step : ℕ) (before other : List BitVector) (stated : List Statement) (v : Verdict) → IsJudgedAfter lines j step false before stated v → IsJudgedAfter lines j step false other stated v
any_before lines j step before other [] v h = h
any_before lines j step before other (s ∷ more) v h =
    (h.0, record { frame = h.1.frame; values = h.1.values; inputs = h.1.inputs; states = h.1.states }, h.2)

pub so_far : (lines : List Line) (w : Witness) (room : Room) → RoomFits lines room → room.frames.begun ≡ false → SoFar lines w 0 room
so_far lines w room fits none =
    record {
      fits = fits;
      goes = λ v h. any_before lines w.bad 0 room.frames.row [] (statements_of w) v (subst (λ b. IsJudgedAfter lines w.bad 0 b room.frames.row (statements_of w) v) none h);
    }

pub last_is : (fs : List Frame) (i : ℕ) → i < length fs → is_last (map statement_of (drop (suc i) fs)) ≡ eqb (i + 1) (length fs)
last_is [] i h = absurd (omega (arith, h))
last_is (f ∷ []) zero h = refl
last_is (f ∷ g ∷ fs) zero h = sym (ne_eqb (zero + 1) (length (f ∷ g ∷ fs)) (λ e. absurd (omega (arith, e))))
last_is (f ∷ fs) (suc i) h =
    elim (cases_Bool (eqb (i + 1) (length fs))) [
      | inl t ↦ last_is fs i (omega (arith, h)) ∙ t ∙ sym (eq-eqb (suc i + 1) (suc (length fs)) (omega (arith, eqb-true (i + 1) (length fs) t)))
      | inr n ↦ last_is fs i (omega (arith, h)) ∙ n ∙ sym (ne_eqb (suc i + 1) (suc (length fs)) (λ e. eqb-false (i + 1) (length fs) n (omega (arith, e))))
    ]

cut : (fs : List Frame) (i : ℕ) (f : Frame) → i < length fs → get_or fs i f ≡ f → map statement_of (drop i fs) ≡ statement_of f ∷ map statement_of (drop (suc i) fs)
cut fs i f h e = ap (map statement_of) (drop-cons fs i f h ∙ ap (λ x. x ∷ drop (suc i) fs) e)

-- a frame passes
pub more_far : (lines : List Line) (w : Witness) (i : ℕ) (f : Frame) (room new : Room) (last : Bool) → i < length w.frames → get_or w.frames i f ≡ f → last ≡ eqb (i + 1) (length w.frames) → SoFar lines w i room → RoomFits lines new → new.frames.begun ≡ true → IsStatedFrame lines room.frames.begun room.frames.row (statement_of f) new.frames.row → Passes lines w.bad room.frames.begun last (statement_of f) new.frames.row → SoFar lines w (i + 1) new
more_far lines w i f room new last h e is so fits begun p passes =
    let more = map statement_of (drop (suc i) w.frames) in
    let pass : Passes lines w.bad room.frames.begun (is_last more) (statement_of f) new.frames.row = subst (λ b. Passes lines w.bad room.frames.begun b (statement_of f) new.frames.row) (is ∙ sym (last_is w.frames i h)) passes in
    record {
      fits = fits;
      goes = λ v rest.
          let at : IsJudgedAfter lines w.bad (suc i) new.frames.begun new.frames.row more v = subst (λ n. IsJudgedAfter lines w.bad n new.frames.begun new.frames.row (map statement_of (drop n w.frames)) v) (add-one i) rest in
          let on : IsJudgedAfter lines w.bad (suc i) true new.frames.row more v = subst (λ b. IsJudgedAfter lines w.bad (suc i) b new.frames.row more v) begun at in
          so.goes v (subst (λ ss. IsJudgedAfter lines w.bad i room.frames.begun room.frames.row ss v) (sym (cut w.frames i f h e)) (new.frames.row, p, inr (pass, on)));
    }

-- a frame fails
pub fails_here : (lines : List Line) (w : Witness) (i : ℕ) (f : Frame) (room : Room) (row : List BitVector) (last : Bool) (clause : Clause) → i < length w.frames → get_or w.frames i f ≡ f → last ≡ eqb (i + 1) (length w.frames) → SoFar lines w i room → IsStatedFrame lines room.frames.begun room.frames.row (statement_of f) row → FailsFirst lines w.bad room.frames.begun last (statement_of f) row clause → judged_btor lines w (No i clause)
fails_here lines w i f room row last clause h e is so p fails =
    let more = map statement_of (drop (suc i) w.frames) in
    let fail : FailsFirst lines w.bad room.frames.begun (is_last more) (statement_of f) row clause = subst (λ b. FailsFirst lines w.bad room.frames.begun b (statement_of f) row clause) (is ∙ sym (last_is w.frames i h)) fails in
    so.goes (No i clause) (subst (λ ss. IsJudgedAfter lines w.bad i room.frames.begun room.frames.row ss (No i clause)) (sym (cut w.frames i f h e)) (row, p, inl (clause, fail, refl)))

pub not_both : (b : Bool) → b ≡ true → b ≡ false → ⊥
not_both b t f = let e : true ≡ false = sym t ∙ f in absurd (cc)

-- the verdict that is answered
pub if_no : (r : Result Verdict NoMemory) (lines : List Line) (w : Witness) (i : ℕ) (clause : Clause) → IfOk r (λ v. v ≡ No i clause) → judged_btor lines w (No i clause) → IfOk r (λ v. judged_btor lines w v)
if_no (Ok v) lines w i clause e h = subst (λ u. judged_btor lines w u) (sym e) h
if_no (Err n) lines w i clause e h = tt
