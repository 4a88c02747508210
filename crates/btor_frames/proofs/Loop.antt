-- The loop over the lines.
use Rattle.std.proofs.Common.{◌≡◌, ℕ, suc, ◌+◌, ◌<◌, ◌≤◌, Bool, true, false, cond, List, [], ◌∷◌, ◌++◌, length, take, Some, refl, sym, ap, ◌∙◌, subst, arith}
use Rattle.std.specs.Prelude.{slice_get, IfSome, slice_set, IsTrue}
use Rattle.std.proofs.lemmas.List.{take_more_set, length-set}
use Rattle.word_core.specs.Words.{BitVector}
use Rattle.btor_tree.specs.declared.args.Arg.{Arg}
use Rattle.btor_tree.specs.declared.lines.Line.{Line}
use Rattle.btor_tree.specs.declared.lines.LineOp.{LineOp}
use Rattle.btor_tree.specs.declared.lines.LineOp.TheVariants.{Input, State, Unary, Binary, Ite, Slice, Uext, Sext}
use Rattle.btor_tree.specs.Fits.{IsWellFormed, count_of, is_input, is_state, state_value, is_init, is_next}
use Rattle.btor_tree.specs.Frame.{nothing, IsFrame, FreeFits, GivenFits, operand, init_operand}
use Rattle.btor_tree.proofs.Grows.{take_push, count_push}
use Rattle.btor_tree.proofs.Words.{computed}
use Rattle.btor_tree.proofs.Rows.{row_upto, word_here, Given, GivesWords, frame_upto}
use Rattle.btor_tree.proofs.Paths.{given_of, first_gives, next_gives, whole_frame, reads, frees_read, first_inits, next_nexts}
use Rattle.btor_frames.specs.Steps.{is_given, value_kind, value_word, supplied_at, supplied_for, supplied_line, SuppliedFit, IsStep}
use Rattle.btor_frames.proofs.Lines.{if_some}
use Rattle.btor_frames.proofs.Handing.{if_some_at}

pub count_step : (kind : LineOp → Bool) (lines : List Line) (i : ℕ) (l : Line) → slice_get lines i ≡ Some l → count_of kind (take (i + 1) lines) ≡ count_of kind (take i lines) + cond (kind l.op) 1 0
count_step kind lines i l h =
    let e : i + 1 ≡ suc i = omega arith in
    ap (λ m. count_of kind (take m lines)) e ∙ ap (count_of kind) (take_push lines i l h) ∙ count_push kind (take i lines) l

pub free_fits : (lines : List Line) (inputs free : List BitVector) → SuppliedFit lines inputs free → FreeFits lines (supplied_at lines inputs free)
free_fits lines inputs free h =
    record { fits = λ i l g. subst (λ o. GivenFits (take i lines) l.sort l.op (supplied_line o (take i lines) inputs free)) (sym g) (h.fits i l g) }

-- what is given to inputs and states
abbrev pub giving : Bool → List Line → List BitVector → List BitVector → List BitVector → Given
giving begun lines last inputs free =
    given_of (state_value (value_kind begun) lines) (value_word begun lines last) (supplied_at lines inputs free)

pub gives : (begun : Bool) (lines : List Line) (last inputs free : List BitVector) → IsWellFormed lines → (IsTrue begun → IsFrame lines last) → SuppliedFit lines inputs free → GivesWords lines (giving begun lines last inputs free)
gives true lines last inputs free w f h = next_gives lines w last (supplied_at lines inputs free) (f refl) (free_fits lines inputs free h)
gives false lines last inputs free w f h = first_gives lines w (supplied_at lines inputs free) (free_fits lines inputs free h)

-- frame 0 has none before it
pub no_last : (lines : List Line) → IsTrue false → IsFrame lines []
no_last lines h = absurd (cc)

-- the words so far are a frame of the lines so far
pub frame_so_far : (begun : Bool) (lines : List Line) (last inputs free spare : List BitVector) (i : ℕ) → IsWellFormed lines → (IsTrue begun → IsFrame lines last) → SuppliedFit lines inputs free → i ≤ length lines → take i spare ≡ row_upto lines (giving begun lines last inputs free) i → IsFrame (take i lines) (take i spare)
frame_so_far begun lines last inputs free spare i w f h le e =
    subst (IsFrame (take i lines)) (sym e) (frame_upto lines (giving begun lines last inputs free) w (gives begun lines last inputs free w f h) i le)

here : (lines : List Line) (row : List BitVector) (i : ℕ) (G : Given) (l : Line) → slice_get lines i ≡ Some l → computed (take i lines) row l.sort l.op l.args (G l.op i row) ≡ word_here (take i lines) row (slice_get lines i) i G
here lines row i G l g = sym (ap (λ o. word_here (take i lines) row o i G) g)

-- an input or a state takes the given word
computed_given : (before : List Line) (row : List BitVector) (s : ℕ) (op : LineOp) (args : List Arg) (given : BitVector) → is_given op ≡ true → given ≡ computed before row s op args given
computed_given before row s Input args given h = refl
computed_given before row s State args given h = refl
computed_given before row s op args given h = absurd (cc)

-- and no other line does
computed_other : (before : List Line) (row : List BitVector) (s : ℕ) (op : LineOp) (args : List Arg) (given other : BitVector) → is_given op ≡ false → computed before row s op args given ≡ computed before row s op args other
computed_other before row s Input args given other h = absurd (cc)
computed_other before row s State args given other h = absurd (cc)
computed_other before row s (Unary op) [] given other h = refl
computed_other before row s (Unary op) (a ∷ []) given other h = refl
computed_other before row s (Unary op) (a ∷ b ∷ more) given other h = refl
computed_other before row s (Binary op) [] given other h = refl
computed_other before row s (Binary op) (a ∷ []) given other h = refl
computed_other before row s (Binary op) (a ∷ b ∷ []) given other h = refl
computed_other before row s (Binary op) (a ∷ b ∷ c ∷ more) given other h = refl
computed_other before row s Ite [] given other h = refl
computed_other before row s Ite (a ∷ []) given other h = refl
computed_other before row s Ite (a ∷ b ∷ []) given other h = refl
computed_other before row s Ite (a ∷ b ∷ c ∷ []) given other h = refl
computed_other before row s Ite (a ∷ b ∷ c ∷ d ∷ more) given other h = refl
computed_other before row s (Slice high low) [] given other h = refl
computed_other before row s (Slice high low) (a ∷ []) given other h = refl
computed_other before row s (Slice high low) (a ∷ b ∷ more) given other h = refl
computed_other before row s (Uext n) [] given other h = refl
computed_other before row s (Uext n) (a ∷ []) given other h = refl
computed_other before row s (Uext n) (a ∷ b ∷ more) given other h = refl
computed_other before row s (Sext n) [] given other h = refl
computed_other before row s (Sext n) (a ∷ []) given other h = refl
computed_other before row s (Sext n) (a ∷ b ∷ more) given other h = refl
computed_other before row s op args given other h = refl

-- what takes no given word is neither an input nor a state
pub not_input : (op : LineOp) → is_given op ≡ false → is_input op ≡ false
not_input Input h = h
not_input op h = refl

pub not_state : (op : LineOp) → is_given op ≡ false → is_state op ≡ false
not_state State h = h
not_state op h = refl

-- the word of a line is put, where it is the given one
pub taken_here : (lines : List Line) (row new : List BitVector) (i : ℕ) (G : Given) (l : Line) (x : BitVector) → slice_get lines i ≡ Some l → is_given l.op ≡ true → IfSome (slice_get lines i) (λ k. x ≡ G k.op i (take i row)) → new ≡ slice_set row i x
    → IfSome (slice_get lines i) (λ k. new ≡ slice_set row i (computed (take i lines) (take i row) k.sort k.op k.args (G k.op i (take i row))))
taken_here lines row new i G l x g is h e =
    if_some (slice_get lines i) _ l g (e ∙ ap (slice_set row i) (if_some_at (slice_get lines i) (λ k. x ≡ G k.op i (take i row)) l g h ∙ computed_given (take i lines) (take i row) l.sort l.op l.args (G l.op i (take i row)) is))

-- and where it is computed
pub made_here : (lines : List Line) (row new : List BitVector) (i : ℕ) (G : Given) (l : Line) → slice_get lines i ≡ Some l → is_given l.op ≡ false → IfSome (slice_get lines i) (λ k. new ≡ slice_set row i (computed (take i lines) (take i row) k.sort k.op k.args nothing))
    → IfSome (slice_get lines i) (λ k. new ≡ slice_set row i (computed (take i lines) (take i row) k.sort k.op k.args (G k.op i (take i row))))
made_here lines row new i G l g is h =
    if_some (slice_get lines i) _ l g (if_some_at (slice_get lines i) (λ k. new ≡ slice_set row i (computed (take i lines) (take i row) k.sort k.op k.args nothing)) l g h ∙ ap (slice_set row i) (computed_other (take i lines) (take i row) l.sort l.op l.args nothing (G l.op i (take i row)) is))

-- one more word
pub one_more : (begun : Bool) (lines : List Line) (last inputs free spare new : List BitVector) (i : ℕ) (l : Line) → i < length spare → slice_get lines i ≡ Some l → take i spare ≡ row_upto lines (giving begun lines last inputs free) i
    → IfSome (slice_get lines i) (λ k. new ≡ slice_set spare i (computed (take i lines) (take i spare) k.sort k.op k.args (giving begun lines last inputs free k.op i (take i spare))))
    → (length new ≡ length spare) × (take (i + 1) new ≡ row_upto lines (giving begun lines last inputs free) (i + 1))
one_more begun lines last inputs free spare new i l h g filled put =
    let G = giving begun lines last inputs free in
    let row = row_upto lines G i in
    let word = computed (take i lines) (take i spare) l.sort l.op l.args (G l.op i (take i spare)) in
    let is : new ≡ slice_set spare i word =
    if_some_at (slice_get lines i) (λ k. new ≡ slice_set spare i (computed (take i lines) (take i spare) k.sort k.op k.args (G k.op i (take i spare)))) l g put in
    let done : word ≡ computed (take i lines) row l.sort l.op l.args (G l.op i row) =
    ap (λ r. computed (take i lines) r l.sort l.op l.args (G l.op i r)) filled in
    let e : suc i ≡ i + 1 = omega arith in (
      ap length is ∙ length-set spare i word,
      ap (take (i + 1)) is
          ∙ take_more_set spare i word h
          ∙ ap (λ r. r ++ word ∷ []) filled
          ∙ ap (λ x. row ++ x ∷ []) (done ∙ here lines row i G l g)
          ∙ ap (row_upto lines G) e,
    )

-- the row is the next frame
pub is_step : (begun : Bool) (lines : List Line) (last inputs free : List BitVector) → IsWellFormed lines → (IsTrue begun → IsFrame lines last) → SuppliedFit lines inputs free → IsStep lines begun last inputs free (row_upto lines (giving begun lines last inputs free) (length lines))
is_step true lines last inputs free w f h =
    let words = supplied_at lines inputs free in
    record {
      frame = whole_frame lines w (giving true lines last inputs free) (gives true lines last inputs free w f h);
      values = next_nexts lines w last words;
      inputs_read = λ i l g e. reads lines w (state_value is_next lines) (λ r. operand last) words i l g e ∙ ap (λ o. supplied_line o (take i lines) inputs free) g ∙ ap (λ op. supplied_for op (take i lines) inputs free) e;
      free_read = λ i l g e n. frees_read lines w (state_value is_next lines) (λ r. operand last) words i l g e n ∙ ap (λ o. supplied_line o (take i lines) inputs free) g ∙ ap (λ op. supplied_for op (take i lines) inputs free) e;
    }
is_step false lines last inputs free w f h =
    let words = supplied_at lines inputs free in
    record {
      frame = whole_frame lines w (giving false lines last inputs free) (gives false lines last inputs free w f h);
      values = first_inits lines w words (free_fits lines inputs free h);
      inputs_read = λ i l g e. reads lines w (state_value is_init lines) (init_operand lines) words i l g e ∙ ap (λ o. supplied_line o (take i lines) inputs free) g ∙ ap (λ op. supplied_for op (take i lines) inputs free) e;
      free_read = λ i l g e n. frees_read lines w (state_value is_init lines) (init_operand lines) words i l g e n ∙ ap (λ o. supplied_line o (take i lines) inputs free) g ∙ ap (λ op. supplied_for op (take i lines) inputs free) e;
    }
