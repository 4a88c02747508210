-- Frames that statements mean in two lists with the same words, and what holds of them.
use Rattle.std.proofs.Common.{◌≡◌, ◌↔◌, ℕ, zero, suc, ◌+◌, Bool, true, false, cond, List, [], ◌∷◌, ◌++◌, take, map, Option, Some, None, refl, sym, ap, subst, ◌∙◌, arith}
use Rattle.std.specs.Prelude.{slice_get, IsSomeAnd}
use Rattle.std.specs.List.{AllByRecursion, flat_map}
use Rattle.std.specs.Option.{option_map}
use Rattle.std.proofs.lemmas.List.{map-append}
use Rattle.std.proofs.lemmas.List.Folds.{flat_map-map}
use Rattle.std.proofs.lemmas.Option.{slice_get-map}
use Rattle.word_core.specs.Words.{BitVector}
use Rattle.btor_tree.specs.declared.args.Arg.{Arg}
use Rattle.btor_tree.specs.declared.lines.Line.{Line}
use Rattle.btor_tree.specs.declared.lines.LineOp.{LineOp}
use Rattle.btor_tree.specs.declared.lines.LineOp.TheVariants as op
use Rattle.btor_tree.specs.Fits.{IsWellFormed, count_of, is_bad, is_constraint, is_init, is_next, is_input, is_state, has_word, operands, state_value, width_at}
use Rattle.btor_tree.specs.Frame.{word_at, operand, true_word, init_operand, IsFrame, GivenFits, FreeFits, ConstraintsHold, IsBad}
use Rattle.btor_tree.specs.Sharing.{is_shared}
use Rattle.btor_tree.proofs.Paths.{width_is, given_of, first_row, next_row, first_gives, next_gives, first_inits, next_nexts, whole_frame, reads, frees_read}
use Rattle.btor_tree.proofs.Widths.{wide}
use Rattle.btor_frames.specs.Steps.{value_kind, ValuesHold}
use Rattle.btor_frames.specs.Judged.{Statement, IsStatedFrame, StatesAgree, stated_or}
use Rattle.btor_frames.proofs.Stating.{one_stated}
use Rattle.btor_witness.specs.Room.{places_in, places_of}
use Rattle.btor_simplify.specs.Kept.{AreSameLines}
use Rattle.btor_simplify.specs.Words.{HasSameWords}
use Rattle.btor_simplify.proofs.WitnessesPlaces.{IsKept, input_kept, state_kept, bad_kept, constraint_kept, line_from, places_moved, number_same}
use Rattle.btor_simplify.proofs.GivenValues.{AreLast, AreAlike, value_from, value_to, none_to, none_from, values_to}

-- the words of a line's arguments
abbrev line_words : List BitVector → Option Line → List BitVector
line_words row None = []
line_words row (Some l) = map (operand row) l.args

words_step : (row : List BitVector) (g : ℕ → List BitVector) (b : Bool) (args rest : List Arg) (n : ℕ) (ps : List ℕ) → (b ≡ true → map (operand row) args ≡ g n) → map (operand row) rest ≡ flat_map g ps → map (operand row) (cond b args [] ++ rest) ≡ flat_map g (cond b (n ∷ ps) ps)
words_step row g true args rest n ps h e =
    map-append (operand row) args rest ∙ ap (λ zs. zs ++ map (operand row) rest) (h refl) ∙ ap (λ zs. g n ++ zs) e
words_step row g false args rest n ps h e = e

-- the words of the operands of a kind, place by place
operand_words : (kind : LineOp → Bool) (ls : List Line) (n : ℕ) (g : ℕ → List BitVector) (row : List BitVector) → ((i : ℕ) (l : Line) → slice_get ls i ≡ Some l → kind l.op ≡ true → map (operand row) l.args ≡ g (n + i)) → map (operand row) (operands kind ls) ≡ flat_map g (places_in n kind ls)
operand_words kind [] n g row h = refl
operand_words kind (l ∷ ls) n g row h =
    let rest = operand_words kind ls (suc n) g row (λ i m at k. let e : n + suc i ≡ suc n + i = omega arith in h (suc i) m at k ∙ ap g e) in
    let none : n + zero ≡ n = omega arith in
    words_step row g (kind l.op) l.args (operands kind ls) n (places_in (suc n) kind ls) (λ k. h zero l refl k ∙ ap g none) rest

-- what holds of mapped elements
all_to : (f : Arg → BitVector) (w : BitVector) (xs : List Arg) → AllByRecursion (λ a. f a ≡ w) xs → AllByRecursion (λ x. x ≡ w) (map f xs)
all_to f w [] h = tt
all_to f w (x ∷ xs) h = (h.0, all_to f w xs h.1)

all_from : (f : Arg → BitVector) (w : BitVector) (xs : List Arg) → AllByRecursion (λ x. x ≡ w) (map f xs) → AllByRecursion (λ a. f a ≡ w) xs
all_from f w [] h = tt
all_from f w (x ∷ xs) h = (h.0, all_from f w xs h.1)

some_to : (f : Arg → BitVector) (w : BitVector) (o : Option Arg) → IsSomeAnd o (λ a. f a ≡ w) → IsSomeAnd (option_map f o) (λ x. x ≡ w)
some_to f w None h = h
some_to f w (Some x) h = h

some_from : (f : Arg → BitVector) (w : BitVector) (o : Option Arg) → IsSomeAnd (option_map f o) (λ x. x ≡ w) → IsSomeAnd o (λ a. f a ≡ w)
some_from f w None h = h
some_from f w (Some x) h = h

abbrev AreTrue : List BitVector → Type 0
AreTrue xs = AllByRecursion (λ x. x ≡ true_word) xs

abbrev IsTrueAt : ℕ → List BitVector → Type 0
IsTrueAt j xs = IsSomeAnd (slice_get xs j) (λ x. x ≡ true_word)

constraints_words : (lines : List Line) (row : List BitVector) → ConstraintsHold lines row ↔ AreTrue (map (operand row) (operands is_constraint lines))
constraints_words lines row =
    (all_to (operand row) true_word (operands is_constraint lines), all_from (operand row) true_word (operands is_constraint lines))

bad_words : (lines : List Line) (row : List BitVector) (j : ℕ) → IsBad lines row j ↔ IsTrueAt j (map (operand row) (operands is_bad lines))
bad_words lines row j =
    let xs = operands is_bad lines in
    let e = slice_get-map (operand row) xs j in (
      λ h. subst (λ o. IsSomeAnd o (λ x. x ≡ true_word)) (sym e) (some_to (operand row) true_word (slice_get xs j) h),
      λ h. some_from (operand row) true_word (slice_get xs j) (subst (λ o. IsSomeAnd o (λ x. x ≡ true_word)) e h),
    )

-- a frame for any words that fit, after a frame or as frame 0
pub made_frame : (lines : List Line) → IsWellFormed lines → (begun : Bool) (last : List BitVector) (free : ℕ → BitVector) → (begun ≡ true → IsFrame lines last) → FreeFits lines free
    → (row : List BitVector) × IsFrame lines row × ValuesHold begun lines last row × ((i : ℕ) (l : Line) → slice_get lines i ≡ Some l → l.op ≡ op.Input → word_at row i ≡ free i) × ((i : ℕ) (l : Line) → slice_get lines i ≡ Some l → l.op ≡ op.State → state_value (value_kind begun) lines i ≡ None → word_at row i ≡ free i)
made_frame lines w true last free f ff = (
  next_row lines w last free,
  whole_frame lines w (given_of (state_value is_next lines) (λ r. operand last) free) (next_gives lines w last free (f refl) ff),
  next_nexts lines w last free,
  reads lines w (state_value is_next lines) (λ r. operand last) free,
  frees_read lines w (state_value is_next lines) (λ r. operand last) free,
)
made_frame lines w false last free f ff = (
  first_row lines w free,
  whole_frame lines w (given_of (state_value is_init lines) (init_operand lines) free) (first_gives lines w free ff),
  first_inits lines w free ff,
  reads lines w (state_value is_init lines) (init_operand lines) free,
  frees_read lines w (state_value is_init lines) (init_operand lines) free,
)

-- a frame of one list and one of another pass or fail alike
pub record PassAlike (lines others : List Line) (j : ℕ) (begun : Bool) (stated : Statement) (row image : List BitVector) : Type 0 where
  pub states : StatesAgree lines begun stated row ↔ StatesAgree others begun stated image
  pub constraints : ConstraintsHold lines row ↔ ConstraintsHold others image
  pub bad : IsBad lines row j ↔ IsBad others image j

module _ (old new : List Line) (place : ℕ → ℕ) (same : AreSameLines old new place) (wo : IsWellFormed old) (wn : IsWellFormed new) where
  -- a line is stated the same word
  stated_same : (kind : LineOp → Bool) → IsKept kind → (value : ℕ → Option BitVector) (i : ℕ) (l : Line) → slice_get old i ≡ Some l → kind l.op ≡ true → stated_or (value (count_of kind (take i old))) (width_at old i) ≡ stated_or (value (count_of kind (take (place i) new))) (width_at new (place i))
  stated_same kind kept value i l at k =
      let t = same.there i l at (kept l.op k) in
      ap (λ n. stated_or (value n) (width_at old i)) (sym (number_same old new place same kind kept i l at k)) ∙ ap (stated_or (value (count_of kind (take (place i) new)))) (sym t.4)

  stated_to : (begun : Bool) (last before : List BitVector) (stated : Statement) (row image : List BitVector) → AreLast (AreAlike old new place) begun last before → HasSameWords old new place row image → IsStatedFrame old begun last stated row → IsStatedFrame new begun before stated image
  stated_to begun last before stated row image b w p =
      record {
        frame = w.frame;
        values = values_to old new place same wo wn begun last before row image b w p.values;
        inputs = λ q m at e.
            let f = line_from old new place same q m at (ap is_shared e) in
            let is : f.1.op ≡ op.Input = f.3 ∙ e in
            subst (λ n. word_at image n ≡ stated_or (stated.inputs (count_of is_input (take n new))) (width_at new n)) f.4
            (w.words f.0 f.1 f.2 (ap is_shared is) ∙ p.inputs f.0 f.1 f.2 is ∙ stated_same is_input input_kept stated.inputs f.0 f.1 f.2 (ap is_input is));
        states = λ q m at e none.
            let f = line_from old new place same q m at (ap is_shared e) in
            let is : f.1.op ≡ op.State = f.3 ∙ e in
            let free = none_from old new place same wo wn begun f.0 (ap (state_value (value_kind begun) new) f.4 ∙ none) in
            subst (λ n. word_at image n ≡ stated_or (stated.states (count_of is_state (take n new))) (width_at new n)) f.4
            (w.words f.0 f.1 f.2 (ap is_shared is) ∙ p.states f.0 f.1 f.2 is free ∙ stated_same is_state state_kept stated.states f.0 f.1 f.2 (ap is_state is));
      }

  -- the words of inputs and states in a new frame fit the old lines
  word_fits : (image : List BitVector) → IsFrame new image → (i : ℕ) (l : Line) → slice_get old i ≡ Some l → is_shared l.op ≡ false → has_word l.op ≡ true → GivenFits (take i old) l.sort op.Input (word_at image (place i))
  word_fits image frame i l at kept has =
      let t = same.there i l at kept in
      let is = width_is old i l wo at has in
      let x = wide new image wn frame.meets (place i) (omega (arith, t.4, is.1)) in
      (x.0, x.1 ∙ t.4 ∙ is.0)

  given_fits : (image : List BitVector) → IsFrame new image → (i : ℕ) (l : Line) (o : LineOp) → slice_get old i ≡ Some l → l.op ≡ o → GivenFits (take i old) l.sort o (word_at image (place i))
  given_fits image frame i l op.Input at e = word_fits image frame i l at (ap is_shared e) (ap has_word e)
  given_fits image frame i l op.State at e = word_fits image frame i l at (ap is_shared e) (ap has_word e)
  given_fits image frame i l o at e = tt

  pub free_fits : (image : List BitVector) → IsFrame new image → FreeFits old (λ i. word_at image (place i))
  free_fits image frame = record { fits = λ i l at. given_fits image frame i l l.op at refl }

  pub last_frame : (begun : Bool) (last before : List BitVector) → AreLast (AreAlike old new place) begun last before → begun ≡ true → IsFrame old last
  last_frame true last before b e = b.0
  last_frame false last before b e = absurd (cc)

  -- the old frame of what a new frame states
  stated_there : (begun : Bool) (last before : List BitVector) (stated : Statement) (image : List BitVector) → AreLast (AreAlike old new place) begun last before → IsStatedFrame new begun before stated image → (row : List BitVector) × IsStatedFrame old begun last stated row
  stated_there begun last before stated image b p =
      let r = made_frame old wo begun last (λ i. word_at image (place i)) (last_frame begun last before b) (free_fits image p.frame) in (
        r.0,
        record {
          frame = r.1;
          values = r.2;
          inputs = λ i l at e.
              let t = same.there i l at (ap is_shared e) in
              r.3 i l at e ∙ p.inputs (place i) t.0 t.1 (t.2 ∙ e) ∙ sym (stated_same is_input input_kept stated.inputs i l at (ap is_input e));
          states = λ i l at e none.
              let t = same.there i l at (ap is_shared e) in
              r.4 i l at e none ∙ p.states (place i) t.0 t.1 (t.2 ∙ e) (none_to old new place same wo wn begun i l at e none) ∙ sym (stated_same is_state state_kept stated.states i l at (ap is_state e));
        },
      )

  -- frames of one list have frames of the other
  module _ (image_of : (row : List BitVector) → IsFrame old row → (image : List BitVector) × HasSameWords old new place row image) where
    pub carry_to : (begun : Bool) (last before : List BitVector) (stated : Statement) (row : List BitVector) → AreLast (AreAlike old new place) begun last before → IsStatedFrame old begun last stated row → (image : List BitVector) × IsStatedFrame new begun before stated image × AreAlike old new place row image
    carry_to begun last before stated row b p =
        let im = image_of row p.frame in
        (im.0, stated_to begun last before stated row im.0 b im.1 p, (p.frame, im.1))

    pub carry_from : (begun : Bool) (last before : List BitVector) (stated : Statement) (image : List BitVector) → AreLast (AreAlike old new place) begun last before → IsStatedFrame new begun before stated image → (row : List BitVector) × IsStatedFrame old begun last stated row × AreAlike old new place row image
    carry_from begun last before stated image b p =
        let r = stated_there begun last before stated image b p in
        let im = carry_to begun last before stated r.0 b r.1 in
        let one : im.0 ≡ image = one_stated new begun before im.0 image stated wn im.1 p in
        (r.0, r.1, (r.1.frame, subst (HasSameWords old new place r.0) one im.2.1))

  -- arguments have the words that they had
  operands_same : (kind : LineOp → Bool) → IsKept kind → (row image : List BitVector) → HasSameWords old new place row image → map (operand row) (operands kind old) ≡ map (operand image) (operands kind new)
  operands_same kind kept row image w =
      let g = λ (q : ℕ). line_words image (slice_get new q) in
      operand_words kind old zero (λ i. g (place i)) row (λ i l at k.
      let h = kept l.op k in
      let t = same.there i l at h in
      let e : i ≡ zero + i = omega arith in
      sym (w.args i l t.0 at h t.1) ∙ sym (ap (line_words image) t.1) ∙ ap (λ n. g (place n)) e)
      ∙ sym (flat_map-map g place (places_of kind old))
      ∙ ap (λ ps. flat_map g ps) (sym (places_moved old new place same kind kept))
      ∙ sym (operand_words kind new zero g image (λ q m at k.
      let e : q ≡ zero + q = omega arith in
      sym (ap (line_words image) at) ∙ ap g e))

  agree_to : (begun : Bool) (stated : Statement) (row image : List BitVector) → HasSameWords old new place row image → StatesAgree old begun stated row → StatesAgree new begun stated image
  agree_to begun stated row image w agree q m b x at e value says =
      let v = value_from old new place same wo wn begun q b value in
      let n = number_same old new place same is_state state_kept v.0 v.1 v.3 (ap is_state v.4) in
      let old_says : stated.states (count_of is_state (take v.0 old)) ≡ Some x = ap stated.states (sym n) ∙ ap (λ p. stated.states (count_of is_state (take p new))) v.5 ∙ says in
      sym (ap (word_at image) v.5) ∙ w.words v.0 v.1 v.3 (ap is_shared v.4) ∙ agree v.0 v.1 v.2 x v.3 v.4 v.6 old_says

  agree_from : (begun : Bool) (stated : Statement) (row image : List BitVector) → HasSameWords old new place row image → StatesAgree new begun stated image → StatesAgree old begun stated row
  agree_from begun stated row image w agree i l a x at e value says =
      let kept : is_shared l.op ≡ false = ap is_shared e in
      let t = same.there i l at kept in
      let v = value_to old new place same wo wn begun i a value in
      let n = number_same old new place same is_state state_kept i l at (ap is_state e) in
      sym (w.words i l at kept) ∙ agree (place i) t.0 v.0 x t.1 (t.2 ∙ e) v.1 (ap stated.states n ∙ says)

  pub alike : (j : ℕ) (begun : Bool) (stated : Statement) (row image : List BitVector) → AreAlike old new place row image → PassAlike old new j begun stated row image
  alike j begun stated row image h =
      let constraints = operands_same is_constraint constraint_kept row image h.1 in
      let bads = operands_same is_bad bad_kept row image h.1 in
      record {
        states = (agree_to begun stated row image h.1, agree_from begun stated row image h.1);
        constraints = (
          λ c. (constraints_words new image).1 (subst AreTrue constraints ((constraints_words old row).0 c)),
          λ c. (constraints_words old row).1 (subst AreTrue (sym constraints) ((constraints_words new image).0 c)),
        );
        bad = (
          λ c. (bad_words new image j).1 (subst (IsTrueAt j) bads ((bad_words old row j).0 c)),
          λ c. (bad_words old row j).1 (subst (IsTrueAt j) (sym bads) ((bad_words new image j).0 c)),
        );
      }
