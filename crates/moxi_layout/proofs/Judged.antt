-- A witness has the same verdict for two layouts of one system.
use Rattle.std.proofs.Common.{◌≡◌, ℕ, suc, ◌<◌, Bool, true, false, List, [], ◌∷◌, map, take, Some, refl, sym, ap, ◌∙◌, subst, arith, inl, inr}
use Rattle.std.specs.Prelude.{option_map, IsTrue}
use Rattle.std.specs.List.{AllByRecursion}
use Rattle.text_core.specs.declared.verdict.Clause.{Clause}
use Rattle.text_core.specs.declared.verdict.Clause.TheVariants.{ConstraintFails, NotBroken, StateDiffers}
use Rattle.text_core.specs.declared.verdict.Verdict.{Verdict}
use Rattle.word_core.specs.Words.{BitVector}
use Rattle.btor_tree.specs.declared.lines.Line.{Line}
use Rattle.btor_tree.specs.Fits.{count_of, is_input, is_state, state_value, width_at}
use Rattle.btor_tree.specs.Frame.{ConstraintsHold, IsBad, IsFrame, operand, word_at}
use Rattle.btor_tree.proofs.Paths.{state_is}
use Rattle.btor_frames.specs.Steps.{value_kind}
use Rattle.btor_frames.specs.Judged.{IsStatedFrame, Statement, StatesAgree, stated_or}
use Rattle.btor_witness.specs.declared.witness.Frame.{Frame}
use Rattle.btor_witness.specs.Judging.{FailsFirst, IsJudgedAfter, Passes, is_last, statement_of}
use Rattle.btor_witness.specs.Printing.{IsPart}
use Rattle.btor_witness.specs.Sizes.{Sizes, sizes_of, widths_of}
use Rattle.moxi_flat.specs.FlatSystem.{PlainFlatSystem}
use Rattle.moxi_lines.specs.Variables.{IsInside}
use Rattle.moxi_layout.specs.Layout.{IsInRange, first_at, given, input_at, prior_at}
use Rattle.moxi_layout.specs.LayoutLaws.{IsLaidOut}
use Rattle.moxi_layout.specs.Witnesses.{LayoutsAreJudgedEqually}
use Rattle.moxi_layout.proofs.Latches.{given_next, map_some, set_first}
use Rattle.moxi_layout.proofs.Pairs.{AreAlike, WereInside, alike_back, all_nexts_same, bads_same, constraints_same, inits_same, range_same, same_inputs, same_states, state_of, variable_below}
use Rattle.moxi_layout.proofs.RowLaws.{row_inside}
use Rattle.moxi_layout.proofs.Sizes.{number_of, numbered, same_sizes, same_width}
use Rattle.moxi_layout.proofs.Stated.{given_or, read_word, source, state_word, stated_there}

-- what is known of the frames before
pub record AreReady (f : PlainFlatSystem) (lines other : List Line) (row next : List BitVector) : Type 0 where
  pub alike : AreAlike lines other row next
  pub range : IsInRange f lines row
  pub other_range : IsInRange f other next
  pub frame : IsFrame lines row
  pub other_frame : IsFrame other next

-- where a frame before is in range, the codes of the step before are inside
were_inside : (f : PlainFlatSystem) (lines : List Line) → IsLaidOut f lines → (begun : Bool) (before row : List BitVector) (stated : Statement) → (begun ≡ true → IsInRange f lines before) → IsStatedFrame lines begun before stated row → WereInside f lines row
were_inside f lines laid true before row stated r h e =
    let range = r refl in
    record {
      each = λ v s g.
          let word = given_next lines before row (prior_at lines v) (word_at before (input_at lines v)) h.values (laid.lays.prior_next before range.meets v (variable_below f v s g)) in
          subst (IsInside f.scope.enumerations s) (sym word) (range.now.each v s g);
    }
were_inside f lines laid false before row stated r h e =
    let first = set_first lines row (first_at lines) true h.values (laid.lays.first_init row h.frame.meets) in
    absurd (let x : true ≡ false = sym first ∙ e in cc)

module _ (f : PlainFlatSystem) (lines other : List Line) (laid : IsLaidOut f lines) (laid_other : IsLaidOut f other) (begun : Bool) (before before_other : List BitVector)
    (ready : begun ≡ true → AreReady f lines other before before_other) (stated : Statement) (row next : List BitVector) (h : IsStatedFrame lines begun before stated row) (k : IsStatedFrame other begun before_other stated next) where
  sizes_alike : sizes_of lines ≡ sizes_of other
  sizes_alike = same_sizes f lines other laid laid_other

  given_alike : (n : ℕ) → n < count_of is_state lines
      → given (value_kind begun) lines (source begun before row) (state_of lines n) ≡ given (value_kind begun) other (source begun before_other next) (state_of other n)
  given_alike n l = go begun ready h k
    where
      go : (b : Bool) → (b ≡ true → AreReady f lines other before before_other) → IsStatedFrame lines b before stated row → IsStatedFrame other b before_other stated next
          → given (value_kind b) lines (source b before row) (state_of lines n) ≡ given (value_kind b) other (source b before_other next) (state_of other n)
      go true r h k = let x = r refl in all_nexts_same f lines other laid laid_other before before_other x.alike x.range x.other_range n l
      go false r h k = inits_same f lines other laid laid_other row next h.frame.meets k.frame.meets n l

  -- the frames that a statement means have the same words
  pub rows_alike : AreAlike lines other row next
  rows_alike =
      record {
        inputs = λ n l.
            let x = numbered is_input lines n l in
            let y = numbered is_input other n (omega (arith, l, same_inputs f lines other laid laid_other)) in
            read_word lines begun before row stated n (input_at lines n) x.0 h x.1
            ∙ ap (stated_or (stated.inputs n)) (same_width is_input lines other n (input_at lines n) (input_at other n) x.0 y.0 (ap (λ (s : Sizes). s.inputs) sizes_alike) x.1 y.1)
            ∙ sym (read_word other begun before_other next stated n (input_at other n) y.0 k y.1);
        states = λ n l.
            let x = numbered is_state lines n l in
            let y = numbered is_state other n (omega (arith, l, same_states f lines other laid laid_other)) in
            let w = same_width is_state lines other n (state_of lines n) (state_of other n) x.0 y.0 (ap (λ (s : Sizes). s.states) sizes_alike) x.1 y.1 in
            state_word lines begun before row stated n x.0 h x.1
            ∙ ap (λ o. given_or o (stated_or (stated.states n) (width_at lines (state_of lines n)))) (given_alike n l)
            ∙ ap (λ m. given_or (given (value_kind begun) other (source begun before_other next) (state_of other n)) (stated_or (stated.states n) m)) w
            ∙ sym (state_word other begun before_other next stated n y.0 k y.1);
      }

  -- a determined state of the other lines is one of these
  pub agree_same : StatesAgree lines begun stated row → StatesAgree other begun stated next
  agree_same a i l b x g e v s =
      let n = count_of is_state (take i other) in
      let m = number_of is_state other i l g (ap is_state e) in
      let inside : n < count_of is_state lines = omega (arith, m.0, same_states f lines other laid laid_other) in
      let y = numbered is_state lines n inside in
      let there : given (value_kind begun) other (source begun before_other next) (state_of other n) ≡ Some (operand (source begun before_other next) b) = ap (λ p. option_map (operand (source begun before_other next)) (state_value (value_kind begun) other p)) m.1
      ∙ ap (option_map (operand (source begun before_other next))) v in
      let got = map_some (operand (source begun before row)) (state_value (value_kind begun) lines (state_of lines n)) (operand (source begun before_other next) b) (given_alike n inside ∙ there) in
      let word : word_at row (state_of lines n) ≡ x = a (state_of lines n) y.0 got.0 x y.1.there (state_is y.0.op y.1.is) got.1 (ap stated.states y.1.number ∙ s) in
      sym (ap (word_at next) m.1) ∙ sym (rows_alike.states n inside) ∙ word

  range_here : ConstraintsHold lines row → IsInRange f lines row
  range_here c =
      record { meets = h.frame.meets; now = row_inside f lines laid row h.frame.meets c; before = were_inside f lines laid begun before row stated (λ e. (ready e).range) h }

  pub constraints_to : ConstraintsHold lines row → ConstraintsHold other next
  constraints_to c = constraints_same f lines other laid laid_other row next rows_alike k.frame.meets (range_here c) c

  pub bad_to : (j : ℕ) → ConstraintsHold lines row → IsBad lines row j → IsBad other next j
  bad_to j c b =
      let r = range_here c in
      bads_same f lines other laid laid_other row next rows_alike r (range_same f lines other laid laid_other row next rows_alike k.frame.meets r) j b

  pub next_ready : ConstraintsHold lines row → AreReady f lines other row next
  next_ready c =
      let r = range_here c in
      record { alike = rows_alike; range = r; other_range = range_same f lines other laid laid_other row next rows_alike k.frame.meets r; frame = h.frame; other_frame = k.frame }

ready_back : (f : PlainFlatSystem) (lines other : List Line) → IsLaidOut f lines → IsLaidOut f other → (row next : List BitVector) → AreReady f lines other row next → AreReady f other lines next row
ready_back f lines other a b row next r =
    record { alike = alike_back f lines other a b row next r.alike; range = r.other_range; other_range = r.range; frame = r.other_frame; other_frame = r.frame }

module _ (f : PlainFlatSystem) (lines other : List Line) (laid : IsLaidOut f lines) (laid_other : IsLaidOut f other) where
  passes_to : (j : ℕ) (begun : Bool) (before before_other : List BitVector) → (begun ≡ true → AreReady f lines other before before_other) → (stated : Statement) (row next : List BitVector) → IsStatedFrame lines begun before stated row → IsStatedFrame other begun before_other stated next
      → (last : Bool) → Passes lines j begun last stated row → Passes other j begun last stated next
  passes_to j begun before before_other ready stated row next h k last p = (
    agree_same f lines other laid laid_other begun before before_other ready stated row next h k p.0,
    constraints_to f lines other laid laid_other begun before before_other ready stated row next h k p.1,
    λ e. bad_to f lines other laid laid_other begun before before_other ready stated row next h k j p.1 (p.2 e),
  )

  fails_to : (j : ℕ) (begun : Bool) (before before_other : List BitVector) → (begun ≡ true → AreReady f lines other before before_other) → (stated : Statement) (row next : List BitVector) → IsStatedFrame lines begun before stated row → IsStatedFrame other begun before_other stated next
      → (last : Bool) (clause : Clause) → FailsFirst lines j begun last stated row clause → FailsFirst other j begun last stated next clause
  fails_to j begun before before_other ready stated row next h k last StateDiffers p =
      λ a. p (agree_same f other lines laid_other laid begun before_other before (λ e. ready_back f lines other laid laid_other before before_other (ready e)) stated next row k h a)
  fails_to j begun before before_other ready stated row next h k last ConstraintFails p = (
    agree_same f lines other laid laid_other begun before before_other ready stated row next h k p.0,
    λ c. p.1 (constraints_to f other lines laid_other laid begun before_other before (λ e. ready_back f lines other laid laid_other before before_other (ready e)) stated next row k h c),
  )
  fails_to j begun before before_other ready stated row next h k last NotBroken p =
      let c = constraints_to f lines other laid laid_other begun before before_other ready stated row next h k p.1 in (
        agree_same f lines other laid laid_other begun before before_other ready stated row next h k p.0,
        c,
        p.2,
        λ b. p.3 (bad_to f other lines laid_other laid begun before_other before (λ e. ready_back f lines other laid laid_other before before_other (ready e)) stated next row k h j c b),
      )
  fails_to j begun before before_other ready stated row next h k last clause p = absurd p

  judged_to : (j step : ℕ) (begun : Bool) (before before_other : List BitVector) → (begun ≡ true → AreReady f lines other before before_other) → (frames : List Frame)
      → AllByRecursion (λ (x : Frame). IsPart (widths_of is_input other) x.inputs) frames → AllByRecursion (λ (x : Frame). IsPart (widths_of is_state other) x.states) frames
      → (v : Verdict) → IsJudgedAfter lines j step begun before (map statement_of frames) v → IsJudgedAfter other j step begun before_other (map statement_of frames) v
  judged_to j step begun before before_other ready [] a b v h = h
  judged_to j step begun before before_other ready (x ∷ frames) a b v h =
      let framed : IsTrue begun → IsFrame other before_other = λ t. (ready t).other_frame in
      let y = stated_there other begun before_other x laid_other.well_formed framed a.0 b.0 in (
        y.0,
        y.1,
        elim h.2 [
          | inl z ↦ inl (z.0, fails_to j begun before before_other ready (statement_of x) h.0 y.0 h.1 y.1 (is_last (map statement_of frames)) z.0 z.1, z.2)
          | inr z ↦ inr (
            passes_to j begun before before_other ready (statement_of x) h.0 y.0 h.1 y.1 (is_last (map statement_of frames)) z.0,
            judged_to j (suc step) true h.0 y.0 (λ e. next_ready f lines other laid laid_other begun before before_other ready (statement_of x) h.0 y.0 h.1 y.1 z.0.1) frames a.1 b.1 v z.1,
          )
        ],
      )

pub layouts_are_judged_equally_law : LayoutsAreJudgedEqually
layouts_are_judged_equally_law f lines other a b w is v =
    let e = same_sizes f lines other a b in
    let inputs = subst (λ (s : Sizes). AllByRecursion (λ (x : Frame). IsPart s.inputs x.inputs) w.frames) e is.inputs in
    let states = subst (λ (s : Sizes). AllByRecursion (λ (x : Frame). IsPart s.states x.states) w.frames) e is.states in (
      λ h. judged_to f lines other a b w.bad 0 false [] [] (λ t. absurd (let z : false ≡ true = t in cc)) w.frames inputs states v h,
      λ h. judged_to f other lines b a w.bad 0 false [] [] (λ t. absurd (let z : false ≡ true = t in cc)) w.frames is.inputs is.states v h,
    )
