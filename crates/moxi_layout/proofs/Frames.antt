-- Frames that follow one another, and the trace for which they stand: constraints are true and the query's bad line is true exactly where
-- the trace meets the query.
use Rattle.std.proofs.Common.{◌≡◌, ℕ, zero, suc, ◌+◌, ◌<◌, ◌≤◌, true, false, List, map, length, Some, refl, sym, ap, ◌∙◌, subst, arith}
use Rattle.std.specs.Prelude.{slice_get, IsSomeAnd}
use Rattle.std.specs.List.{AllByRecursion}
use Rattle.word_core.specs.Words.{BitVector}
use Rattle.btor_tree.specs.declared.args.Arg.{Arg}
use Rattle.btor_tree.specs.declared.lines.Line.{Line}
use Rattle.btor_tree.specs.Fits.{is_bad, operands}
use Rattle.btor_tree.specs.Frame.{ConstraintsHold, IsBad, Meets, operand, true_word, word_at}
use Rattle.btor_tree.proofs.Grows.{slice_get_inside}
use Rattle.moxi_terms.specs.declared.data.Sort.{Sort}
use Rattle.moxi_terms.specs.declared.data.Sort.TheVariants.{Truth}
use Rattle.moxi_terms.specs.Tree.{sorts_of}
use Rattle.std.specs.Prelude.{slice_index_or}
use Rattle.moxi_terms.specs.Value.{Values}
use Rattle.moxi_scripts.specs.declared.script.Query.{Query}
use Rattle.moxi_scripts.specs.Script.{calls_in}
use Rattle.moxi_scripts.specs.Behaviour.{Holds, Trace}
use Rattle.moxi_flat.specs.FlatMeeting.{IsFlatTrace, MeetsFlat, PartHolds}
use Rattle.moxi_flat.specs.FlatSorts.{PartIsSorted}
use Rattle.moxi_flat.specs.FlatSystem.{PlainFlatSystem, PlainPart}
use Rattle.moxi_lines.specs.Decoding.{PlacesInside, decoded_datum}
use Rattle.moxi_lines.specs.Variables.{IsInside}
use Rattle.moxi_layout.specs.Layout.{IsInRange, IsQueryLaid, before_values, first_at, input_at, is_met, is_set, latch_inits, latch_nexts, latches_in, now_values, prior_at, truth_word}
use Rattle.moxi_layout.specs.LayoutLaws.{IsLaidOut}
use Rattle.moxi_layout.proofs.Entries.{sorts_long}
use Rattle.moxi_layout.proofs.Latches.{given_next, query_at, set_first, set_next, sets_first, sets_next}
use Rattle.moxi_layout.proofs.Lists.{all_steps, all_with, steps_all}
use Rattle.moxi_layout.proofs.Meeting.{IsQueryMet, is_start, latches_at, met_from, met_to}
use Rattle.moxi_layout.proofs.Parts.{PartAt}
use Rattle.moxi_layout.proofs.RowLaws.{row_constraints, row_inside, row_parts, truth_true}
use Rattle.moxi_layout.proofs.Rows.{PathRows}
use Rattle.moxi_layout.proofs.Terms.{Agree, agree_same, holds_same, agree_back}
use Rattle.moxi_layout.proofs.Values.{now_suits}

module _ (f : PlainFlatSystem) (lines : List Line) (laid : IsLaidOut f lines) (k : ℕ) (row : ℕ → List BitVector) (path : PathRows lines k row) where
  abbrev pub trace : Trace
  trace j = now_values f lines (row j)

  abbrev before : ℕ → Values
  before j = before_values f lines (row j)

  abbrev pub Inside : ℕ → Type 0
  Inside j = PlacesInside f.scope.enumerations f.variables (row j) (input_at lines)

  meets : (j : ℕ) → j ≤ k → Meets lines (row j)
  meets j l = (path.frame j l).meets

  -- ---- states

  is_first : (j : ℕ) → j ≤ k → is_set (row j) (first_at lines) ≡ is_start j
  is_first zero l = set_first lines (row 0) (first_at lines) true path.inits (laid.lays.first_init (row 0) (meets 0 l))
  is_first (suc j) l =
      let m : j ≤ k = omega (arith, l) in
      set_next lines (row j) (row (suc j)) (first_at lines) false (path.nexts j (omega (arith, l))) (laid.lays.first_next (row j) (meets j m))

  prior_word : (j : ℕ) → suc j ≤ k → (v : ℕ) (s : Sort) → slice_get (sorts_of f.variables) v ≡ Some s → word_at (row (suc j)) (prior_at lines v) ≡ word_at (row j) (input_at lines v)
  prior_word j l v s h =
      let m : j ≤ k = omega (arith, l) in
      let b : v < length f.variables = omega (arith, slice_get_inside (sorts_of f.variables) v s h, sorts_long f.variables) in
      given_next lines (row j) (row (suc j)) (prior_at lines v) (word_at (row j) (input_at lines v)) (path.nexts j (omega (arith, l))) (laid.lays.prior_next (row j) (meets j m) v b)

  before_agrees : (j : ℕ) → suc j ≤ k → Agree (sorts_of f.variables) (before (suc j)) (trace j)
  before_agrees j l = record { each = λ v s h. ap (decoded_datum f.scope.enumerations (slice_index_or (sorts_of f.variables) v Truth)) (prior_word j l v s h) }

  in_range : ((j : ℕ) → j ≤ k → Inside j) → (j : ℕ) → j ≤ k → IsInRange f lines (row j)
  in_range inside zero l =
      record {
        meets = meets 0 l;
        now = inside 0 l;
        before = λ e. absurd (let h : true ≡ false = sym (is_first 0 l) ∙ e in cc);
      }
  in_range inside (suc j) l =
      let m : j ≤ k = omega (arith, l) in
      record {
        meets = meets (suc j) l;
        now = inside (suc j) l;
        before = λ e. record { each = λ v s h. subst (IsInside f.scope.enumerations s) (sym (prior_word j l v s h)) ((inside j m).each v s h) };
      }

  -- ---- constraints

  constraints_inside : (j : ℕ) → j ≤ k → ConstraintsHold lines (row j) → Inside j
  constraints_inside j l c = row_inside f lines laid (row j) (meets j l) c

  parts_at : ((j : ℕ) → j ≤ k → Inside j) → (j : ℕ) → j ≤ k → ConstraintsHold lines (row j) → AllByRecursion (PartAt f.scope (is_start j) (before j) (trace j)) f.parts
  parts_at inside j l c = subst (λ b. AllByRecursion (PartAt f.scope b (before j) (trace j)) f.parts) (is_first j l) (row_parts f lines laid (row j) (in_range inside j l) c)

  constraints_at : ((j : ℕ) → j ≤ k → Inside j) → (j : ℕ) → j ≤ k → AllByRecursion (PartAt f.scope (is_start j) (before j) (trace j)) f.parts → ConstraintsHold lines (row j)
  constraints_at inside j l p =
      row_constraints f lines laid (row j) (in_range inside j l) (subst (λ b. AllByRecursion (PartAt f.scope b (before j) (trace j)) f.parts) (sym (is_first j l)) p)

  -- ---- parts at all steps

  part_holds : (p : PlainPart) → PartIsSorted f p → ((j : ℕ) → j ≤ k → PartAt f.scope (is_start j) (before j) (trace j) p) → PartHolds (calls_in f.scope) (k + 1) trace p
  part_holds p sorted at =
      record {
        init = (at 0 (omega arith)).init refl;
        trans = λ j l.
            let m : suc j ≤ k = omega (arith, l) in
            let e : suc j ≡ j + 1 = omega arith in
            subst (λ n. Holds (calls_in f.scope) (trace j) (trace n) p.trans) e
            (holds_same f (before (suc j)) (trace j) (trace (suc j)) (trace (suc j)) p.trans (before_agrees j m) (agree_same (sorts_of f.variables) (trace (suc j))) sorted.trans ((at (suc j) m).trans refl));
        inv = λ j l. (at j (omega (arith, l))).inv;
      }

  holds_part : (p : PlainPart) → PartIsSorted f p → PartHolds (calls_in f.scope) (k + 1) trace p → (j : ℕ) → j ≤ k → PartAt f.scope (is_start j) (before j) (trace j) p
  holds_part p sorted h zero l = record { init = λ e. h.init; trans = λ e. absurd (cc); inv = h.inv 0 (omega arith) }
  holds_part p sorted h (suc j) l =
      let e : j + 1 ≡ suc j = omega arith in
      record {
        init = λ e. absurd (cc);
        trans = λ x.
            holds_same f (trace j) (before (suc j)) (trace (suc j)) (trace (suc j)) p.trans (agree_back (sorts_of f.variables) (before (suc j)) (trace j) (before_agrees j l)) (agree_same (sorts_of f.variables) (trace (suc j))) sorted.trans
            (subst (λ n. Holds (calls_in f.scope) (trace j) (trace n) p.trans) e (h.trans j (omega (arith, l))));
        inv = h.inv (suc j) (omega (arith, l));
      }

  abbrev Upto : ℕ → Type 0
  Upto j = j ≤ k

  abbrev AtStep : ℕ → PlainPart → Type 0
  AtStep j p = PartAt f.scope (is_start j) (before j) (trace j) p

  flat_trace : ((j : ℕ) → j ≤ k → ConstraintsHold lines (row j)) → IsFlatTrace f (k + 1) trace
  flat_trace c =
      record {
        suits = λ j l. now_suits f lines laid (row j) (meets j (omega (arith, l)));
        parts = all_with (PartIsSorted f) (λ p. (j : ℕ) → j ≤ k → AtStep j p) (PartHolds (calls_in f.scope) (k + 1) trace) f.parts part_holds laid.sorted.parts
            (steps_all Upto AtStep f.parts (λ j l. parts_at (λ i m. constraints_inside i m (c i m)) j l (c j l)));
      }

  trace_constraints : ((j : ℕ) → j ≤ k → Inside j) → IsFlatTrace f (k + 1) trace → (j : ℕ) → j ≤ k → ConstraintsHold lines (row j)
  trace_constraints inside t j l =
      constraints_at inside j l
      (all_steps Upto AtStep f.parts (all_with (PartIsSorted f) (PartHolds (calls_in f.scope) (k + 1) trace) (λ p. (i : ℕ) → i ≤ k → AtStep i p) f.parts holds_part laid.sorted.parts t.parts) j l)

  -- ---- queries

  module _ (q : Query) (ls : List ℕ) (bad : Arg) (query : IsQueryLaid f lines q ls bad) (inside : (j : ℕ) → j ≤ k → Inside j) where
    latches_are : (j : ℕ) → j ≤ k → map (is_set (row j)) ls ≡ latches_at f q trace j
    latches_are zero l = sets_first lines (row 0) ls (latch_inits q) path.inits (query.inits (row 0) (meets 0 l))
    latches_are (suc j) l =
        let m : j ≤ k = omega (arith, l) in
        sets_next lines (row j) (row (suc j)) ls (latch_nexts f (is_set (row j) (first_at lines)) (trace j) q (map (is_set (row j)) ls)) (path.nexts j (omega (arith, l))) (query.nexts (row j) (in_range inside j m))
        ∙ ap (λ b. latch_nexts f b (trace j) q (map (is_set (row j)) ls)) (is_first j m)
        ∙ ap (latch_nexts f (is_start j) (trace j) q) (latches_are j m)

    bad_is : operand (row k) bad ≡ truth_word (is_met f (is_start k) (trace k) q (latches_at f q trace k))
    bad_is =
        let l : k ≤ k = omega arith in
        query.bad_word (row k) (in_range inside k l)
        ∙ ap (λ b. truth_word (is_met f b (trace k) q (map (is_set (row k)) ls))) (is_first k l)
        ∙ ap (λ b. truth_word (is_met f (is_start k) (trace k) q b)) (latches_are k l)

  pub frames_meet : (i : ℕ) (q : Query) → slice_get f.queries i ≡ Some q → ((j : ℕ) → j ≤ k → ConstraintsHold lines (row j)) → IsBad lines (row k) i → MeetsFlat f q k trace
  frames_meet i q h c b =
      let x = query_at f lines f.queries (latches_in f lines) (operands is_bad lines) i q laid.lays.queries h in
      let inside = λ (j : ℕ) (l : j ≤ k). constraints_inside j l (c j l) in
      let set = subst (λ o. IsSomeAnd o (λ a. operand (row k) a ≡ true_word)) x.there b in
      let m = met_from f q trace k (truth_true _ (sym (bad_is q x.latches x.bad x.laid inside) ∙ set)) in
      record { behaves = flat_trace c; assumptions = m.assumptions; currents = m.currents; reached = m.reached; reached_last = m.reached_last }

  pub meet_frames : (i : ℕ) (q : Query) → slice_get f.queries i ≡ Some q → ((j : ℕ) → j ≤ k → Inside j) → MeetsFlat f q k trace → ((j : ℕ) → j ≤ k → ConstraintsHold lines (row j)) × IsBad lines (row k) i
  meet_frames i q h inside t =
      let x = query_at f lines f.queries (latches_in f lines) (operands is_bad lines) i q laid.lays.queries h in
      let m : IsQueryMet f q trace k = record { assumptions = t.assumptions; currents = t.currents; reached = t.reached; reached_last = t.reached_last } in (
        trace_constraints inside t.behaves,
        subst (λ o. IsSomeAnd o (λ a. operand (row k) a ≡ true_word)) (sym x.there) (bad_is q x.latches x.bad x.laid inside ∙ ap truth_word (met_to f q trace k m)),
      )
