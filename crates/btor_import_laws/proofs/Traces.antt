-- Frames give traces, and traces give frames.
use Rattle.std.proofs.Common.{◌≡◌, ℕ, zero, suc, ◌+◌, ◌<◌, ◌≤◌, true, false, List, [], ◌∷◌, length, Option, Some, option_map, refl, sym, ap, ◌∙◌, subst, arith, take, slice_index_or, IsSomeAnd}
use Rattle.std.specs.Prelude.{slice_get}
use Rattle.std.specs.List.{AllByRecursion, Any}
use Rattle.std.proofs.lemmas.Option.{slice_get-map}
use Rattle.word_core.specs.Words.{BitVector}
use Rattle.btor_tree.specs.declared.args.Arg.{Arg}
use Rattle.btor_tree.specs.declared.lines.Line.{Line}
use Rattle.btor_tree.specs.declared.lines.LineOp.{LineOp}
use Rattle.btor_tree.specs.declared.lines.LineOp.TheVariants as line
use Rattle.btor_tree.specs.Fits.{IsWellFormed, is_bad, operands, width_at}
use Rattle.btor_tree.specs.Frame.{AreFrames, ConstraintsHold, Follow, InitsHold, IsBad, IsFrame, IsPath, NextsHold, nothing, operand, true_word, word_at}
use Rattle.btor_tree.proofs.Widths.{wide}
use Rattle.btor_tree.proofs.Words.{computed, one_solution}
use Rattle.moxi_terms.specs.declared.data.Datum.TheVariants.{Bits}
use Rattle.moxi_terms.specs.declared.term.Enumeration.{Enumeration}
use Rattle.moxi_terms.specs.Names.{no_scope}
use Rattle.moxi_terms.specs.Tree.{Tree, sorts_of}
use Rattle.moxi_terms.specs.Value.{Calls}
use Rattle.moxi_scripts.specs.declared.script.Query.{Query}
use Rattle.moxi_scripts.specs.Script.{PlainSystem, calls_in, formula_at, system_at, variables_in, query_of}
use Rattle.moxi_scripts.specs.Behaviour.{Behaves, behaves, no_subsystems, FormulasHold, Holds, Suits, Trace}
use Rattle.moxi_scripts.specs.Meeting.{MeetsQuery}
use Rattle.btor_import.specs.Operators.{is_one, operand_term}
use Rattle.btor_import.specs.Script.{check_of, import_of, is_local, lines_in, number_of, reachables_from, system_of}
use Rattle.btor_import.proofs.LineVariables.{picked}
use Rattle.moxi_layout.specs.LayoutLaws.{AtLast, AreBadFrames}
use Rattle.btor_import_laws.specs.Runs.{HasWordsOf, row_at}
use Rattle.btor_import_laws.proofs.Lists.{bads_are, first_of, query_at, reachable_at}
use Rattle.btor_import_laws.proofs.Rows.{row_agrees, row_frame, row_of, row_wide, values_agree, values_of, values_suit}
use Rattle.btor_import_laws.proofs.Steps.{EquationsHold, bad_argument, constraints_hold, equations_hold, holds_true, init_holds, inits_hold, inv_holds, nexts_hold, trans_holds, true_holds}

-- ---- rows by their places

row_all : (P : List BitVector → Type 0) (rows : List (List BitVector)) (i : ℕ) → AllByRecursion P rows → i < length rows → P (row_at rows i)
row_all P [] i h lt = absurd (omega (arith, lt))
row_all P (row ∷ rows) zero h lt = h.0
row_all P (row ∷ rows) (suc i) h lt = row_all P rows i h.1 (omega (arith, lt))

row_last : (P : List BitVector → Type 0) (rows : List (List BitVector)) (k : ℕ) → length rows ≡ suc k → AtLast P rows → P (row_at rows k)
row_last P [] k e h = absurd h
row_last P (row ∷ []) zero e h = h
row_last P (row ∷ []) (suc k) e h = absurd (omega (arith, e))
row_last P (row ∷ next ∷ rows) zero e h = absurd (omega (arith, e))
row_last P (row ∷ next ∷ rows) (suc k) e h = row_last P (next ∷ rows) k (let z : suc (length rows) ≡ suc k = omega (arith, e) in z) h

follow_at : (lines : List Line) (row : List BitVector) (rest : List (List BitVector)) → Follow lines row rest → (i : ℕ) → i < length rest → IsFrame lines (row_at rest i) × NextsHold lines (row_at (row ∷ rest) i) (row_at rest i)
follow_at lines row [] h i lt = absurd (omega (arith, lt))
follow_at lines row (next ∷ rest) h zero lt = (h.0, h.1)
follow_at lines row (next ∷ rest) h (suc i) lt = follow_at lines next rest h.2 i (omega (arith, lt))

path_frame : (lines : List Line) (rows : List (List BitVector)) → IsPath lines rows → (i : ℕ) → i < length rows → IsFrame lines (row_at rows i)
path_frame lines [] h i lt = absurd h
path_frame lines (row ∷ rest) h zero lt = h.0
path_frame lines (row ∷ rest) h (suc i) lt = (follow_at lines row rest h.2 i (omega (arith, lt))).0

path_init : (lines : List Line) (rows : List (List BitVector)) → IsPath lines rows → InitsHold lines (row_at rows 0)
path_init lines [] h = absurd h
path_init lines (row ∷ rest) h = h.1

path_next : (lines : List Line) (rows : List (List BitVector)) → IsPath lines rows → (i : ℕ) → i + 1 < length rows → NextsHold lines (row_at rows i) (row_at rows (i + 1))
path_next lines [] h i lt = absurd h
path_next lines (row ∷ rest) h i lt =
    subst (λ j. NextsHold lines (row_at (row ∷ rest) i) (row_at (row ∷ rest) j)) (let e : suc i ≡ i + 1 = omega arith in e) (follow_at lines row rest h.2 i (omega (arith, lt))).1

-- so many rows from place i on
abbrev rows_from : (ℕ → List BitVector) → ℕ → ℕ → List (List BitVector)
rows_from f i zero = []
rows_from f i (suc n) = f i ∷ rows_from f (suc i) n

rows_long : (f : ℕ → List BitVector) (i n : ℕ) → length (rows_from f i n) ≡ n
rows_long f i zero = refl
rows_long f i (suc n) = ap suc (rows_long f (suc i) n)

row_is : (f : ℕ → List BitVector) (i n j : ℕ) → j < n → row_at (rows_from f i n) j ≡ f (i + j)
row_is f i zero j lt = absurd (omega (arith, lt))
row_is f i (suc n) zero lt = ap f (let e : i ≡ i + 0 = omega arith in e)
row_is f i (suc n) (suc j) lt = row_is f (suc i) n j (omega (arith, lt)) ∙ ap f (let e : suc i + j ≡ i + suc j = omega arith in e)

rows_all : (P : List BitVector → Type 0) (f : ℕ → List BitVector) (i n : ℕ) → ((j : ℕ) → j < i + n → P (f j)) → AllByRecursion P (rows_from f i n)
rows_all P f i zero h = tt
rows_all P f i (suc n) h = (h i (omega arith), rows_all P f (suc i) n (λ j lt. h j (omega (arith, lt))))

rows_last : (P : List BitVector → Type 0) (f : ℕ → List BitVector) (i n : ℕ) → P (f (i + n)) → AtLast P (rows_from f i (suc n))
rows_last P f i zero h = subst (λ j. P (f j)) (let e : i + 0 ≡ i = omega arith in e) h
rows_last P f i (suc n) h = rows_last P f (suc i) n (subst (λ j. P (f j)) (let e : i + suc n ≡ suc i + n = omega arith in e) h)

rows_follow : (lines : List Line) (f : ℕ → List BitVector) (i n : ℕ) → ((j : ℕ) → j < suc (i + n) → IsFrame lines (f j)) → ((j : ℕ) → j + 1 < suc (i + n) → NextsHold lines (f j) (f (j + 1))) → Follow lines (f i) (rows_from f (suc i) n)
rows_follow lines f i zero frames nexts = tt
rows_follow lines f i (suc n) frames nexts = (
  frames (suc i) (omega arith),
  subst (λ j. NextsHold lines (f i) (f j)) (let e : i + 1 ≡ suc i = omega arith in e) (nexts i (omega arith)),
  rows_follow lines f (suc i) n (λ j lt. frames j (omega (arith, lt))) (λ j lt. nexts j (omega (arith, lt))),
)

-- the word of a constant or an operator is given by no one
local_word_of : (before : List Line) (row : List BitVector) (s : ℕ) (o : LineOp) (args : List Arg) (x y : BitVector) → is_local o ≡ true → computed before row s o args x ≡ computed before row s o args y
local_word_of before row s line.Input args x y h = absurd (cc)
local_word_of before row s line.State args x y h = absurd (cc)
local_word_of before row s (line.Unary o) [] x y h = refl
local_word_of before row s (line.Unary o) (a ∷ []) x y h = refl
local_word_of before row s (line.Unary o) (a ∷ b ∷ args) x y h = refl
local_word_of before row s (line.Binary o) [] x y h = refl
local_word_of before row s (line.Binary o) (a ∷ []) x y h = refl
local_word_of before row s (line.Binary o) (a ∷ b ∷ []) x y h = refl
local_word_of before row s (line.Binary o) (a ∷ b ∷ c ∷ args) x y h = refl
local_word_of before row s line.Ite [] x y h = refl
local_word_of before row s line.Ite (a ∷ []) x y h = refl
local_word_of before row s line.Ite (a ∷ b ∷ []) x y h = refl
local_word_of before row s line.Ite (a ∷ b ∷ c ∷ []) x y h = refl
local_word_of before row s line.Ite (a ∷ b ∷ c ∷ d ∷ args) x y h = refl
local_word_of before row s (line.Slice high low) [] x y h = refl
local_word_of before row s (line.Slice high low) (a ∷ []) x y h = refl
local_word_of before row s (line.Slice high low) (a ∷ b ∷ args) x y h = refl
local_word_of before row s (line.Uext n) [] x y h = refl
local_word_of before row s (line.Uext n) (a ∷ []) x y h = refl
local_word_of before row s (line.Uext n) (a ∷ b ∷ args) x y h = refl
local_word_of before row s (line.Sext n) [] x y h = refl
local_word_of before row s (line.Sext n) (a ∷ []) x y h = refl
local_word_of before row s (line.Sext n) (a ∷ b ∷ args) x y h = refl
local_word_of before row s o args x y h = refl

-- ---- systems

abbrev calls : Calls
calls = calls_in no_scope

parts_of : (es : List Enumeration) (cs : Calls) (ss : List PlainSystem) (steps i : ℕ) (trace : Trace) → Behaves es cs ss steps i trace
    → ((j : ℕ) → j < steps → Suits es (sorts_of (variables_in (system_at ss i))) (trace j)) × FormulasHold cs steps (system_at ss i) trace
parts_of es cs ss steps i trace (behaves lt values own _) = (values, own)

some_and : {X : Type 0} (P : X → Type 0) (o : Option X) (a : X) → o ≡ Some a → P a → IsSomeAnd o P
some_and P o a e h = subst (λ p. IsSomeAnd p P) (sym e) h

and_some : {X : Type 0} (P : X → Type 0) (o : Option X) (a : X) → o ≡ Some a → IsSomeAnd o P → P a
and_some P o a e h = subst (λ p. IsSomeAnd p P) e h

module _ (lines : List Line) (well : IsWellFormed lines) where
  -- ---- bad lines

  -- the argument of the bad line that a query asks for
  record Asked (j : ℕ) (q : Query) : Type 0 where
    line : Line
    argument : Arg
    args : line.args ≡ argument ∷ []
    is : q ≡ query_of j
    wide : 1 ≤ width_at lines argument.line
    bad : slice_get (operands is_bad lines) j ≡ Some argument
    formula : formula_at (reachables_from (number_of lines) 0 (lines_in is_bad lines)) j ≡ is_one (operand_term (number_of lines) (first_of line))

  asked : (j : ℕ) (q : Query) → slice_get (check_of lines).queries j ≡ Some q → Asked j q
  asked j q h =
      let r = query_at 0 (lines_in is_bad lines) j q h in
      let p = picked is_bad lines j r.0 r.1 in
      let a = bad_argument lines well p.place r.0 p.there p.is in
      record {
        line = r.0;
        argument = a.0;
        args = a.1;
        is = r.2 ∙ ap query_of (let e : 0 + j ≡ j = omega arith in e);
        wide = a.2;
        bad = ap (λ xs. slice_get xs j) (bads_are lines (λ k l g e. let b = bad_argument lines well k l g e in (b.0, b.1))) ∙ slice_get-map first_of (lines_in is_bad lines) j ∙ ap (option_map first_of) r.1
            ∙ ap (λ xs. Some (slice_index_or xs 0 (let b : Arg = record { line = 0; negated = false } in b))) a.1;
        formula = reachable_at (number_of lines) 0 (lines_in is_bad lines) j r.0 r.1;
      }

  -- ---- from frames to a trace

  module _ (k : ℕ) (rows : List (List BitVector)) (sized : length rows ≡ k + 1) (frames : AreFrames lines rows) where
    abbrev pub trace_of : Trace
    trace_of i = values_of lines (row_at rows i)

    pub frame_at : (i : ℕ) → i < k + 1 → IsFrame lines (row_at rows i)
    frame_at i lt = path_frame lines rows frames.0 i (omega (arith, sized, lt))

    equations_at : (i : ℕ) → i < k + 1 → EquationsHold lines (row_at rows i)
    equations_at i lt n l h e =
        one_solution (take n lines) (row_at rows i) l.sort l.op l.args (word_at (row_at rows i) n) nothing ((frame_at i lt).meets.by_line n l h)
        ∙ local_word_of (take n lines) (row_at rows i) l.sort l.op l.args (word_at (row_at rows i) n) nothing e

    formulas : FormulasHold calls (k + 1) (system_of lines) trace_of
    formulas = record {
      init =
          let f = frame_at 0 (omega arith) in
          init_holds lines well (row_at rows 0) (wide lines (row_at rows 0) well f.meets) calls (trace_of 0) (trace_of 0) (values_agree lines well (row_at rows 0)) (path_init lines rows frames.0);
      trans = λ j lt.
          let f = frame_at j (omega (arith, lt)) in
          trans_holds lines well (row_at rows j) (wide lines (row_at rows j) well f.meets) calls (trace_of j) (trace_of (j + 1)) (values_agree lines well (row_at rows j)) (row_at rows (j + 1)) (values_agree lines well (row_at rows (j + 1)))
          (path_next lines rows frames.0 j (omega (arith, sized, lt)));
      inv = λ j lt.
          let f = frame_at j lt in
          inv_holds lines well (row_at rows j) (wide lines (row_at rows j) well f.meets) calls (trace_of j) (trace_of j) (values_agree lines well (row_at rows j)) (equations_at j lt) (row_all (ConstraintsHold lines) rows j frames.1 (omega (arith, sized, lt)));
    }

    behaving : Behaves [] calls (system_of lines ∷ []) (k + 1) 0 trace_of
    behaving = behaves (omega arith) (λ j lt. values_suit lines well (row_at rows j) (wide lines (row_at rows j) well (frame_at j lt).meets)) formulas no_subsystems

    reaching : (j : ℕ) (q : Query) (a : Asked j q) → AtLast (λ row. IsBad lines row j) rows → Holds calls (trace_of k) (trace_of k) (formula_at (reachables_from (number_of lines) 0 (lines_in is_bad lines)) j)
    reaching j q a last =
        let f = frame_at k (omega arith) in
        let b = row_last (λ row. IsBad lines row j) rows k (let e : length rows ≡ suc k = omega (arith, sized) in e) last in
        subst (λ (t : Tree). Holds calls (trace_of k) (trace_of k) t) (sym a.formula)
        (true_holds lines well (row_at rows k) (wide lines (row_at rows k) well f.meets) calls (trace_of k) (trace_of k) (values_agree lines well (row_at rows k)) a.line.args a.argument a.args a.wide
        (and_some (λ b. operand (row_at rows k) b ≡ true_word) (slice_get (operands is_bad lines) j) a.argument a.bad b))

    meeting : (j : ℕ) (q : Query) (a : Asked j q) → AtLast (λ row. IsBad lines row j) rows → MeetsQuery (import_of lines) q k trace_of
    meeting j q a last =
        let r = reaching j q a last in
        subst (λ (x : Query). MeetsQuery (import_of lines) x k trace_of) (sym a.is)
        (record {
          behaves = behaving;
          assumptions = λ i le. tt;
          currents = tt;
          reached = ((k, (omega arith), r), tt);
          reached_last = (0, j, (omega arith), refl, r);
        })

    words_of : HasWordsOf lines k rows trace_of
    words_of = record { words = λ i n l le h w. values_agree lines well (row_at rows i) n l h w }

  pub frames_are_traces_law : (j k : ℕ) (q : Query) → slice_get (check_of lines).queries j ≡ Some q → (rows : List (List BitVector)) → AreBadFrames lines j k rows → (trace : Trace) × HasWordsOf lines k rows trace × MeetsQuery (import_of lines) q k trace
  frames_are_traces_law j k q h rows f =
      (trace_of k rows f.sized f.frames, words_of k rows f.sized f.frames, meeting k rows f.sized f.frames j q (asked j q h) f.bad)

  -- ---- from a trace to frames

  module _ (k : ℕ) (trace : Trace) (b : Behaves [] calls (system_of lines ∷ []) (k + 1) 0 trace) where
    abbrev row : ℕ → List BitVector
    row i = row_of lines (trace i)

    abbrev all_rows : List (List BitVector)
    all_rows = rows_from row 0 (suc k)

    suits : (i : ℕ) → i < k + 1 → Suits [] (sorts_of (variables_in (system_of lines))) (trace i)
    suits i lt = (parts_of [] calls (system_of lines ∷ []) (k + 1) 0 trace b).0 i lt

    holding : FormulasHold calls (k + 1) (system_of lines) trace
    holding = (parts_of [] calls (system_of lines ∷ []) (k + 1) 0 trace b).1

    framed : (i : ℕ) → i < k + 1 → IsFrame lines (row i)
    framed i lt =
        let s = suits i lt in
        row_frame lines well (trace i) s (equations_hold lines well (row i) (row_wide lines well (trace i) s) calls (trace i) (trace i) (row_agrees lines well (trace i) s) (holding.inv i lt))

    constrained : (i : ℕ) → i < k + 1 → ConstraintsHold lines (row i)
    constrained i lt = let s = suits i lt in constraints_hold lines well (row i) (row_wide lines well (trace i) s) calls (trace i) (trace i) (row_agrees lines well (trace i) s) (holding.inv i lt)

    begun : InitsHold lines (row 0)
    begun = let s = suits 0 (omega arith) in inits_hold lines well (row 0) (row_wide lines well (trace 0) s) calls (trace 0) (trace 0) (row_agrees lines well (trace 0) s) holding.init

    stepped : (i : ℕ) → i + 1 < k + 1 → NextsHold lines (row i) (row (i + 1))
    stepped i lt =
        let s = suits i (omega (arith, lt)) in
        nexts_hold lines well (row i) (row_wide lines well (trace i) s) calls (trace i) (trace (i + 1)) (row_agrees lines well (trace i) s) (row (i + 1)) (row_agrees lines well (trace (i + 1)) (suits (i + 1) lt)) (holding.trans i lt)

    are_frames : AreFrames lines all_rows
    are_frames = (
      (
        framed 0 (omega arith),
        begun,
        rows_follow lines row 0 k (λ j lt. framed j (omega (arith, lt))) (λ j lt. stepped j (omega (arith, lt))),
      ),
      rows_all (ConstraintsHold lines) row 0 (suc k) (λ j lt. constrained j (omega (arith, lt))),
    )

    are_long : length all_rows ≡ k + 1
    are_long = rows_long row 0 (suc k) ∙ (let e : suc k ≡ k + 1 = omega arith in e)

    have_words : HasWordsOf lines k all_rows trace
    have_words = record {
      words = λ i n l le h w.
          row_agrees lines well (trace i) (suits i (omega (arith, le))) n l h w
          ∙ ap (λ r. Bits (word_at r n)) (sym (row_is row 0 (suc k) i (omega (arith, le)) ∙ ap row (let e : 0 + i ≡ i = omega arith in e)));
    }

    bad_last : (j : ℕ) (q : Query) (a : Asked j q) → Holds calls (trace k) (trace k) (formula_at (reachables_from (number_of lines) 0 (lines_in is_bad lines)) j) → AtLast (λ r. IsBad lines r j) all_rows
    bad_last j q a h =
        let s = suits k (omega arith) in
        rows_last (λ r. IsBad lines r j) row 0 k
        (subst (λ i. IsBad lines (row i) j) (let e : k ≡ 0 + k = omega arith in e)
        (some_and (λ c. operand (row k) c ≡ true_word) (slice_get (operands is_bad lines) j) a.argument a.bad
        (holds_true lines well (row k) (row_wide lines well (trace k) s) calls (trace k) (trace k) (row_agrees lines well (trace k) s) a.line.args a.argument a.args a.wide (subst (λ (t : Tree). Holds calls (trace k) (trace k) t) a.formula h))))

  pub traces_have_words_law : (k : ℕ) (trace : Trace) → Behaves [] calls (system_of lines ∷ []) (k + 1) 0 trace → (rows : List (List BitVector)) × (length rows ≡ k + 1) × AreFrames lines rows × HasWordsOf lines k rows trace
  traces_have_words_law k trace b = (all_rows k trace b, are_long k trace b, are_frames k trace b, have_words k trace b)

  reached_at : (j k : ℕ) (trace : Trace) → MeetsQuery (import_of lines) (query_of j) k trace → Holds calls (trace k) (trace k) (formula_at (reachables_from (number_of lines) 0 (lines_in is_bad lines)) j)
  reached_at j k trace m = by m.reached_last
    where
      by : Any (λ r. Holds calls (trace k) (trace k) (formula_at (reachables_from (number_of lines) 0 (lines_in is_bad lines)) r)) (j ∷ []) → Holds calls (trace k) (trace k) (formula_at (reachables_from (number_of lines) 0 (lines_in is_bad lines)) j)
      by (zero, x, lt, e, h) = subst (λ r. Holds calls (trace k) (trace k) (formula_at (reachables_from (number_of lines) 0 (lines_in is_bad lines)) r)) (sym e) h
      by (suc n, x, lt, e, h) = absurd (omega (arith, lt))

  pub traces_are_frames_law : (j k : ℕ) (q : Query) → slice_get (check_of lines).queries j ≡ Some q → (trace : Trace) → MeetsQuery (import_of lines) q k trace → (rows : List (List BitVector)) × HasWordsOf lines k rows trace × AreBadFrames lines j k rows
  traces_are_frames_law j k q h trace m =
      let a = asked j q h in
      let n = subst (λ (x : Query). MeetsQuery (import_of lines) x k trace) a.is m in
      let b = n.behaves in (
        all_rows k trace b,
        have_words k trace b,
        record { sized = are_long k trace b; frames = are_frames k trace b; bad = bad_last k trace b j q a (reached_at j k trace n) },
      )
