-- The judge accepts the witness of a trace exactly where the trace meets the query: the frames that the witness states read the values
-- of the trace, whatever the states of the step before are in frame 0, where they count for nothing.
use Rattle.std.proofs.Common.{◌≡◌, ◌≢◌, ℕ, zero, suc, ◌+◌, ◌-◌, ◌<◌, ◌≤◌, Bool, true, false, List, [], ◌∷◌, length, map, Some, refl, ap, ◌∙◌, subst, arith}
use Rattle.std.specs.Prelude.{slice_get, IsSomeAnd, IsTrue}
use Rattle.std.specs.List.{AllByRecursion}
use Rattle.std.proofs.lemmas.List.{length-map}
use Rattle.std.proofs.lemmas.Option.{none-some}
use Rattle.word_core.specs.Words.{BitVector}
use Rattle.btor_tree.specs.declared.lines.Line.{Line}
use Rattle.btor_tree.specs.Fits.{is_input, is_state, width_at}
use Rattle.btor_tree.specs.Frame.{ConstraintsHold, IsBad, IsFrame, IsPath}
use Rattle.btor_tree.proofs.Grows.{slice_get_inside}
use Rattle.btor_frames.specs.Judged.{AreStatedAfter, IsStatedFrame, PassAfter, Statement, StatesAgree, stated_or}
use Rattle.btor_witness.specs.declared.witness.Frame.{Frame}
use Rattle.btor_witness.specs.Judging.{statement_of}
use Rattle.btor_witness.specs.Printing.{IsPart, IsWitness, value_of}
use Rattle.btor_witness.specs.Sizes.{sizes_of, widths_of}
use Rattle.moxi_terms.specs.declared.data.Datum.{Datum}
use Rattle.moxi_terms.specs.Tree.{sorts_of}
use Rattle.moxi_terms.specs.Value.{at}
use Rattle.moxi_terms.proofs.ValueLaws.{fit_at}
use Rattle.moxi_scripts.specs.declared.script.Query.{Query}
use Rattle.moxi_scripts.specs.Behaviour.{Suits, trace_of}
use Rattle.moxi_scripts.specs.Valid.{IsValidQuery}
use Rattle.moxi_scripts.specs.laws.WholeParts.{all_at, get_there}
use Rattle.moxi_flat.specs.FlatMeeting.{MeetsFlat}
use Rattle.moxi_flat.specs.FlatSystem.{PlainFlatSystem}
use Rattle.moxi_layout.specs.Layout.{input_at}
use Rattle.moxi_layout.specs.LayoutLaws.{AtLast, IsLaidOut, decoded_trace}
use Rattle.moxi_layout.proofs.Entries.{input_there, sorts_long}
use Rattle.moxi_layout.proofs.Frames.{meet_frames}
use Rattle.moxi_layout.proofs.Rows.{get_last, path_rows, row_at, rows_all}
use Rattle.moxi_layout.proofs.Same.{meets_same}
use Rattle.moxi_layout.proofs.Stated.{stated_there}
use Rattle.moxi_layout.proofs.Terms.{agree_back}
use Rattle.moxi_layout.proofs.Values.{ReadsValues, read_inside, read_values}
use Rattle.moxi_lift.specs.Laws.{LiftsMeetQueries, MeetsQueryOf}
use Rattle.moxi_lower.specs.Laws.{AreSteps, LoweredAreJudged, LoweredAreLifted, LoweredAreWitnesses}
use Rattle.moxi_lower.specs.Lowered.{codes_upto, lowered, lowered_step}
use Rattle.moxi_lower.proofs.Codes.{code_stated}
use Rattle.moxi_lift.proofs.Lifts.{YesWhereAccepted}
use Rattle.moxi_layout.proofs.Accepted.{rows_long, rows_follow}

-- ---- the frames that a witness states

module _ (lines : List Line) where
  rows_path : (stated : List Statement) (rows : List (List BitVector)) → stated ≢ [] → AreStatedAfter lines false [] stated rows → IsPath lines rows
  rows_path [] rows some a = absurd (some refl)
  rows_path (s ∷ more) [] some a = absurd a
  rows_path (s ∷ more) (row ∷ rows) some a = (a.0.frame, a.0.values, rows_follow lines row more rows a.1)

module _ (f : PlainFlatSystem) (lines : List Line) (laid : IsLaidOut f lines) where
  frames_there : (begun : Bool) (before : List BitVector) → (IsTrue begun → IsFrame lines before) → (frames : List Frame)
      → AllByRecursion (λ (x : Frame). IsPart (widths_of is_input lines) x.inputs) frames → AllByRecursion (λ (x : Frame). IsPart (widths_of is_state lines) x.states) frames
      → (rows : List (List BitVector)) × AreStatedAfter lines begun before (map statement_of frames) rows
  frames_there begun before framed [] a b = ([], tt)
  frames_there begun before framed (x ∷ frames) a b =
      let y = stated_there lines begun before x laid.well_formed framed a.0 b.0 in
      let rest = frames_there true y.0 (λ t. y.1.frame) frames a.1 b.1 in
      (y.0 ∷ rest.0, (y.1, rest.1))

-- ---- those of a trace

abbrev frames_of : PlainFlatSystem → List (List Datum) → List Frame
frames_of f envs = map (lowered_step f.scope.enumerations (length f.variables)) envs

abbrev stated_by : PlainFlatSystem → List (List Datum) → List Statement
stated_by f envs = map statement_of (frames_of f envs)

module _ (f : PlainFlatSystem) (lines : List Line) (laid : IsLaidOut f lines) where
  -- a frame reads the values of its step
  frame_reads : (begun : Bool) (before : List BitVector) (env : List Datum) (row : List BitVector)
      → IsStatedFrame lines begun before (statement_of (lowered_step f.scope.enumerations (length f.variables) env)) row → ReadsValues f lines laid row (at env)
  frame_reads begun before env row is =
      record {
        each = λ v s g.
            let es = f.scope.enumerations in
            let n = length f.variables in
            let p = input_at lines v in
            let x = input_there f lines laid.lays.order v s g in
            let inside : v < n = omega (arith, slice_get_inside (sorts_of f.variables) v s g, sorts_long f.variables) in
            is.inputs p x.0 x.1.there x.1.is ∙ ap (λ k. stated_or (value_of (codes_upto es (at env) n) k) (width_at lines p)) x.1.number
            ∙ ap (λ o. stated_or o (width_at lines p)) (code_stated es (at env) n v inside);
      }

  frames_read : (begun : Bool) (before : List BitVector) (envs : List (List Datum)) (rows : List (List BitVector)) → AreStatedAfter lines begun before (stated_by f envs) rows
      → (i : ℕ) → i < length envs → ReadsValues f lines laid (row_at rows i) (trace_of envs i)
  frames_read begun before [] rows a i h = absurd (omega (arith, h))
  frames_read begun before (env ∷ envs) [] a i h = absurd a
  frames_read begun before (env ∷ envs) (row ∷ rows) a zero h = frame_reads begun before env row a.0
  frames_read begun before (env ∷ envs) (row ∷ rows) a (suc i) h = frames_read true row envs rows a.1 i (omega (arith, h))

  steps_suit : (envs : List (List Datum)) → AreSteps f envs → (i : ℕ) → i < length envs → Suits f.scope.enumerations (sorts_of f.variables) (trace_of envs i)
  steps_suit [] fit i h = absurd (omega (arith, h))
  steps_suit (env ∷ envs) fit zero h = record { each = λ v s g. fit_at f.scope.enumerations (sorts_of f.variables) env v s fit.0 g }
  steps_suit (env ∷ envs) fit (suc i) h = steps_suit envs fit.1 i (omega (arith, h))

  -- no state is stated, so that none can differ
  none_differs : (begun : Bool) (env : List Datum) (row : List BitVector) → StatesAgree lines begun (statement_of (lowered_step f.scope.enumerations (length f.variables) env)) row
  none_differs begun env row i l a x g e v s = absurd (none-some x s)

  frames_pass : (j : ℕ) (begun : Bool) (before : List BitVector) (envs : List (List Datum)) (rows : List (List BitVector)) → AreStatedAfter lines begun before (stated_by f envs) rows
      → AllByRecursion (ConstraintsHold lines) rows → AtLast (λ row. IsBad lines row j) rows → PassAfter lines j begun (stated_by f envs) rows
  frames_pass j begun before [] [] a c b = absurd b
  frames_pass j begun before [] (row ∷ rows) a c b = absurd a
  frames_pass j begun before (env ∷ envs) [] a c b = absurd a
  frames_pass j begun before (env ∷ []) (row ∷ []) a c b = (none_differs begun env row, c.0, b)
  frames_pass j begun before (env ∷ []) (row ∷ next ∷ rows) a c b = absurd a.1
  frames_pass j begun before (env ∷ e ∷ envs) (row ∷ []) a c b = absurd a.1
  frames_pass j begun before (env ∷ e ∷ envs) (row ∷ next ∷ rows) a c b =
      (none_differs begun env row, c.0, frames_pass j true row (e ∷ envs) (next ∷ rows) a.1 c.1 b)

  stated_long : (envs : List (List Datum)) → length (stated_by f envs) ≡ length envs
  stated_long envs = length-map (frames_of f envs) statement_of ∙ length-map envs (lowered_step f.scope.enumerations (length f.variables))

  stated_some : (envs : List (List Datum)) → 1 ≤ length envs → stated_by f envs ≢ []
  stated_some [] some e = omega (arith, some)
  stated_some (env ∷ envs) some e = absurd (cc)

  -- where the trace meets the query, the frames pass
  meeting_passes : (j k : ℕ) (envs : List (List Datum)) → length envs ≡ k + 1 → AreSteps f envs → (q : Query) → slice_get f.queries j ≡ Some q → MeetsFlat f q k (trace_of envs)
      → (rows : List (List BitVector)) → AreStatedAfter lines false [] (stated_by f envs) rows → PassAfter lines j false (stated_by f envs) rows
  meeting_passes j k envs sized fit q g m rows a =
      let long : length rows ≡ k + 1 = rows_long lines false [] (stated_by f envs) rows a ∙ stated_long envs ∙ sized in
      let path = path_rows lines rows k (rows_path lines (stated_by f envs) rows (stated_some envs (omega (arith, sized))) a) long in
      let suits = λ (i : ℕ) (l : i ≤ k). steps_suit envs fit i (omega (arith, l, sized)) in
      let reads = λ (i : ℕ) (l : i ≤ k). frames_read false [] envs rows a i (omega (arith, l, sized)) in
      let agree = λ (i : ℕ) (l : i ≤ k). read_values f lines laid (row_at rows i) (trace_of envs i) (suits i l) (reads i l) in
      let whole = all_at (IsValidQuery (length f.assumptions) (length f.currents) (length f.reachables)) f.queries j q laid.sorted.queries g in
      let same : MeetsFlat f q k (decoded_trace f lines rows) =
      meets_same f laid.sorted k (trace_of envs) (decoded_trace f lines rows) (λ i l. agree_back (sorts_of f.variables) (decoded_trace f lines rows i) (trace_of envs i) (agree i l)) q whole m in
      let x = meet_frames f lines laid k (row_at rows) path j q g (λ i l. read_inside f lines laid (row_at rows i) (trace_of envs i) (suits i l) (reads i l)) same in
      frames_pass j false [] envs rows a (rows_all (ConstraintsHold lines) rows (λ i l. x.0 i (omega (arith, l, long)))) (get_last (λ row. IsBad lines row j) rows k long x.1)

met_at : (f : PlainFlatSystem) (j : ℕ) (envs : List (List Datum)) (q : Query) → slice_get f.queries j ≡ Some q → MeetsQueryOf f j envs → MeetsFlat f q (length envs - 1) (trace_of envs)
met_at f j envs q e m = subst (λ o. IsSomeAnd o (λ x. MeetsFlat f x (length envs - 1) (trace_of envs))) e m

pub lowered_are_judged_law : LoweredAreLifted → LoweredAreWitnesses → LiftsMeetQueries → YesWhereAccepted → LoweredAreJudged
lowered_are_judged_law lifts witnesses meets accepted f lines laid j there envs some fit =
    let w = lowered f j envs in
    let is : IsWitness (sizes_of lines) w = witnesses f lines laid j there envs some fit in (
      λ judged. subst (MeetsQueryOf f j) (lifts f j envs fit) (meets f lines laid w is judged),
      λ met.
          let q = get_there f.queries j there in
          let sized : length envs ≡ (length envs - 1) + 1 = omega (arith, some) in
          let x = frames_there f lines laid false [] (λ t. absurd (let z : false ≡ true = t in cc)) w.frames is.inputs is.states in
          (accepted lines w is.some).1 (x.0, x.1, meeting_passes f lines laid j (length envs - 1) envs sized fit q.0 q.1 (met_at f j envs q.0 q.1 met) x.0 x.1),
    )
