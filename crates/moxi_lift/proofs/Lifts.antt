-- A witness that the judge accepts is lifted to a trace that meets the query of its bad line.
use Rattle.std.proofs.Common.{◌≡◌, ◌≢◌, ◌↔◌, ℕ, zero, suc, ◌-◌, ◌<◌, false, List, [], ◌∷◌, length, map, Some, None, Option, refl, sym, ap, ◌∙◌, subst, arith}
use Rattle.std.specs.Prelude.{slice_get, slice_index_or, IsSomeAnd}
use Rattle.std.proofs.lemmas.List.{length-map}
use Rattle.text_core.specs.declared.verdict.Verdict.TheVariants.{Yes}
use Rattle.word_core.specs.Words.{BitVector}
use Rattle.btor_tree.specs.declared.lines.Line.{Line}
use Rattle.btor_tree.specs.Fits.{is_bad, operands}
use Rattle.btor_tree.specs.Frame.{IsBad}
use Rattle.btor_tree.proofs.Grows.{slice_get_inside}
use Rattle.btor_frames.specs.Judged.{PassAfter}
use Rattle.btor_witness.specs.declared.witness.Frame.{Frame}
use Rattle.btor_witness.specs.declared.witness.Witness.{Witness}
use Rattle.btor_witness.specs.Judging.{judged_btor, stated_frames, statement_of, statements_of}
use Rattle.moxi_terms.specs.declared.data.Datum.{Datum}
use Rattle.moxi_terms.specs.Tree.{sorts_of}
use Rattle.moxi_terms.specs.Value.{at}
use Rattle.moxi_scripts.specs.declared.script.Query.{Query}
use Rattle.moxi_scripts.specs.laws.WholeParts.{all_at, get_there}
use Rattle.moxi_flat.specs.FlatMeeting.{MeetsFlat}
use Rattle.moxi_flat.specs.FlatSystem.{PlainFlatSystem}
use Rattle.moxi_layout.specs.LayoutLaws.{AtLast, BadsAreQueries, FramesAreTraces, decoded_trace}
use Rattle.moxi_layout.specs.Layout.{now_values}
use Rattle.moxi_layout.proofs.Entries.{sorts_long}
use Rattle.moxi_layout.proofs.Same.{meets_same}
use Rattle.moxi_layout.proofs.Terms.{Agree}
use Rattle.moxi_lift.specs.Lifted.{decoded_frames, lifted, values_upto}
use Rattle.moxi_lift.specs.Laws.{LiftsAreDecoded, LiftsMeetQueries, MeetsQueryOf}
use Rattle.moxi_lift.proofs.Accepted.{bad_frames}
use Rattle.moxi_lift.proofs.Upto.{at_upto}
use Rattle.moxi_scripts.specs.Behaviour.{trace_of}

map_read : {X Y : Type 0} (g : X → Y) (xs : List X) (j : ℕ) (x : X) (y : Y) → j < length xs → slice_index_or (map g xs) j y ≡ g (slice_index_or xs j x)
map_read g [] j x y h = absurd (omega (arith, h))
map_read g (z ∷ xs) zero x y h = refl
map_read g (z ∷ xs) (suc j) x y h = map_read g xs j x y (omega (arith, h))

-- the decoded steps have the values of the trace of the frames
steps_agree : (f : PlainFlatSystem) (lines : List Line) (rows : List (List BitVector)) (j : ℕ) → j < length rows → Agree (sorts_of f.variables) (decoded_trace f lines rows j) (trace_of (decoded_frames f lines rows) j)
steps_agree f lines rows j h = record {
  each = λ v s g.
      let inside : v < length f.variables = omega (arith, slice_get_inside (sorts_of f.variables) v s g, sorts_long f.variables) in
      let step : List BitVector → List Datum = λ row. values_upto (now_values f lines row) (length f.variables) in
      sym (ap (λ env. at env v) (map_read step rows j [] [] h) ∙ at_upto (now_values f lines (slice_index_or rows j [])) (length f.variables) v inside);
}

some_there : {X : Type 0} (o : Option X) (P : X → Type 0) → IsSomeAnd o P → (x : X) × (o ≡ Some x)
some_there None P h = absurd h
some_there (Some x) P h = (x, refl)

-- a bad line that is true in some frame is there
bad_there : (lines : List Line) (j : ℕ) (rows : List (List BitVector)) → AtLast (λ row. IsBad lines row j) rows → j < length (operands is_bad lines)
bad_there lines j [] h = absurd h
bad_there lines j (row ∷ []) h =
    let a = some_there (slice_get (operands is_bad lines) j) _ h in
    slice_get_inside (operands is_bad lines) j a.0 a.1
bad_there lines j (row ∷ next ∷ rows) h = bad_there lines j (next ∷ rows) h

meets_at : (f : PlainFlatSystem) (j : ℕ) (envs : List (List Datum)) (q : Query) → slice_get f.queries j ≡ Some q → MeetsFlat f q (length envs - 1) (trace_of envs) → MeetsQueryOf f j envs
meets_at f j envs q e m = subst (λ o. IsSomeAnd o (λ x. MeetsFlat f x (length envs - 1) (trace_of envs))) (sym e) m

no_statements : (frames : List Frame) → frames ≢ [] → map statement_of frames ≢ []
no_statements [] some e = some refl
no_statements (x ∷ frames) some e = absurd (cc)

-- the verdict is `Yes` exactly where the frames that a witness states pass
abbrev pub YesWhereAccepted : Type 0
YesWhereAccepted = (lines : List Line) (w : Witness) → w.frames ≢ [] → judged_btor lines w Yes ↔ ((rows : List (List BitVector)) × stated_frames lines w rows × PassAfter lines w.bad false (statements_of w) rows)

pub lifts_meet_queries_law : LiftsAreDecoded → YesWhereAccepted → BadsAreQueries → FramesAreTraces → LiftsMeetQueries
lifts_meet_queries_law decoded accepted bads traces f lines laid w is judged =
    let found = (accepted lines w is.some).0 judged in
    let rows = found.0 in
    let k = length rows - 1 in
    let bad = bad_frames lines w.bad (statements_of w) rows (no_statements w.frames is.some) found.1 found.2 in
    let inside : w.bad < length f.queries = omega (arith, bad_there lines w.bad rows bad.bad, bads f lines laid.lays) in
    let q = get_there f.queries w.bad inside in
    let whole = all_at _ f.queries w.bad q.0 laid.sorted.queries q.1 in
    let sized = bad.sized in
    let met = meets_same f laid.sorted k (decoded_trace f lines rows) (trace_of (decoded_frames f lines rows))
    (λ j l. steps_agree f lines rows j (omega (arith, l, sized))) q.0 whole (traces f lines laid w.bad k q.0 q.1 rows bad) in
    let step : List BitVector → List Datum = λ row. values_upto (now_values f lines row) (length f.variables) in
    let long : length (decoded_frames f lines rows) ≡ length rows = length-map rows step in
    let here : MeetsFlat f q.0 (length (decoded_frames f lines rows) - 1) (trace_of (decoded_frames f lines rows)) =
    subst (λ n. MeetsFlat f q.0 (n - 1) (trace_of (decoded_frames f lines rows))) (sym long) met in
    meets_at f w.bad (lifted f w) q.0 q.1
    (subst (λ envs. MeetsFlat f q.0 (length envs - 1) (trace_of envs)) (sym (decoded f lines laid.lays w rows found.1)) here)
