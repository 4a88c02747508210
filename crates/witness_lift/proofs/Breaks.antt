-- The run to which a witness is lifted breaks the invariant of the witness's bad line.
use Rattle.std.proofs.Common.{◌≡◌, ℕ, zero, suc, ◌-◌, ◌<◌, List, [], ◌∷◌, length, Option, Some, refl, sym, ap, ◌∙◌, subst, arith}
use Rattle.std.specs.Prelude.{IsSomeAnd, slice_get}
use Rattle.std.proofs.Math.Logic.{∥∥₁_map}
use Rattle.std.proofs.lemmas.List.{length-map}
use Rattle.btor_witness.specs.declared.witness.Witness.{Witness}
use Rattle.smv_text.specs.Tree.{PlainSource}
use Rattle.smv_meaning.specs.declared.value.Run.{Run}
use Rattle.smv_flat.specs.FlatForms.{PlainFlat, flat_smv}
use Rattle.smv_flatten.specs.FlatModel.{FlatModel, IsFormOf}
use Rattle.smv_script.specs.Script.{coding_of, script_for, script_of}
use Rattle.smv_script_laws.specs.Decoding.{run_of}
use Rattle.smv_script_laws.specs.RunLaws.{HasQueries, TracesAreRuns, decoded_run}
use Rattle.smv_script_laws.specs.ValidLaws.{ScriptsAreValid}
use Rattle.moxi_terms.specs.declared.data.Datum.{Datum}
use Rattle.moxi_scripts.specs.declared.script.Query.{Query}
use Rattle.moxi_flat.specs.FlatMeeting.{MeetsFlat}
use Rattle.moxi_flat.specs.FlatSystem.{flat_of}
use Rattle.moxi_flat.specs.FlatLaws.{TracesHaveFlatTraces}
use Rattle.moxi_lift.specs.Laws.{MeetsQueryOf}
use Rattle.witness_lift.specs.Breaking.{BreaksIn, BreaksLast, TracesBreakInvariants}
use Rattle.witness_lift.specs.Lifting.{run_in, system_in}
use Rattle.witness_lift.proofs.Lifts.{IsLiftedIn}
use Rattle.moxi_scripts.specs.Behaviour.{trace_of}
use Rattle.moxi_scripts.specs.Script.{query_of}

-- ---- the law

there : {X : Type 0} (P : X → Type 0) (xs : List X) (j : ℕ) → IsSomeAnd (slice_get xs j) P → j < length xs
there P [] j h = absurd h
there P (x ∷ xs) zero h = omega arith
there P (x ∷ xs) (suc j) h = let l = there P xs j h in omega (arith, l)

at_some : {X : Type 0} (P : X → Type 0) (o : Option X) (x : X) → o ≡ Some x → IsSomeAnd o P → P x
at_some P o x e h = subst (λ o. IsSomeAnd o P) e h

pub breaks : ScriptsAreValid → TracesHaveFlatTraces → TracesAreRuns → ((source : PlainSource) → HasQueries source) → TracesBreakInvariants
breaks whole flat runs queries source needed read accepted j envs h =
    let k = length envs - 1 in
    let s = script_for source in
    let P : Query → Type 0 = λ q. MeetsFlat (flat_of s) q k (trace_of envs) in
    let few : j < length s.check.queries = there P s.check.queries j h in
    let met : P (query_of j) = at_some P (slice_get s.check.queries j) (query_of j) ((queries source).each j (subst (λ (n : ℕ). j < n) (queries source).counted few)) h in
    let is = whole source read.end read.text read.tokens read.lexed read.spelled needed accepted in
    runs source read.end read.text read.tokens read.lexed read.spelled needed accepted j k (trace_of envs)
    ((flat s is (query_of j) k (trace_of envs)).1 (record { flat = trace_of envs; extends = record { each = λ i v a b. refl }; meets = met }))

-- ---- the run of a flat form

run_is : (source : PlainSource) (f : FlatModel) → IsFormOf source f → (envs : List (List Datum)) → run_in f envs ≡ decoded_run source (trace_of envs) (length envs - 1)
run_is source f m envs =
    ap (λ (x : PlainFlat). run_of x (coding_of x f.width) (trace_of envs) (length envs - 1)) m.form
    ∙ ap (λ (n : ℕ). run_of (flat_smv source) (coding_of (flat_smv source) n) (trace_of envs) (length envs - 1)) m.width

system_is : (source : PlainSource) (f : FlatModel) → IsFormOf source f → system_in f ≡ flat_of (script_for source)
system_is source f m =
    ap (λ (x : PlainFlat). flat_of (script_of x f.width)) m.form
    ∙ ap (λ (n : ℕ). flat_of (script_of (flat_smv source) n)) m.width

breaks_last : TracesBreakInvariants → (f : FlatModel) (w : Witness) (envs : List (List Datum)) → IsLiftedIn f w envs → BreaksLast f w (run_in f envs)
breaks_last law f w envs l source m =
    let count : length envs - 1 ≡ length w.frames - 1 = ap (λ n. n - 1) (ap length l.exact ∙ length-map w.frames _) in
    ∥∥₁_map l.meets (λ h.
    subst (λ (k : ℕ). BreaksIn source w.bad k (run_in f envs)) count
    (subst (λ (run : Run). BreaksIn source w.bad (length envs - 1) run) (sym (run_is source f m envs))
    (law source m.needed m.read m.accepted w.bad envs (subst (λ g. MeetsQueryOf g w.bad envs) (system_is source f m) h))))

pub breaks_answered : TracesBreakInvariants → (f : FlatModel) (w : Witness) (envs : List (List Datum)) (run : Run) → IsLiftedIn f w envs → run ≡ run_in f envs → BreaksLast f w run
breaks_answered law f w envs run l r = subst (BreaksLast f w) (sym r) (breaks_last law f w envs l)
