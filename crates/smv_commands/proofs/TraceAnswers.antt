-- What is answered to a trace is what is defined of it, and files define one such answer.
use Rattle.std.proofs.Common.{◌≡◌, ◌-◌, inl, inr, ℕ, List, [], ◌∷◌, Option, Result, Ok, Err, refl, sym, ap, ◌∙◌, length, subst}
use Rattle.std.specs.Prelude.{IfOk, IfErr, IfSome}
use Rattle.std.proofs.lemmas.List.{length-map}
use Rattle.text_core.specs.Outside.{Files}
use Rattle.text_core.specs.declared.place.Refusal.{Refusal}
use Rattle.text_core.specs.declared.verdict.Verdict.{Verdict}
use Rattle.text_core.specs.declared.verdict.Verdict.TheVariants.{Yes, No}
use Rattle.text_core.specs.declared.verdict.Clause.{Clause}
use Rattle.smv_text.specs.Tree.{PlainSource}
use Rattle.smv_flat.specs.FlatForms.{PlainFlat}
use Rattle.smv_flatten.specs.FlatModel.{FlatModel, flat_plain, IsFormOf, IsFlatOf}
use Rattle.smv_meaning.specs.declared.value.Run.{Run}
use Rattle.smv_numbered.specs.declared.run.NumberedRun.{NumberedRun}
use Rattle.smv_numbered.specs.Runs.{run_in, state_at}
use Rattle.smv_trace.specs.Answer.{declarations_of}
use Rattle.smv_trace.specs.Texts.{trace_of}
use Rattle.command_core.specs.declared.answer.Answer.{Answer}
use Rattle.command_core.specs.declared.answer.Answer.TheVariants as answer
use Rattle.command_core.specs.declared.answer.Output.TheVariants.{Broken}
use Rattle.command_core.specs.declared.answer.Stop.{Stop}
use Rattle.command_core.specs.Giving.{MayGive}
use Rattle.command_core.specs.Reading.{ContinuesWith, StopsWith, file_within}
use Rattle.command_core.specs.laws.Files.{goes_once}
use Rattle.command_core.specs.laws.Given.{also_ok, also_stop, of_each}
use Rattle.smv_models.specs.Limits.{most_smv_bytes}
use Rattle.smv_commands.specs.Limits.{most_trace_bytes}
use Rattle.smv_models.specs.Models.{IsCheckRefusal, IsFormIn, smv_too_long}
use Rattle.smv_commands.specs.SmvJudgement.{IsSmvJudgement, verdict_answer}
use Rattle.smv_commands.specs.Traces.{IsAnswerToTrace, IsRunAnswer, OfBytes, OfForm, OfModel, OfText, of_trace, trace_too_long}
use Rattle.trace_lower.specs.Laws.{declared_by}
use Rattle.trace_lower.specs.Lowered.{verdict_on}
use Rattle.smv_models.proofs.Checked.{not_checked, one_check_refusal}
use Rattle.smv_flatten.proofs.Forms.{form_is_flat}
use Rattle.smv_models.proofs.Sources.{same_model}

-- ---- flat forms

-- what a flat form declares is what its model declares
pub declared_same : (source : PlainSource) (f : FlatModel) → IsFormOf source f → declarations_of f ≡ declared_by source
declared_same source f form = ap (λ (x : PlainFlat). record { items = x.items; symbols = x.symbols }) form.form

-- ---- the second file

-- an answer to a file's bytes is also the other one
pub goes_also : (step : Result (List ℕ) Answer) (next other : List ℕ → Answer → Type 0) → ((bytes : List ℕ) (a : Answer) → next bytes a → other bytes a) → (a : Answer) → ContinuesWith step next a → ContinuesWith step other a
goes_also (Ok bytes) next other so a h = so bytes a h
goes_also (Err instead) next other so a h = h

module _ (answer_to : PlainSource → ℕ → Run → Verdict → Answer) where
  -- ---- one answer

  one_of_model : (files : Files) (second : List ℕ) (j : ℕ) (source : PlainSource) (a b : Answer) → OfModel answer_to files second j source a → OfModel answer_to files second j source b → a ≡ b
  one_of_model files second j source a b h k =
      goes_once (file_within files second most_trace_bytes trace_too_long) (OfText answer_to source j) (λ text a b h k. h ∙ sym k) a b h k

  one_of_bytes : (files : Files) (second : List ℕ) (j : ℕ) (bytes : List ℕ) (a b : Answer) → OfBytes answer_to files second j bytes a → OfBytes answer_to files second j bytes b → a ≡ b
  one_of_bytes files second j bytes a b (inl x) (inl y) =
      one_of_model files second j y.0 a b (subst (λ s. OfModel answer_to files second j s a) (same_model bytes x.0 y.0 x.1.is_model y.1.is_model) x.2) y.2
  one_of_bytes files second j bytes a b (inl x) (inr r) = absurd (not_checked bytes j r.0 x.0 r.1 x.1)
  one_of_bytes files second j bytes a b (inr r) (inl y) = absurd (not_checked bytes j r.0 y.0 r.1 y.1)
  one_of_bytes files second j bytes a b (inr r) (inr q) = r.2 ∙ ap answer.Refused (one_check_refusal bytes j r.0 q.0 r.1 q.1) ∙ sym q.2

  -- files define one answer to a trace
  pub one_answer_to_trace : (files : Files) (model second : List ℕ) (j : ℕ) (a b : Answer) → IsAnswerToTrace answer_to files model second j a → IsAnswerToTrace answer_to files model second j b → a ≡ b
  one_answer_to_trace files model second j a b h k =
      goes_once (file_within files model most_smv_bytes smv_too_long) (OfBytes answer_to files second j) (λ bytes a b h k. one_of_bytes files second j bytes a b h k) a b h k

  -- ---- what is answered to a trace

  read_for : (source : PlainSource) (f : FlatModel) (text : List ℕ) (read : Result Run Refusal) → IsFormOf source f → trace_of (declarations_of f) text ≡ read → trace_of (declared_by source) text ≡ read
  read_for source f text read form e = ap (λ d. trace_of d text) (sym (declared_same source f form)) ∙ e

  -- what is answered to the run that a trace states
  pub run_answered : {E : Type 0} (f : FlatModel) (j : ℕ) (text : List ℕ) (run : Run) (result : Result Answer E) → trace_of (declarations_of f) text ≡ Ok run → IfOk result (IsRunAnswer answer_to f j run) → IfOk result (OfForm answer_to f j text)
  run_answered f j text run (Ok a) read h = (h.0, λ source form. h.1 source form ∙ sym (ap (of_trace answer_to source j) (read_for source f text (Ok run) form read)))
  run_answered f j text run (Err e) read h = tt

  -- a trace that is refused
  pub trace_refused : (f : FlatModel) (j : ℕ) (text : List ℕ) (refusal : Refusal) → trace_of (declarations_of f) text ≡ Err refusal → OfForm answer_to f j text (answer.SecondRefused refusal)
  trace_refused f j text refusal read = (tt, λ source form. sym (ap (of_trace answer_to source j) (read_for source f text (Err refusal) form read)))

  -- ---- what may be given

  module _ (files : Option Files) (faulted : Type 0) (second bytes : List ℕ) (j : ℕ) (f : FlatModel) (form : IsFormIn bytes j f) where
    abbrev Read : Files → Answer → Type 0
    Read fs a = ContinuesWith (file_within fs second most_trace_bytes trace_too_long) (OfForm answer_to f j) a

    for_model : (fs : Files) (a : Answer) → Read fs a → OfBytes answer_to fs second j bytes a
    for_model fs a h =
        inl (form.source, form.accepted, goes_also (file_within fs second most_trace_bytes trace_too_long) (OfForm answer_to f j) (OfText answer_to form.source j) (λ text b g. g.1 form.source form.form) a h)

    -- what may be given to the second file of a flat form may be given for its model's bytes
    pub trace_given : {E : Type 0} (result : Result Answer E) → IfOk result (MayGive files (second ∷ []) Read faulted) → IfOk result (MayGive files (second ∷ []) (λ fs. OfBytes answer_to fs second j bytes) faulted)
    trace_given result h = also_ok files (second ∷ []) (second ∷ []) faulted faulted Read (λ fs. OfBytes answer_to fs second j bytes) (λ name among. among) (λ r. r) (of_each files for_model) result h

    pub trace_stops : {T : Type 0} (result : Result T Stop) → IfErr result (StopsWith (MayGive files (second ∷ []) Read faulted)) → IfErr result (StopsWith (MayGive files (second ∷ []) (λ fs. OfBytes answer_to fs second j bytes) faulted))
    trace_stops result h = also_stop files (second ∷ []) (second ∷ []) faulted faulted Read (λ fs. OfBytes answer_to fs second j bytes) (λ name among. among) (λ r. r) (of_each files for_model) result h

  -- the refusal of a model may be given
  pub refusal_given : (files : Option Files) (second bytes : List ℕ) (j : ℕ) (refusal : Refusal) → IsCheckRefusal bytes j refusal → IfSome files (λ fs. OfBytes answer_to fs second j bytes (answer.Refused refusal))
  refusal_given files second bytes j refusal h = of_each files (λ fs. inr (refusal, h, refl))

-- ---- the verdict

pub one_smv_judgement : (files : Files) (model second : List ℕ) (j : ℕ) (a b : Answer) → IsSmvJudgement files model second j a → IsSmvJudgement files model second j b → a ≡ b
one_smv_judgement files model second j a b h k = one_answer_to_trace verdict_answer files model second j a b h k

-- what the judge of a flat form says
abbrev IsSaid : FlatModel → ℕ → Run → Verdict → Type 0
IsSaid f j run v = (source : PlainSource) → IsFlatOf source (flat_plain f) → v ≡ verdict_on source j run

pub said_yes : (f : FlatModel) (j : ℕ) (run : Run) (n : ℕ) → IsSaid f j run Yes → n ≡ length run.states - 1 → IsRunAnswer verdict_answer f j run (answer.Done (Broken j n))
said_yes f j run n said e = (tt, λ source form. ap (λ m. answer.Done (Broken j m)) e ∙ ap (verdict_answer source j run) (said source (form_is_flat source f form)))

-- the same of a run by the numbers of the items
pub numbered_yes : (f : FlatModel) (j : ℕ) (run : NumberedRun) (n : ℕ) → IsSaid f j (run_in (flat_plain f).items run) Yes → n ≡ length run.ends - 1 → IsRunAnswer verdict_answer f j (run_in (flat_plain f).items run) (answer.Done (Broken j n))
numbered_yes f j run n said e = said_yes f j (run_in (flat_plain f).items run) n said (e ∙ ap (λ k. k - 1) (sym (length-map run.ends (state_at (flat_plain f).items run.changes))))

pub said_no : (f : FlatModel) (j : ℕ) (run : Run) (step : ℕ) (clause : Clause) → IsSaid f j run (No step clause) → IsRunAnswer verdict_answer f j run (answer.No step clause)
said_no f j run step clause said = (tt, λ source form. ap (verdict_answer source j run) (said source (form_is_flat source f form)))
