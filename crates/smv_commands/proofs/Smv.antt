-- What is answered to a witness of a model's text is what is defined of it, and stands for a run.
use Rattle.std.proofs.Common.{◌≡◌, ◌-◌, inl, inr, ℕ, Bool, List, [], ◌∷◌, Option, Some, Result, refl, sym, ap, ◌∙◌, length, subst}
use Rattle.std.specs.Prelude.{IfOk, IfErr, IfSome}
use Rattle.text_core.specs.Outside.{Files, file_at, grown}
use Rattle.text_core.specs.Places.{start, after}
use Rattle.text_core.specs.declared.place.Refusal.{Refusal}
use Rattle.text_core.specs.declared.verdict.Verdict.TheVariants.{Yes}
use Rattle.smv_text.specs.Tree.{PlainSource}
use Rattle.smv_meaning.specs.declared.value.Run.{Run}
use Rattle.smv_flat.specs.FlatForms.{PlainFlat, flat_smv}
use Rattle.smv_flat.specs.FlatWidth.{width_of}
use Rattle.smv_flatten.specs.FlatModel.{FlatModel, IsFormOf}
use Rattle.smv_trace_text.specs.Texts.{has_inputs}
use Rattle.smv_script.specs.Script.{coding_of, script_of}
use Rattle.smv_script_laws.specs.Decoding.{run_of}
use Rattle.moxi_terms.specs.declared.data.Datum.{Datum}
use Rattle.moxi_flat.specs.FlatSystem.{flat_of}
use Rattle.moxi_lines.specs.Lines.{lines_of}
use Rattle.moxi_lift.specs.Lifted.{lifted}
use Rattle.witness_lift.specs.Lifting.{lines_in}
use Rattle.btor_tree.specs.declared.lines.Line.{Line}
use Rattle.btor_tree.specs.Printing.{printed}
use Rattle.btor_tree.specs.Texts.{SpellsLines}
use Rattle.btor_witness.specs.declared.witness.Witness.{Witness}
use Rattle.btor_witness.specs.Judging.{judged_btor}
use Rattle.btor_witness.specs.Texts.{SpellsWitness}
use Rattle.command_core.specs.declared.answer.Answer.{Answer}
use Rattle.command_core.specs.declared.answer.Answer.TheVariants as answer
use Rattle.command_core.specs.declared.answer.Output.TheVariants.{Text}
use Rattle.command_core.specs.declared.answer.Stop.{Stop}
use Rattle.command_core.specs.declared.status.Status.TheVariants as status
use Rattle.command_core.specs.Answers.{status_of, text_of}
use Rattle.command_core.specs.Giving.{MayGive}
use Rattle.command_core.specs.Reading.{ContinuesWith, StopsWith, file_within}
use Rattle.command_core.specs.laws.Files.{done_from, goes_once, on_read}
use Rattle.command_core.specs.laws.Given.{also_ok, also_stop, of_each}
use Rattle.btor_commands.specs.Judgement.{witness_too_long}
use Rattle.btor_commands.specs.Limits.{most_witness_bytes}
use Rattle.smv_models.specs.Limits.{most_smv_bytes}
use Rattle.smv_models.specs.Models.{IsCheckRefusal, IsFormIn, smv_too_long}
use Rattle.smv_models.proofs.Checked.{not_checked, one_check_refusal}
use Rattle.smv_models.proofs.Sources.{same_model}
use Rattle.smv_commands.specs.Translation.{Accepts, btor_text}
use Rattle.witness_lift.specs.LineLaws.{ModelLinesAreSpelled, model_lines}
use Rattle.btor_commands.specs.Lifting.{OfLines, OfText}
use Rattle.smv_commands.specs.SmvLift.{IsLiftedTrace, IsSmvLift, OfBytes, RunsAreLifted, lifted_run, lifted_trace, run_text, trace_in}
use Rattle.smv_commands.proofs.Inputs.{items_have_inputs}
use Rattle.btor_commands.proofs.Lifted.{done_second, one_of_lines}
use Rattle.smv_commands.proofs.TraceAnswers.{goes_also}
use Rattle.moxi_scripts.specs.Behaviour.{trace_of}

-- ---- one answer

one_of_bytes : (files : Files) (second bytes : List ℕ) (a b : Answer) → OfBytes files second bytes a → OfBytes files second bytes b → a ≡ b
one_of_bytes files second bytes a b (inl x) (inl y) =
    one_of_lines files second (btor_text y.0) (lifted_trace y.0) a b (subst (λ s. OfLines files second (btor_text s) (lifted_trace s) a) (same_model bytes x.0 y.0 x.1.is_model y.1.is_model) x.2) y.2
one_of_bytes files second bytes a b (inl x) (inr r) = absurd (not_checked bytes 0 r.0 x.0 r.1 x.1)
one_of_bytes files second bytes a b (inr r) (inl y) = absurd (not_checked bytes 0 r.0 y.0 r.1 y.1)
one_of_bytes files second bytes a b (inr r) (inr q) = r.2 ∙ ap answer.Refused (one_check_refusal bytes 0 r.0 q.0 r.1 q.1) ∙ sym q.2

-- files define one lift of a witness to a trace
pub one_smv_lift : (files : Files) (model second : List ℕ) (a b : Answer) → IsSmvLift files model second a → IsSmvLift files model second b → a ≡ b
one_smv_lift files model second a b h k =
    goes_once (file_within files model most_smv_bytes smv_too_long) (OfBytes files second) (λ bytes a b h k. one_of_bytes files second bytes a b h k) a b h k

-- ---- what is answered for a flat form is answered for its model

-- where the lines of a model's text are those that are named, what is answered for them is answered for the text
of_text : (fs : Files) (second : List ℕ) (source : PlainSource) (a : Answer) → OfLines fs second (printed (model_lines source)) (lifted_trace source) a → OfLines fs second (btor_text source) (lifted_trace source) a
unfolding btor_text
of_text fs second source a h = h

abbrev lines_for : PlainFlat → ℕ → List Line
lines_for flat width = lines_of (flat_of (script_of flat width))

abbrev run_with : PlainFlat → ℕ → List (List Datum) → Run
run_with flat width steps = run_of flat (coding_of flat width) (trace_of steps) (length steps - 1)

abbrev trace_with : PlainFlat → ℕ → Witness → List ℕ
trace_with flat width w = run_text (has_inputs flat.items) w.bad (run_with flat width (lifted (flat_of (script_of flat width)) w))

abbrev IsWith : List ℕ → PlainFlat → ℕ → Answer → Type 0
IsWith text flat width a = OfText (lines_for flat width) (trace_with flat width) text a

form_model : (source : PlainSource) (text : List ℕ) (a : Answer) → IsWith text (flat_smv source) (width_of (flat_smv source)) a → OfText (model_lines source) (lifted_trace source) text a
unfolding lifted_trace
form_model source text a h =
    subst (λ (inputs : Bool). OfText (model_lines source) (λ (w : Witness). run_text inputs w.bad (lifted_run source w)) text a) (items_have_inputs source) h

of_form : (source : PlainSource) (f : FlatModel) (text : List ℕ) (a : Answer) → IsFormOf source f → OfText (lines_in f) (trace_in f) text a → OfText (model_lines source) (lifted_trace source) text a
of_form source f text a form h =
    form_model source text a (subst (λ (n : ℕ). IsWith text (flat_smv source) n a) form.width (subst (λ (x : PlainFlat). IsWith text x f.width a) form.form h))

-- the lines of the model that bytes spell are spelled by its text
pub spelled_in : ModelLinesAreSpelled → (bytes : List ℕ) (f : FlatModel) (form : IsFormIn bytes 0 f) → SpellsLines (printed (model_lines form.source)) (model_lines form.source)
spelled_in law bytes f form =
    let m = form.accepted.is_model in
    (law form.source (after start bytes) bytes m.tokens m.lexed m.spelled 0 form.accepted.accepted m.low).there

-- ---- what may be given

module _ (files : Option Files) (faulted : Type 0) (second bytes : List ℕ) (f : FlatModel) (law : ModelLinesAreSpelled) (form : IsFormIn bytes 0 f) where
  abbrev Read : Files → Answer → Type 0
  Read fs a = ContinuesWith (file_within fs second most_witness_bytes witness_too_long) (OfText (lines_in f) (trace_in f)) a

  for_model : (fs : Files) (a : Answer) → Read fs a → OfBytes fs second bytes a
  for_model fs a h =
      let source = form.source in
      let read = goes_also (file_within fs second most_witness_bytes witness_too_long) (OfText (lines_in f) (trace_in f)) (OfText (model_lines source) (lifted_trace source)) (λ text b g. of_form source f text b form.form g) a h in
      inl (source, form.accepted, of_text fs second source a (model_lines source, spelled_in law bytes f form, read))

  -- what may be given to the second file of a flat form may be given for its model's bytes
  pub witness_given : {E : Type 0} (result : Result Answer E) → IfOk result (MayGive files (second ∷ []) Read faulted) → IfOk result (MayGive files (second ∷ []) (λ fs. OfBytes fs second bytes) faulted)
  witness_given result h = also_ok files (second ∷ []) (second ∷ []) faulted faulted Read (λ fs. OfBytes fs second bytes) (λ name among. among) (λ r. r) (of_each files for_model) result h

  pub witness_stops : {T : Type 0} (result : Result T Stop) → IfErr result (StopsWith (MayGive files (second ∷ []) Read faulted)) → IfErr result (StopsWith (MayGive files (second ∷ []) (λ fs. OfBytes fs second bytes) faulted))
  witness_stops result h = also_stop files (second ∷ []) (second ∷ []) faulted faulted Read (λ fs. OfBytes fs second bytes) (λ name among. among) (λ r. r) (of_each files for_model) result h

-- the refusal of a model may be given
pub refusal_given : (files : Option Files) (second bytes : List ℕ) (refusal : Refusal) → IsCheckRefusal bytes 0 refusal → IfSome files (λ fs. OfBytes fs second bytes (answer.Refused refusal))
refusal_given files second bytes refusal h = of_each files (λ fs. inr (refusal, h, refl))

-- ---- what a trace stands for

correct_bytes : (lifts : RunsAreLifted) (fs : Files) (model second bytes : List ℕ) (b : Answer) (before now : Option (List ℕ)) → file_at fs model ≡ Some bytes → OfBytes fs second bytes b → status_of b ≡ status.Done → now ≡ grown before (text_of b)
    → IsLiftedTrace fs model second before now
correct_bytes lifts fs model second bytes b before now there (inl x) s w =
    done_second fs second x.2.0 (lifted_trace x.0) b x.2.2 s (λ text witness second_there spelled judged e. record {
      bytes = bytes;
      there = there;
      source = x.0;
      accepted = x.1;
      lines = x.2.0;
      spelled = x.2.1;
      text = text;
      second_there = second_there;
      witness = witness;
      states = spelled;
      judged = judged;
      trace = lifted_trace x.0 witness;
      written = w ∙ ap (λ a. grown before (text_of a)) e;
      lifts = lifts bytes x.0 x.1 x.2.0 x.2.1 text witness spelled judged;
    })
correct_bytes lifts fs model second bytes b before now there (inr r) s w = let e : status.Refused ≡ status.Done = sym (ap status_of r.2) ∙ s in absurd (cc)

-- a trace that was written whole is that to which the witness is lifted
pub correct_output : (lifts : RunsAreLifted) (fs : Files) (model second : List ℕ) (b : Answer) (before now : Option (List ℕ)) → IsSmvLift fs model second b → status_of b ≡ status.Done → now ≡ grown before (text_of b) → IsLiftedTrace fs model second before now
correct_output lifts fs model second b before now h s w =
    done_from fs model most_smv_bytes smv_too_long (OfBytes fs second) b refl h s (λ bytes there g. correct_bytes lifts fs model second bytes b before now there g s w)

-- the defined answer to a witness that the judge accepts
pub accepted_answer : (fs : Files) (model second bytes text : List ℕ) (source : PlainSource) (lines : List Line) (w : Witness) → file_at fs model ≡ Some bytes → Accepts bytes source → SpellsLines (btor_text source) lines
    → file_at fs second ≡ Some text → SpellsWitness lines text w → judged_btor lines w Yes → IsSmvLift fs model second (answer.Done (Text (lifted_trace source w)))
accepted_answer fs model second bytes text source lines w there a spelled second_there states judged =
    on_read fs model bytes most_smv_bytes smv_too_long (OfBytes fs second) (answer.Done (Text (lifted_trace source w))) there a.is_model.within
    (inl (source, a, (lines, spelled, on_read fs second text most_witness_bytes witness_too_long (OfText lines (lifted_trace source)) (answer.Done (Text (lifted_trace source w))) second_there states.0 (inl (w, states, (Yes, judged, refl))))))
