-- The witness of a trace that the judge accepts states its run, and files define one such witness.
use Rattle.std.proofs.Common.{◌≡◌, ◌≤◌, inl, inr, ℕ, Bool, true, false, List, Option, Some, None, Result, Ok, Err, refl, sym, ap, ◌∙◌, cond, length, subst, arith}
use Rattle.std.specs.Prelude.{nat_le, nat_lt}
use Rattle.text_core.specs.Outside.{Files, file_at, grown}
use Rattle.text_core.specs.Places.{start, after}
use Rattle.text_core.specs.declared.place.Refusal.{Refusal}
use Rattle.text_core.specs.declared.verdict.Clause.{Clause}
use Rattle.text_core.specs.declared.verdict.Verdict.{Verdict}
use Rattle.text_core.specs.declared.verdict.Verdict.TheVariants.{Yes, No}
use Rattle.smv_text.specs.Tree.{PlainSource}
use Rattle.smv_flat.specs.FlatForms.{PlainFlat, flat_smv}
use Rattle.smv_flatten.specs.FlatModel.{FlatModel, IsFormOf}
use Rattle.smv_meaning.specs.declared.value.Run.{Run}
use Rattle.smv_script.specs.Script.{script_of}
use Rattle.smv_trace_text.specs.Lines.{lines_of as lines_in_text}
use Rattle.smv_trace.specs.Reading.{begin}
use Rattle.smv_trace.specs.Texts.{lines_read, most_bytes, trace_of}
use Rattle.smv_trace.proofs.Sound.{stated_from}
use Rattle.btor_tree.specs.declared.lines.Line.{Line}
use Rattle.btor_tree.specs.Fits.{IsWellFormed}
use Rattle.btor_tree.specs.Printing.{printed as printed_lines}
use Rattle.btor_witness.specs.declared.witness.Witness.{Witness}
use Rattle.btor_witness.specs.Judging.{judged_btor}
use Rattle.btor_witness.specs.Printing.{IsWithinLimits, IsWitness, printed, rising_witness}
use Rattle.btor_witness.specs.Sizes.{sizes_of}
use Rattle.btor_witness.specs.Texts.{SpellsWitness}
use Rattle.moxi_flat.specs.FlatSystem.{flat_of}
use Rattle.moxi_layout.specs.LayoutLaws.{IsLaidOut}
use Rattle.moxi_lines.specs.Lines.{lines_of}
use Rattle.trace_lower.specs.Laws.{IsAcceptedBy, LoweredAreAccepted, LoweredRoundTrip, declared_by}
use Rattle.trace_lower.specs.declared.lower.LowerEnd.{LowerEnd}
use Rattle.trace_lower.specs.declared.lower.LowerEnd.TheVariants as lower_end
use Rattle.trace_lower.specs.Ends.{IsLowerEnd}
use Rattle.trace_lower.specs.Lowered.{lowered, verdict_on}
use Rattle.witness_lift.specs.Lifting.{lines_in}
use Rattle.witness_lift.specs.LineLaws.{ModelLinesAreLaidOut, SpellsOnly, model_lines, model_system}
use Rattle.command_core.specs.declared.answer.Answer.{Answer}
use Rattle.command_core.specs.declared.answer.Answer.TheVariants as answer
use Rattle.command_core.specs.declared.answer.Output.TheVariants.{Text}
use Rattle.command_core.specs.declared.status.Status.TheVariants as status
use Rattle.command_core.specs.Answers.{status_of, text_of}
use Rattle.command_core.specs.Reading.{ContinuesWith, within_limit}
use Rattle.command_core.specs.laws.Files.{done_from, on_read}
use Rattle.smv_models.specs.Limits.{most_smv_bytes}
use Rattle.smv_commands.specs.Limits.{most_trace_bytes}
use Rattle.smv_commands.specs.Lowering.{IsLoweredTrace, IsLowering, RunsAreLowered, StatesRun, lowered_answer, lowered_text}
use Rattle.smv_models.specs.Models.{IsAcceptedModel, smv_too_long}
use Rattle.smv_commands.specs.Traces.{IsRunAnswer, OfBytes, OfText, of_trace, trace_too_long}
use Rattle.smv_models.proofs.Forms.{read_of}
use Rattle.smv_commands.proofs.LiftedRuns.{own_lines}
use Rattle.smv_commands.proofs.TraceAnswers.{one_answer_to_trace}
use Rattle.text_core.specs.Answers.{refused}

-- files define one witness of a trace
pub one_lowering : (files : Files) (model second : List ℕ) (j : ℕ) (a b : Answer) → IsLowering files model second j a → IsLowering files model second j b → a ≡ b
one_lowering files model second j a b h k = one_answer_to_trace lowered_answer files model second j a b h k

-- ---- a run of a flat form

-- the lines of a flat form are those of its model
lines_same : (source : PlainSource) (f : FlatModel) → IsFormOf source f → lines_in f ≡ model_lines source
lines_same source f form =
    ap (λ (x : PlainFlat). lines_of (flat_of (script_of x f.width))) form.form ∙ ap (λ (n : ℕ). lines_of (flat_of (script_of (flat_smv source) n))) form.width

laid_in : ModelLinesAreLaidOut → (source : PlainSource) (f : FlatModel) → IsFormOf source f → IsLaidOut (model_system source) (model_lines source)
laid_in laid source f form = (laid source form.read.end form.read.text form.read.tokens form.read.lexed form.read.spelled form.needed form.accepted form.read.low).laid

abbrev pub OfForms : FlatModel → (PlainSource → Type 0) → Type 0
OfForms f P = (source : PlainSource) → IsFormOf source f → P source

-- the witness of an accepted run is one for the lines
pub lowered_fits : LoweredAreAccepted → ModelLinesAreLaidOut → (f : FlatModel) (j : ℕ) (run : Run) (w : Witness) (lines : List Line) → (source : PlainSource) × IsFormOf source f → OfForms f (λ source. w ≡ lowered source j run) → OfForms f (λ source. verdict_on source j run ≡ Yes)
    → lines ≡ lines_in f → IsWitness (sizes_of lines) w
lowered_fits accepted laid f j run w lines has exact judged same =
    let source = has.0 in
    let form = has.1 in
    let fits : IsWitness (sizes_of (model_lines source)) (lowered source j run) =
    (accepted source form.needed form.read form.accepted j run (judged source form) (model_lines source) (laid_in laid source f form)).witness in
    subst (λ (ls : List Line). IsWitness (sizes_of ls) w) (sym (same ∙ lines_same source f form)) (subst (IsWitness (sizes_of (model_lines source))) (sym (exact source form)) fits)

-- it is what is answered to the run
pub said_lowered : (f : FlatModel) (j : ℕ) (run : Run) (w : Witness) (lines : List Line) (text : List ℕ) → OfForms f (λ source. w ≡ lowered source j run) → OfForms f (λ source. verdict_on source j run ≡ Yes) → lines ≡ lines_in f → text ≡ printed lines w
    → IsRunAnswer lowered_answer f j run (answer.Done (Text text))
unfolding lowered_text
said_lowered f j run w lines text exact judged same made = (
  tt,
  λ source form.
      ap (λ t. answer.Done (Text t)) (made ∙ ap (λ (ls : List Line). printed ls w) (same ∙ lines_same source f form) ∙ ap (printed (model_lines source)) (exact source form))
      ∙ sym (ap (lowered_answer source j run) (judged source form)),
)

pub said_rejected : (f : FlatModel) (j : ℕ) (run : Run) {s step : ℕ} {k clause : Clause} (end : LowerEnd) → OfForms f (λ source. IsLowerEnd source j run end) → end ≡ lower_end.No step clause → s ≡ step → k ≡ clause
    → IsRunAnswer lowered_answer f j run (answer.No s k)
said_rejected f j run {s} {step} {k} {clause} end judged is same_step same_clause = (
  tt,
  λ source form.
      ap (λ n. answer.No n k) same_step ∙ ap (λ c. answer.No step c) same_clause
      ∙ sym (ap (lowered_answer source j run) (subst (IsLowerEnd source j run) is (judged source form))),
)

-- ---- what the witness stands for

-- a printed witness within the limits is read, with its statements in rising order
abbrev pub PrintedIsRead : Type 0
PrintedIsRead = (lines : List Line) (w : Witness) → IsWellFormed lines → IsWitness (sizes_of lines) w → IsWithinLimits lines w → SpellsWitness lines (printed lines w) (rising_witness (sizes_of lines) w)

pub states_run : LoweredAreAccepted → LoweredRoundTrip → PrintedIsRead → (bytes : List ℕ) (j : ℕ) (source : PlainSource) (a : IsAcceptedModel bytes j source) → SpellsOnly (printed_lines (model_lines source)) (model_lines source) → IsLaidOut (model_system source) (model_lines source)
    → (trace : List ℕ) (run : Run) → trace_of (declared_by source) trace ≡ Ok run → verdict_on source j run ≡ Yes → StatesRun source j run (lowered_text source j run)
unfolding lowered_text
states_run accepted back reads bytes j source a only laid trace run states judged =
    let w = lowered source j run in
    let own = model_lines source in
    let read = read_of bytes source a.is_model in
    let is : IsAcceptedBy own w = accepted source j read a.accepted j run judged own laid in
    let spells : IsWithinLimits own w → SpellsWitness own (printed own w) w = λ within. subst (SpellsWitness own (printed own w)) is.rises (reads own w laid.well_formed is.witness within) in
    record {
      witness = w;
      exact = refl;
      bad = refl;
      written = refl;
      accepted = λ lines spelled. subst (λ (ls : List Line). judged_btor ls w Yes) (sym (own_lines source only lines spelled)) is.accepted;
      read = λ lines spelled. subst (λ (ls : List Line). IsWithinLimits ls w → SpellsWitness ls (printed own w) w) (sym (own_lines source only lines spelled)) spells;
      lifted = back source j read a.accepted j run (stated_from (declared_by source) trace (Ok run) states) judged;
    }

-- ---- what was written

done_run : {S : Type 0} (source : PlainSource) (j : ℕ) (run : Run) (v : Verdict) (b : Answer) → b ≡ lowered_answer source j run v → status_of b ≡ status.Done → (v ≡ Yes → b ≡ answer.Done (Text (lowered_text source j run)) → S) → S
done_run source j run Yes b h s go = go refl h
done_run source j run (No step clause) b h s go = let e : status.No ≡ status.Done = sym (ap status_of h) ∙ s in absurd (cc)

done_trace : {S : Type 0} (source : PlainSource) (j : ℕ) (read : Result Run Refusal) (b : Answer) → b ≡ of_trace lowered_answer source j read → status_of b ≡ status.Done
    → ((run : Run) → read ≡ Ok run → verdict_on source j run ≡ Yes → b ≡ answer.Done (Text (lowered_text source j run)) → S) → S
done_trace source j (Ok run) b h s go = done_run source j run (verdict_on source j run) b h s (λ v e. go run refl v e)
done_trace source j (Err refusal) b h s go = let e : status.SecondRefused ≡ status.Done = sym (ap status_of h) ∙ s in absurd (cc)

-- what is written for the second file is made of its bytes
done_second : {S : Type 0} (second : List ℕ) (content : Option (List ℕ)) (next : List ℕ → Answer → Type 0) (b : Answer) → ContinuesWith (within_limit content second most_trace_bytes trace_too_long) next b → status_of b ≡ status.Done
    → ((text : List ℕ) → content ≡ Some text → next text b → S) → S
done_second second None next b h s go = let e : status.ReadFault ≡ status.Done = sym (ap status_of h) ∙ s in absurd (cc)
done_second {S} second (Some text) next b h s go = by_length (nat_lt most_trace_bytes (length text)) h
  where
    by_length : (long : Bool) → ContinuesWith (cond long (Err trace_too_long) (Ok text)) next b → S
    by_length true g = let e : status.SecondRefused ≡ status.Done = sym (ap status_of g) ∙ s in absurd (cc)
    by_length false g = go text refl g

correct_bytes : (lowers : RunsAreLowered) (fs : Files) (model second bytes : List ℕ) (j : ℕ) (b : Answer) (before now : Option (List ℕ)) → file_at fs model ≡ Some bytes → OfBytes lowered_answer fs second j bytes b → status_of b ≡ status.Done → now ≡ grown before (text_of b)
    → IsLoweredTrace fs model second j before now
correct_bytes lowers fs model second bytes j b before now there (inl x) s w =
    let source = x.0 in
    done_second second (file_at fs second) (OfText lowered_answer source j) b x.2 s (λ trace second_there h.
    done_trace source j (trace_of (declared_by source) trace) b h s (λ run states judged e. record {
      bytes = bytes;
      there = there;
      source = source;
      accepted = x.1;
      trace = trace;
      second_there = second_there;
      run = run;
      states = states;
      judged = judged;
      text = lowered_text source j run;
      written = w ∙ ap (λ a. grown before (text_of a)) e;
      stated = lowers bytes j source x.1 trace run states judged;
    }))
correct_bytes lowers fs model second bytes j b before now there (inr r) s w = let e : status.Refused ≡ status.Done = sym (ap status_of r.2) ∙ s in absurd (cc)

-- a witness that was written whole states the run of the trace
pub correct_output : (lowers : RunsAreLowered) (fs : Files) (model second : List ℕ) (j : ℕ) (b : Answer) (before now : Option (List ℕ)) → IsLowering fs model second j b → status_of b ≡ status.Done → now ≡ grown before (text_of b) → IsLoweredTrace fs model second j before now
correct_output lowers fs model second j b before now h s w =
    done_from fs model most_smv_bytes smv_too_long (OfBytes lowered_answer fs second j) b refl h s (λ bytes there g. correct_bytes lowers fs model second bytes j b before now there g s w)

-- a text that is read as a trace is within the limit
within_most : (source : PlainSource) (trace : List ℕ) (run : Run) → trace_of (declared_by source) trace ≡ Ok run → length trace ≤ most_trace_bytes
within_most source trace run e = by_length (nat_le (length trace) most_bytes) refl e
  where
    by_length : (short : Bool) → nat_le (length trace) most_bytes ≡ short → cond short (lines_read (declared_by source) (after start trace) start (lines_in_text trace) (begin (declared_by source))) (refused 5 start) ≡ Ok run → length trace ≤ most_trace_bytes
    by_length true short g = grind (arith, short)
    by_length false short g = absurd (cc)

-- the defined answer to a trace of which the judge says Yes
pub accepted_answer : (fs : Files) (model second bytes trace : List ℕ) (j : ℕ) (source : PlainSource) (run : Run) → file_at fs model ≡ Some bytes → IsAcceptedModel bytes j source → file_at fs second ≡ Some trace → trace_of (declared_by source) trace ≡ Ok run
    → verdict_on source j run ≡ Yes → IsLowering fs model second j (answer.Done (Text (lowered_text source j run)))
accepted_answer fs model second bytes trace j source run there a second_there states judged =
    let done = answer.Done (Text (lowered_text source j run)) in
    let said : OfText lowered_answer source j trace done = sym (ap (of_trace lowered_answer source j) states ∙ ap (lowered_answer source j run) judged) in
    on_read fs model bytes most_smv_bytes smv_too_long (OfBytes lowered_answer fs second j) done there a.is_model.within
    (inl (source, a, on_read fs second trace most_trace_bytes trace_too_long (OfText lowered_answer source j) done second_there (within_most source trace run states) said))
