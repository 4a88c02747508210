-- What is answered to a witness of a script's text is what is defined of it, and stands for a trace.
use Rattle.std.proofs.Common.{◌≡◌, ◌≤◌, ◌<◌, ◌-◌, zero, suc, arith, inl, inr, ℕ, List, [], ◌∷◌, Option, Some, None, Result, refl, sym, ap, ◌∙◌, length, subst}
use Rattle.std.specs.Prelude.{IfOk, IfErr, IsSomeAnd, slice_get}
use Rattle.text_core.specs.Outside.{Files, file_at, grown}
use Rattle.text_core.specs.declared.verdict.Verdict.TheVariants.{Yes}
use Rattle.btor_tree.specs.declared.lines.Line.{Line}
use Rattle.btor_tree.specs.Printing.{printed}
use Rattle.btor_tree.specs.Texts.{SpellsLines}
use Rattle.btor_witness.specs.declared.witness.Witness.{Witness}
use Rattle.btor_witness.specs.Judging.{judged_btor}
use Rattle.btor_witness.specs.Texts.{SpellsWitness}
use Rattle.moxi_scripts.specs.Script.{PlainScript}
use Rattle.moxi_flat.specs.FlatSystem.{PlainFlatSystem, flat_of}
use Rattle.moxi_flat.specs.Limits.{flat_refusal}
use Rattle.moxi_lines.specs.Lines.{lines_of}
use Rattle.std.specs.List.{AllByRecursion}
use Rattle.std.proofs.Math.Logic.{∥∥₁_map}
use Rattle.moxi_terms.specs.declared.data.Datum.{Datum}
use Rattle.moxi_terms.specs.Sorts.{Fit}
use Rattle.moxi_terms.specs.Tree.{sorts_of}
use Rattle.moxi_flat.specs.FlatMeeting.{MeetsFlat}
use Rattle.moxi_instantiate.proofs.Measured.{lt_held}
use Rattle.moxi_judge.specs.Judging.{IsStatedTrace}
use Rattle.moxi_lift.specs.Laws.{MeetsQueryOf}
use Rattle.moxi_lift.specs.Lifted.{lifted}
use Rattle.moxi_trace.specs.Texts.{response_text}
use Rattle.moxi_responses.specs.Declaring.{declared_of}
use Rattle.command_core.specs.declared.answer.Answer.{Answer}
use Rattle.command_core.specs.declared.answer.Answer.TheVariants as answer
use Rattle.command_core.specs.declared.answer.Output.TheVariants.{Text}
use Rattle.command_core.specs.declared.answer.Stop.{Stop}
use Rattle.command_core.specs.declared.status.Status.TheVariants as status
use Rattle.command_core.specs.Answers.{status_of, text_of}
use Rattle.command_core.specs.Giving.{MayGive}
use Rattle.command_core.specs.Reading.{ContinuesWith, StopsWith, file_within}
use Rattle.command_core.specs.laws.Files.{done_from, goes_once, on_read}
use Rattle.command_core.specs.laws.Given.{follows_ok, follows_stop}
use Rattle.btor_commands.specs.Judgement.{witness_too_long}
use Rattle.btor_commands.specs.Limits.{most_witness_bytes}
use Rattle.moxi_commands.specs.Limits.{most_script_bytes}
use Rattle.moxi_commands.specs.Scripts.{IsScriptText, script_too_long}
use Rattle.moxi_commands.specs.Translation.{IsInstantiated, btor_text}
use Rattle.moxi_commands.proofs.Refused.{not_refused, one_system_refusal, same_script}
use Rattle.btor_commands.specs.Lifting.{IsLift, OfLines, OfText}
use Rattle.moxi_commands.specs.MoxiLift.{IsLiftedResponse, IsMoxiLift, OfBytes, OfChecks, TracesAreLifted, lifted_response}
use Rattle.btor_commands.proofs.Lifted.{done_second, one_of_lines}
use Rattle.moxi_scripts.specs.Behaviour.{trace_of}

-- ---- one answer

one_of_bytes : (files : Files) (second bytes : List ℕ) (a b : Answer) → OfBytes files second bytes a → OfBytes files second bytes b → a ≡ b
one_of_bytes files second bytes a b (inl x) (inl y) =
    one_of_lines files second (btor_text y.0) (lifted_response y.0) a b (subst (λ s. OfLines files second (btor_text s) (lifted_response s) a) (same_script bytes x.0 y.0 x.1.is_script y.1.is_script) x.2) y.2
one_of_bytes files second bytes a b (inl x) (inr r) = absurd (not_refused bytes r.0 x.0 r.1 x.1.is_script x.1.accepted)
one_of_bytes files second bytes a b (inr r) (inl y) = absurd (not_refused bytes r.0 y.0 r.1 y.1.is_script y.1.accepted)
one_of_bytes files second bytes a b (inr r) (inr q) = r.2 ∙ ap answer.Refused (one_system_refusal bytes r.0 q.0 r.1 q.1) ∙ sym q.2

-- files define one lift of a witness to a response
pub one_moxi_lift : (files : Files) (model second : List ℕ) (a b : Answer) → IsMoxiLift files model second a → IsMoxiLift files model second b → a ≡ b
one_moxi_lift files model second a b h k =
    goes_once (file_within files model most_script_bytes script_too_long) (OfBytes files second) (λ bytes a b h k. one_of_bytes files second bytes a b h k) a b h k

-- ---- the response

there : {T : Type 0} (P : T → Type 0) (xs : List T) (j : ℕ) → IsSomeAnd (slice_get xs j) P → j < length xs
there P [] j h = absurd h
there P (x ∷ xs) zero h = omega arith
there P (x ∷ xs) (suc j) h = let l = there P xs j h in omega (arith, l)

-- the query that a trace meets is one of the script's
pub query_there : (script : PlainScript) (f : PlainFlatSystem) (j : ℕ) (steps : List (List Datum)) → f ≡ flat_of script → ∥ MeetsQueryOf f j steps ∥₁ → j < length script.check.queries
query_there script f j steps e h =
    lt_held j (length script.check.queries) (∥∥₁_map h (λ m.
    let n : j < length f.queries = there (λ q. MeetsFlat f q (length steps - 1) (trace_of steps)) f.queries j m in
    subst (λ (x : PlainFlatSystem). j < length x.queries) e n))

pub stated : (f g : PlainFlatSystem) (steps : List (List Datum)) → g ≡ f → 1 ≤ length steps → AllByRecursion (Fit f.scope.enumerations (sorts_of f.variables)) steps → IsStatedTrace g steps
stated f g steps e some fit = subst (λ (x : PlainFlatSystem). IsStatedTrace x steps) (sym e) (record { some = some; fit = fit })

-- the response of the trace to which an accepted witness is lifted
pub answered : (script : PlainScript) (f : PlainFlatSystem) (w : Witness) (steps : List (List Datum)) (text : List ℕ) → f ≡ flat_of script → judged_btor (lines_of f) w Yes → steps ≡ lifted f w → text ≡ response_text (declared_of script) w.bad steps
    → IsLift (lines_of f) (lifted_response script) w (answer.Done (Text text))
unfolding lifted_response
answered script f w steps text e judged exact written =
    (Yes, judged, ap (λ t. answer.Done (Text t)) (written ∙ ap (response_text (declared_of script) w.bad) (exact ∙ ap (λ (x : PlainFlatSystem). lifted x w) e)))

-- ---- what is answered for a chain is answered for its script, and for the script's bytes

own_lines : (script : PlainScript) (f : PlainFlatSystem) → f ≡ flat_of script → SpellsLines (printed (lines_of f)) (lines_of f) → SpellsLines (btor_text script) (lines_of f)
unfolding btor_text
own_lines script f e h = subst (λ (x : PlainFlatSystem). SpellsLines (printed (lines_of x)) (lines_of f)) e h

module _ (files : Option Files) (names : List (List ℕ)) (faulted : Type 0) (second : List ℕ) (script : PlainScript) where
  abbrev ForScript : Files → Answer → Type 0
  ForScript fs a = OfLines fs second (btor_text script) (lifted_response script) a

  abbrev ForLines : PlainFlatSystem → Files → Answer → Type 0
  ForLines f fs a = ContinuesWith (file_within fs second most_witness_bytes witness_too_long) (OfText (lines_of f) (lifted_response script)) a

  pub lines_ok : {E : Type 0} (f : PlainFlatSystem) (result : Result Answer E) → f ≡ flat_of script → SpellsLines (printed (lines_of f)) (lines_of f) → IfOk result (MayGive files names (ForLines f) faulted) → IfOk result (MayGive files names ForScript faulted)
  lines_ok f result e spelled h = follows_ok files names faulted (ForLines f) ForScript result (λ fs a k. (lines_of f, own_lines script f e spelled, k)) h

  pub lines_stop : {T : Type 0} (f : PlainFlatSystem) (result : Result T Stop) → f ≡ flat_of script → SpellsLines (printed (lines_of f)) (lines_of f) → IfErr result (StopsWith (MayGive files names (ForLines f) faulted))
      → IfErr result (StopsWith (MayGive files names ForScript faulted))
  lines_stop f result e spelled h = follows_stop files names faulted (ForLines f) ForScript result (λ fs a k. (lines_of f, own_lines script f e spelled, k)) h

  pub checks_ok : {E : Type 0} (result : Result Answer E) → flat_refusal script ≡ None → IfOk result (MayGive files names ForScript faulted) → IfOk result (MayGive files names (λ fs. OfChecks fs second script) faulted)
  checks_ok result accepted h = follows_ok files names faulted ForScript (λ fs. OfChecks fs second script) result (λ fs a k. inl (accepted, k)) h

  pub checks_stop : {T : Type 0} (result : Result T Stop) → flat_refusal script ≡ None → IfErr result (StopsWith (MayGive files names ForScript faulted)) → IfErr result (StopsWith (MayGive files names (λ fs. OfChecks fs second script) faulted))
  checks_stop result accepted h = follows_stop files names faulted ForScript (λ fs. OfChecks fs second script) result (λ fs a k. inl (accepted, k)) h

  of_bytes : (bytes : List ℕ) → IsScriptText bytes script → (fs : Files) (a : Answer) → OfChecks fs second script a → OfBytes fs second bytes a
  of_bytes bytes is fs a (inl x) = inl (script, record { is_script = is; accepted = x.0 }, x.1)
  of_bytes bytes is fs a (inr r) = inr (r.0, inr (script, is, r.1), r.2)

  pub bytes_ok : {E : Type 0} (bytes : List ℕ) (result : Result Answer E) → IsScriptText bytes script → IfOk result (MayGive files names (λ fs. OfChecks fs second script) faulted) → IfOk result (MayGive files names (λ fs. OfBytes fs second bytes) faulted)
  bytes_ok bytes result is h = follows_ok files names faulted (λ fs. OfChecks fs second script) (λ fs. OfBytes fs second bytes) result (of_bytes bytes is) h

  pub bytes_stop : {T : Type 0} (bytes : List ℕ) (result : Result T Stop) → IsScriptText bytes script → IfErr result (StopsWith (MayGive files names (λ fs. OfChecks fs second script) faulted))
      → IfErr result (StopsWith (MayGive files names (λ fs. OfBytes fs second bytes) faulted))
  bytes_stop bytes result is h = follows_stop files names faulted (λ fs. OfChecks fs second script) (λ fs. OfBytes fs second bytes) result (of_bytes bytes is) h

-- ---- what a response stands for

correct_bytes : (lifts : TracesAreLifted) (fs : Files) (model second bytes : List ℕ) (b : Answer) (before now : Option (List ℕ)) → file_at fs model ≡ Some bytes → OfBytes fs second bytes b → status_of b ≡ status.Done → now ≡ grown before (text_of b)
    → IsLiftedResponse fs model second before now
correct_bytes lifts fs model second bytes b before now there (inl x) s w =
    done_second fs second x.2.0 (lifted_response x.0) b x.2.2 s (λ text witness second_there spelled judged e. record {
      bytes = bytes;
      there = there;
      script = x.0;
      instantiated = x.1;
      lines = x.2.0;
      spelled = x.2.1;
      text = text;
      second_there = second_there;
      witness = witness;
      states = spelled;
      judged = judged;
      response = lifted_response x.0 witness;
      written = w ∙ ap (λ a. grown before (text_of a)) e;
      lifts = lifts bytes x.0 x.1 x.2.0 x.2.1 text witness spelled judged;
    })
correct_bytes lifts fs model second bytes b before now there (inr r) s w = let e : status.Refused ≡ status.Done = sym (ap status_of r.2) ∙ s in absurd (cc)

-- a response that was written whole is that to which the witness is lifted
pub correct_output : (lifts : TracesAreLifted) (fs : Files) (model second : List ℕ) (b : Answer) (before now : Option (List ℕ)) → IsMoxiLift fs model second b → status_of b ≡ status.Done → now ≡ grown before (text_of b) → IsLiftedResponse fs model second before now
correct_output lifts fs model second b before now h s w =
    done_from fs model most_script_bytes script_too_long (OfBytes fs second) b refl h s (λ bytes there g. correct_bytes lifts fs model second bytes b before now there g s w)

-- the defined answer to a witness that the judge accepts
pub accepted_answer : (fs : Files) (model second bytes text : List ℕ) (script : PlainScript) (lines : List Line) (w : Witness) → file_at fs model ≡ Some bytes → IsInstantiated bytes script → SpellsLines (btor_text script) lines
    → file_at fs second ≡ Some text → SpellsWitness lines text w → judged_btor lines w Yes → IsMoxiLift fs model second (answer.Done (Text (lifted_response script w)))
accepted_answer fs model second bytes text script lines w there a spelled second_there states judged =
    on_read fs model bytes most_script_bytes script_too_long (OfBytes fs second) (answer.Done (Text (lifted_response script w))) there a.is_script.within
    (inl (script, a, (lines, spelled, on_read fs second text most_witness_bytes witness_too_long (OfText lines (lifted_response script)) (answer.Done (Text (lifted_response script w))) second_there states.0 (inl (w, states, (Yes, judged, refl))))))
