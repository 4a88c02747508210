-- Words and files define one answer, and what that says of a run.
use Rattle.std.proofs.Common.{zero, suc, ◌≡◌, ◌≢◌, ◌⊎◌, inl, inr, List, [], ℕ, Option, Some, None, ◌≤◌, length, refl, sym, ap, ◌∙◌, subst, take, arith}
use Rattle.std.specs.Prelude.{IfSome}
use Rattle.text_core.specs.Outside.{Files, file_at, grown, HasNewFault}
use Rattle.text_core.specs.declared.place.Refusal.{Refusal}
use Rattle.text_core.specs.declared.verdict.Clause.{Clause}
use Rattle.smv_text.specs.Tree.{PlainSource}
use Rattle.command_core.specs.declared.status.Status.{Status}
use Rattle.command_core.specs.declared.status.Status.TheVariants as status
use Rattle.command_core.specs.declared.answer.Answer.{Answer}
use Rattle.command_core.specs.declared.answer.Answer.TheVariants.{Usage, Unread, Refused, SecondRefused, No, Done}
use Rattle.command_core.specs.declared.answer.Output.TheVariants.{Text}
use Rattle.top_call.specs.declared.words.Command.{Command}
use Rattle.top_call.specs.declared.words.Command.TheVariants.{SmvToBtor, SmvToMoxi, MoxiToBtor, BtorToMoxi, Simplify, JudgeBtor, JudgeSmv, JudgeMoxi, LiftSmv, LiftMoxi, Lower, Generate}
use Rattle.command_core.specs.Answers.{status_of, text_of, line_of}
use Rattle.command_core.specs.Notes.{no_memory_line}
use Rattle.top_call.specs.Outcome.{IsAbsent, IsCutLine, IsLineOf, MayAnswer, outcome_of}
use Rattle.command_core.specs.Giving.{IfExposed}
use Rattle.top_call.specs.Words.{Answers, HasCorrectOutput}
use Rattle.smv_commands.specs.Scripts.{ScriptsAreCorrect, moxi_text}
use Rattle.command_core.specs.Sinks.{IsPart, Noted}
use Rattle.smv_commands.specs.Translation.{Accepts, TranslatesTo, TranslationsAreCorrect, btor_text}
use Rattle.btor_commands.specs.Importing.{ScriptsAreCorrect as ImportsAreCorrect, script_text}
use Rattle.btor_commands.proofs.Imported as imports
use Rattle.btor_commands.proofs.Imported.{one_import}
use Rattle.btor_commands.specs.Simplifying.{IsSmallerText, SmallerTextsAreCorrect}
use Rattle.btor_commands.proofs.Smaller as smaller
use Rattle.btor_commands.proofs.Smaller.{accepted_before, one_simplification}
use Rattle.btor_commands.proofs.Judgements.{one_judgement}
use Rattle.smv_commands.proofs.TraceAnswers.{one_smv_judgement}
use Rattle.smv_commands.proofs.LoweredRuns as lowerings
use Rattle.smv_commands.proofs.LoweredRuns.{one_lowering}
use Rattle.smv_commands.specs.Lowering.{IsAcceptedRun, IsTraceOf, RunsAreLowered, StatesRun, lowered_text}
use Rattle.smv_models.specs.Models.{IsAcceptedModel}
use Rattle.smv_meaning.specs.declared.value.Run.{Run}
use Rattle.smv_commands.proofs.ScriptStands.{one_script}
use Rattle.smv_commands.proofs.Given as scripts
use Rattle.moxi_scripts.specs.Script.{PlainScript}
use Rattle.moxi_commands.specs.Translation.{IsInstantiated, LinesAreCorrect, OfBytes as OfScriptBytes, btor_text as script_lines}
use Rattle.moxi_commands.specs.Limits.{most_script_bytes}
use Rattle.moxi_commands.specs.Scripts.{script_too_long}
use Rattle.top_call.specs.Routes.{KeepsFrames, RoutesMeet}
use Rattle.top_call.proofs.Returns.{keeps}
use Rattle.command_core.specs.laws.Files.{on_read}
use Rattle.moxi_commands.proofs.Judged.{one_moxi_judgement}
use Rattle.moxi_commands.proofs.Translated.{one_text}
use Rattle.moxi_commands.proofs.Translated as lines
use Rattle.smv_commands.proofs.LinesGiven as translations
use Rattle.smv_commands.proofs.LinesGiven.{one_translation}
use Rattle.text_core.specs.declared.verdict.Verdict.TheVariants.{Yes}
use Rattle.btor_tree.specs.declared.lines.Line.{Line}
use Rattle.btor_tree.specs.Texts.{SpellsLines}
use Rattle.btor_witness.specs.declared.witness.Witness.{Witness}
use Rattle.btor_witness.specs.Judging.{judged_btor}
use Rattle.btor_witness.specs.Texts.{SpellsWitness}
use Rattle.smv_commands.specs.SmvLift.{LiftsBack, RunsAreLifted, lifted_trace}
use Rattle.moxi_commands.specs.MoxiLift.{LiftsBack as RespondsBack, TracesAreLifted, lifted_response}
use Rattle.smv_commands.proofs.Smv as traces
use Rattle.smv_commands.proofs.Smv.{one_smv_lift}
use Rattle.moxi_commands.proofs.Moxi as responses
use Rattle.generate.specs.Generating.{IsGenerated}
use Rattle.generate.specs.Laws.{OneGenerated}
use Rattle.top_call.proofs.Summaries as generated
use Rattle.moxi_commands.proofs.Moxi.{one_moxi_lift}
use Rattle.text_core.proofs.OutsideLemmas.{grown_nothing}

-- words and files define one answer
pub one_answer : (once : OneGenerated) → (command : Option Command) (fs : Files) (a b : Answer) → Answers command fs a → Answers command fs b → a ≡ b
one_answer once None fs a b h k = h ∙ sym k
one_answer once (Some (SmvToBtor model)) fs a b h k = one_translation fs model a b h k
one_answer once (Some (SmvToMoxi model)) fs a b h k = one_script fs model a b h k
one_answer once (Some (MoxiToBtor model)) fs a b h k = one_text fs model a b h k
one_answer once (Some (BtorToMoxi model)) fs a b h k = one_import fs model a b h k
one_answer once (Some (Simplify model)) fs a b h k = one_simplification fs model a b h k
one_answer once (Some (JudgeBtor model second)) fs a b h k = one_judgement fs model second a b h k
one_answer once (Some (JudgeSmv model second j)) fs a b h k = one_smv_judgement fs model second j a b h k
one_answer once (Some (JudgeMoxi model second)) fs a b h k = one_moxi_judgement fs model second a b h k
one_answer once (Some (LiftSmv model second)) fs a b h k = one_smv_lift fs model second a b h k
one_answer once (Some (LiftMoxi model second)) fs a b h k = one_moxi_lift fs model second a b h k
one_answer once (Some (Lower model second j)) fs a b h k = one_lowering fs model second j a b h k
one_answer once (Some (Generate n)) fs a b h k = once n a b h k

-- where the shelf's count did not rise, an answer that may be given is the defined one
defined : (fs : Files) (command : Option Command) (faulted : Type 0) (a : Answer) → MayAnswer (Some fs) command faulted a → (faulted → ⊥) → Answers command fs a
defined fs None faulted a m n = m
defined fs (Some command) faulted Usage m n = absurd m
defined fs (Some command) faulted (Unread name) m n = elim m.1 [ inl r ↦ absurd (n r) | inr d ↦ d ]
defined fs (Some command) faulted a m n = m

-- a status is the answer's, or a fault of a sink
abbrev Ends : Status → Answer → Type 0
Ends s a = (s ≡ status_of a) ⊎ (s ≡ status.WriteFault)

-- an answer that isn't that a file was not read is the defined one
exposed : (files : Option Files) (command : Option Command) (faulted : Type 0) (a : Answer) → MayAnswer files command faulted a → status_of a ≢ status.ReadFault → IfSome files (λ fs. Answers command fs a)
exposed None command faulted a m n = tt
exposed (Some fs) None faulted a m n = m
exposed (Some fs) (Some command) faulted Usage m n = absurd m
exposed (Some fs) (Some command) faulted (Unread name) m n = absurd (n refl)
exposed (Some fs) (Some command) faulted a m n = m

by_status : {A : Type 0} (s other : Status) (a : Answer) → Ends s a → s ≡ other → other ≢ status.WriteFault → (status_of a ≡ other → A) → A
by_status s other a ends is differs go = elim ends [ inl e ↦ go (sym e ∙ is) | inr w ↦ absurd (differs (sym is ∙ w)) ]

done_by : (files : Option Files) (command : Option Command) (faulted : Type 0) (a : Answer) (before now : Option (List ℕ)) → MayAnswer files command faulted a → status_of a ≡ status.Done → now ≡ grown before (text_of a) → IfSome files (λ fs. (b : Answer) × Answers command fs b × (status_of b ≡ status.Done) × (now ≡ grown before (text_of b)))
done_by None command faulted a before now m s t = tt
done_by (Some fs) command faulted a before now m s t =
    let read : status_of a ≢ status.ReadFault = λ r. let clash : status.Done ≡ status.ReadFault = sym s ∙ r in absurd (cc) in
    (a, exposed (Some fs) command faulted a m read, s, t)

pub run_done : (files : Option Files) (command : Option Command) (faulted : Type 0) (a : Answer) (s : Status) (before now : Option (List ℕ)) → MayAnswer files command faulted a → Ends s a → (s ≢ status.WriteFault → now ≡ grown before (text_of a)) → s ≡ status.Done → IfSome files (λ fs. (b : Answer) × Answers command fs b × (status_of b ≡ status.Done) × (now ≡ grown before (text_of b)))
run_done files command faulted a s before now m ends t is =
    let differs : s ≢ status.WriteFault = λ w. let clash : status.Done ≡ status.WriteFault = sym is ∙ w in absurd (cc) in
    elim ends [ inl e ↦ done_by files command faulted a before now m (sym e ∙ is) (t differs) | inr w ↦ absurd (differs w) ]

refused_by : (files : Option Files) (command : Option Command) (faulted : Type 0) (a : Answer) → MayAnswer files command faulted a → status_of a ≡ status.Refused → IfSome files (λ fs. (refusal : Refusal) × Answers command fs (Refused refusal))
refused_by None command faulted a m s = tt
refused_by (Some fs) None faulted a m s = absurd (let clash : status.Usage ≡ status.Refused = sym (ap status_of m) ∙ s in cc)
refused_by (Some fs) (Some command) faulted (Refused r) m s = (r, m)
refused_by (Some fs) (Some command) faulted a m s = absurd (cc)

pub run_refused : (files : Option Files) (command : Option Command) (faulted : Type 0) (a : Answer) (s : Status) → MayAnswer files command faulted a → Ends s a → s ≡ status.Refused → IfSome files (λ fs. (refusal : Refusal) × Answers command fs (Refused refusal))
run_refused files command faulted a s m ends is = by_status s status.Refused a ends is (λ e. absurd (cc)) (refused_by files command faulted a m)

second_refused_by : (files : Option Files) (command : Option Command) (faulted : Type 0) (a : Answer) → MayAnswer files command faulted a → status_of a ≡ status.SecondRefused → IfSome files (λ fs. (refusal : Refusal) × Answers command fs (SecondRefused refusal))
second_refused_by None command faulted a m s = tt
second_refused_by (Some fs) None faulted a m s = absurd (let clash : status.Usage ≡ status.SecondRefused = sym (ap status_of m) ∙ s in cc)
second_refused_by (Some fs) (Some command) faulted (SecondRefused r) m s = (r, m)
second_refused_by (Some fs) (Some command) faulted a m s = absurd (cc)

pub run_second_refused : (files : Option Files) (command : Option Command) (faulted : Type 0) (a : Answer) (s : Status) → MayAnswer files command faulted a → Ends s a → s ≡ status.SecondRefused → IfSome files (λ fs. (refusal : Refusal) × Answers command fs (SecondRefused refusal))
run_second_refused files command faulted a s m ends is = by_status s status.SecondRefused a ends is (λ e. absurd (cc)) (second_refused_by files command faulted a m)

no_by : (files : Option Files) (command : Option Command) (faulted : Type 0) (a : Answer) → MayAnswer files command faulted a → status_of a ≡ status.No → IfSome files (λ fs. (step : ℕ) × (clause : Clause) × Answers command fs (No step clause))
no_by None command faulted a m s = tt
no_by (Some fs) None faulted a m s = absurd (let clash : status.Usage ≡ status.No = sym (ap status_of m) ∙ s in cc)
no_by (Some fs) (Some command) faulted (No step clause) m s = (step, clause, m)
no_by (Some fs) (Some command) faulted a m s = absurd (cc)

pub run_no : (files : Option Files) (command : Option Command) (faulted : Type 0) (a : Answer) (s : Status) → MayAnswer files command faulted a → Ends s a → s ≡ status.No → IfSome files (λ fs. (step : ℕ) × (clause : Clause) × Answers command fs (No step clause))
run_no files command faulted a s m ends is = by_status s status.No a ends is (λ e. absurd (cc)) (no_by files command faulted a m)

usage_by : (files : Option Files) (command : Option Command) (faulted : Type 0) (a : Answer) → MayAnswer files command faulted a → status_of a ≡ status.Usage → command ≡ None
usage_by files None faulted a m s = refl
usage_by files (Some command) faulted Usage m s = absurd m
usage_by files (Some command) faulted a m s = absurd (cc)

pub run_usage : (files : Option Files) (command : Option Command) (faulted : Type 0) (a : Answer) (s : Status) → MayAnswer files command faulted a → Ends s a → s ≡ status.Usage → command ≡ None
run_usage files command faulted a s m ends is = by_status s status.Usage a ends is (λ e. absurd (cc)) (usage_by files command faulted a m)

pub run_no_command : (files : Option Files) (command : Option Command) (faulted : Type 0) (a : Answer) (s : Status) → MayAnswer files command faulted a → Ends s a → command ≡ None → (s ≡ status.Usage) ⊎ ((s ≡ status.WriteFault) ⊎ (s ≡ status.NoMemory))
run_no_command files None faulted a s m ends none = elim ends [ inl e ↦ inl (e ∙ ap status_of m) | inr w ↦ inr (inl w) ]
run_no_command files (Some command) faulted a s m ends none = absurd (cc)

read_by : (files : Option Files) (command : Option Command) (faulted : Type 0) (a : Answer) → MayAnswer files command faulted a → status_of a ≡ status.ReadFault → faulted ⊎ IsAbsent files command
read_by files None faulted a m s = absurd (let clash : status.Usage ≡ status.ReadFault = sym (ap status_of m) ∙ s in cc)
read_by files (Some command) faulted (Unread name) m s = elim m.1 [ inl r ↦ inl r | inr d ↦ inr (absent_by files (Some command) name d) ]
  where
    absent_by : (files : Option Files) (command : Option Command) (name : List ℕ) → IfExposed files (λ fs. Answers command fs (Unread name)) → IsAbsent files command
    absent_by None command name d = d
    absent_by (Some fs) command name d = (name, d)
read_by files (Some command) faulted a m s = absurd (cc)

pub run_read_fault : (files : Option Files) (command : Option Command) (faulted : Type 0) (a : Answer) (s : Status) → MayAnswer files command faulted a → Ends s a → s ≡ status.ReadFault → faulted ⊎ IsAbsent files command
run_read_fault files command faulted a s m ends is = by_status s status.ReadFault a ends is (λ e. absurd (cc)) (read_by files command faulted a m)

unread_by : (once : OneGenerated) → (fs : Files) (command : Option Command) (faulted : Type 0) (a : Answer) (name : List ℕ) → MayAnswer (Some fs) command faulted a → Answers command fs (Unread name) → status_of a ≡ status.ReadFault
unread_by once fs None faulted a name m d = absurd (let clash : Unread name ≡ Usage = d in cc)
unread_by once fs (Some command) faulted Usage name m d = absurd m
unread_by once fs (Some command) faulted (Unread other) name m d = refl
unread_by once fs (Some command) faulted (Refused r) name m d = ap status_of (one_answer once (Some command) fs (Refused r) (Unread name) m d)
unread_by once fs (Some command) faulted (SecondRefused r) name m d = ap status_of (one_answer once (Some command) fs (SecondRefused r) (Unread name) m d)
unread_by once fs (Some command) faulted (No step clause) name m d = ap status_of (one_answer once (Some command) fs (No step clause) (Unread name) m d)
unread_by once fs (Some command) faulted (Done output) name m d = ap status_of (one_answer once (Some command) fs (Done output) (Unread name) m d)

pub run_absent : (once : OneGenerated) → (files : Option Files) (command : Option Command) (faulted : Type 0) (a : Answer) (s : Status) → MayAnswer files command faulted a → Ends s a → IsAbsent files command → (s ≡ status.ReadFault) ⊎ ((s ≡ status.WriteFault) ⊎ (s ≡ status.NoMemory))
run_absent once None command faulted a s m ends absent = absurd absent
run_absent once (Some fs) command faulted a s m ends absent =
    elim ends [ inl e ↦ inl (e ∙ unread_by once fs command faulted a absent.0 m absent.1) | inr w ↦ inr (inl w) ]

-- nothing was taken
pub none_put : (files : Option Files) (words : List (List ℕ)) (before : Option (List ℕ)) → IfSome files (λ fs. (a : Answer) → outcome_of words fs a → IsPart before before (text_of a))
none_put None words before = tt
none_put (Some fs) words before = λ a d. record { count = 0; within = omega arith; taken = sym (grown_nothing before) }

-- nothing was put, which is a front of anything
nothing_put : (before now : Option (List ℕ)) (bytes : List ℕ) → IsPart before now [] → IsPart before now bytes
nothing_put before now bytes p =
    let none : p.count ≡ 0 = omega (arith, p.within) in
    record { count = 0; within = omega arith; taken = p.taken ∙ ap (λ n. grown before (take n [])) none }

part_by : (once : OneGenerated) → (fs : Files) (command : Option Command) (faulted : Type 0) (a b : Answer) (before now : Option (List ℕ)) → MayAnswer (Some fs) command faulted a → Answers command fs b → IsPart before now (text_of a) → IsPart before now (text_of b)
part_by once fs None faulted a b before now m d p = subst (IsPart before now) (ap text_of (m ∙ sym d)) p
part_by once fs (Some command) faulted (Done output) b before now m d p = subst (IsPart before now) (ap text_of (one_answer once (Some command) fs (Done output) b m d)) p
part_by once fs (Some command) faulted a b before now m d p = nothing_put before now (text_of b) p

pub run_prefix : (once : OneGenerated) → (files : Option Files) (command : Option Command) (faulted : Type 0) (a : Answer) (before now : Option (List ℕ)) → MayAnswer files command faulted a → IsPart before now (text_of a) → IfSome files (λ fs. (b : Answer) → Answers command fs b → IsPart before now (text_of b))
run_prefix once None command faulted a before now m p = tt
run_prefix once (Some fs) command faulted a before now m p = λ b d. part_by once fs command faulted a b before now m d p

pub run_complete : (once : OneGenerated) → (files : Option Files) (command : Option Command) (shelf out notes : Type 0) (a : Answer) (s : Status) (before now was is : Option (List ℕ)) → MayAnswer files command shelf a → Ends s a
    → (s ≢ status.WriteFault → now ≡ grown before (text_of a)) → (s ≢ status.WriteFault → is ≡ grown was (line_of a)) → (s ≡ status.WriteFault → out ⊎ notes)
    → IfSome files (λ fs. (shelf → ⊥) × (out → ⊥) × (notes → ⊥) → (b : Answer) → Answers command fs b → ((s ≡ status_of b) × (now ≡ grown before (text_of b)) × (is ≡ grown was (line_of b))) ⊎ (s ≡ status.NoMemory))
run_complete once None command shelf out notes a s before now was is m ends text line w = tt
run_complete once (Some fs) command shelf out notes a s before now was is m ends text line w = λ none b d.
    let whole : s ≢ status.WriteFault = λ f. elim (w f) [ inl r ↦ none.1 r | inr r ↦ none.2 r ] in
    let same = one_answer once command fs a b (defined fs command shelf a m none.0) d in
    elim ends [
      | inl e ↦ inl (e ∙ ap status_of same, text whole ∙ ap (λ x. grown before (text_of x)) same, line whole ∙ ap (λ x. grown was (line_of x)) same)
      | inr f ↦ absurd (whole f)
    ]

quiet : (a : Answer) → status_of a ≢ status.Done → text_of a ≡ []
quiet (Done output) n = absurd (n refl)
quiet a n = refl

-- nothing is written but where all is done
pub run_untouched : (a : Answer) (s : Status) (before now : Option (List ℕ)) → Ends s a → (s ≢ status.WriteFault → now ≡ grown before (text_of a)) → s ≢ status.Done → s ≢ status.WriteFault → now ≡ before
run_untouched a s before now ends text d w =
    elim ends [
      | inl e ↦ text w ∙ ap (grown before) (quiet a (λ f. d (e ∙ f))) ∙ grown_nothing before
      | inr f ↦ absurd (w f)
    ]

-- nothing is noted where all is done
silent_by : (a : Answer) → status_of a ≡ status.Done → line_of a ≡ []
silent_by (Done output) e = refl
silent_by a e = absurd (cc)

pub run_silent : (a : Answer) (s : Status) (before now : Option (List ℕ)) → Ends s a → (s ≢ status.WriteFault → now ≡ grown before (line_of a)) → s ≡ status.Done → now ≡ before
run_silent a s before now ends line is =
    let differs : s ≢ status.WriteFault = λ w. let clash : status.Done ≡ status.WriteFault = sym is ∙ w in absurd (cc) in
    elim ends [
      | inl e ↦ line differs ∙ ap (grown before) (silent_by a (sym e ∙ is)) ∙ grown_nothing before
      | inr f ↦ absurd (differs f)
    ]

-- the line of an answer that may be given is that of its status
line_stands : (files : Option Files) (command : Option Command) (faulted : Type 0) (a : Answer) → MayAnswer files command faulted a → IsLineOf files command faulted (status_of a) (line_of a)
line_stands files None faulted a m = subst (λ b. IsLineOf files None faulted (status_of b) (line_of b)) (sym m) (refl, refl)
line_stands files (Some command) faulted Usage m = absurd m
line_stands files (Some command) faulted (Unread name) m = (name, m, refl)
line_stands files (Some command) faulted (Refused r) m = (r, m, refl)
line_stands files (Some command) faulted (SecondRefused r) m = (r, m, refl)
line_stands files (Some command) faulted (No step clause) m = (step, clause, m, refl)
line_stands files (Some command) faulted (Done output) m = refl

pub run_noted : (files : Option Files) (command : Option Command) (faulted : Type 0) (a : Answer) (s : Status) (before now : Option (List ℕ)) → MayAnswer files command faulted a → Ends s a → (s ≢ status.WriteFault → now ≡ grown before (line_of a)) → s ≢ status.WriteFault
    → (line : List ℕ) × IsLineOf files command faulted s line × (now ≡ grown before line)
run_noted files command faulted a s before now m ends line w =
    elim ends [
      | inl e ↦ (line_of a, subst (λ t. IsLineOf files command faulted t (line_of a)) (sym e) (line_stands files command faulted a m), line w)
      | inr f ↦ absurd (w f)
    ]

no_fault : (a : Answer) → status_of a ≢ status.WriteFault
no_fault Usage e = absurd (cc)
no_fault (Unread name) e = absurd (cc)
no_fault (Refused r) e = absurd (cc)
no_fault (SecondRefused r) e = absurd (cc)
no_fault (No step clause) e = absurd (cc)
no_fault (Done output) e = absurd (cc)

pub run_cut : (files : Option Files) (command : Option Command) (faulted : Type 0) (a : Answer) (before now : Option (List ℕ)) → MayAnswer files command faulted a → status_of a ≢ status.Done → IsPart before now (line_of a) → IsCutLine files command faulted before now
run_cut files command faulted a before now m d p =
    record { ending = status_of a; notes = d; differs = no_fault a; line = line_of a; is_line = line_stands files command faulted a m; front = p }

pub run_fault_noted : (files : Option Files) (command : Option Command) (faulted : Type 0) (a : Answer) (s : Status) (out notes untouched : Type 0) (before now : Option (List ℕ)) → MayAnswer files command faulted a
    → (s ≡ status.WriteFault → out ⊎ (untouched × (status_of a ≢ status.Done) × IsPart before now (line_of a) × notes)) → s ≡ status.WriteFault → out ⊎ (notes × untouched × IsCutLine files command faulted before now)
run_fault_noted files command faulted a s out notes untouched before now m w is =
    elim (w is) [ inl o ↦ inl o | inr c ↦ inr (c.3, c.0, run_cut files command faulted a before now m c.1 c.2) ]

pub run_write_fault : (out exposed untouched undone part notes : Type 0) (s : Status) → (s ≡ status.WriteFault → (out × exposed) ⊎ (untouched × undone × part × notes)) → s ≡ status.WriteFault → out ⊎ notes
run_write_fault out exposed untouched undone part notes s w is = elim (w is) [ inl o ↦ inl o.0 | inr n ↦ inr n.3 ]

no_want : (a : Answer) → status_of a ≢ status.NoMemory
no_want Usage e = absurd (cc)
no_want (Unread name) e = absurd (cc)
no_want (Refused r) e = absurd (cc)
no_want (SecondRefused r) e = absurd (cc)
no_want (No step clause) e = absurd (cc)
no_want (Done output) e = absurd (cc)

-- an answer that is there isn't out of memory
pub run_memory : {P : Type 0} (a : Answer) (s : Status) → Ends s a → s ≡ status.NoMemory → P
run_memory a s ends is =
    elim ends [
      | inl e ↦ absurd (no_want a (sym e ∙ is))
      | inr w ↦ absurd (let clash : status.WriteFault ≡ status.NoMemory = sym w ∙ is in cc)
    ]

pub memory_fault_noted : {T : Type 0} (files : Option Files) (command : Option Command) (faulted out : Type 0) (s : Status) (taken : T) (before now : Option (List ℕ)) (count later : ℕ) → Noted before now count later no_memory_line status.NoMemory s → s ≡ status.WriteFault
    → out ⊎ (HasNewFault count later × (taken ≡ taken) × IsCutLine files command faulted before now)
memory_fault_noted files command faulted out s taken before now count later n is =
    elim n [
      | inl whole ↦ absurd (let clash : status.WriteFault ≡ status.NoMemory = sym is ∙ whole.0 in cc)
      | inr cut ↦ inr (cut.2, refl, record { ending = status.NoMemory; notes = λ e. absurd (cc); differs = λ e. absurd (cc); line = no_memory_line; is_line = refl; front = cut.1 })
    ]

-- what the laws say of the texts that are written
pub record Laws : Type 0 where
  pub texts : TranslationsAreCorrect
  pub scripts : ScriptsAreCorrect
  pub lines : LinesAreCorrect
  pub imports : ImportsAreCorrect
  pub smaller : SmallerTextsAreCorrect
  pub traces : RunsAreLifted
  pub witnesses : RunsAreLowered
  pub responses : TracesAreLifted

correct_output_by : (laws : Laws) (command : Option Command) (fs : Files) (b : Answer) (before now : Option (List ℕ)) → Answers command fs b → status_of b ≡ status.Done → now ≡ grown before (text_of b) → HasCorrectOutput command fs before now
correct_output_by laws None fs b before now h s w = let e : status.Usage ≡ status.Done = sym (ap status_of h) ∙ s in absurd (cc)
correct_output_by laws (Some (SmvToBtor model)) fs b before now h s w = translations.correct_output laws.texts fs model b before now h s w
correct_output_by laws (Some (SmvToMoxi model)) fs b before now h s w = scripts.correct_output laws.scripts fs model b before now h s w
correct_output_by laws (Some (MoxiToBtor model)) fs b before now h s w = lines.correct_output laws.lines fs model b before now h s w
correct_output_by laws (Some (BtorToMoxi model)) fs b before now h s w = imports.correct_output laws.imports fs model b before now h s w
correct_output_by laws (Some (Simplify model)) fs b before now h s w = smaller.correct_output laws.smaller fs model b before now h s w
correct_output_by laws (Some (LiftSmv model second)) fs b before now h s w = traces.correct_output laws.traces fs model second b before now h s w
correct_output_by laws (Some (LiftMoxi model second)) fs b before now h s w = responses.correct_output laws.responses fs model second b before now h s w
correct_output_by laws (Some (Lower model second j)) fs b before now h s w = lowerings.correct_output laws.witnesses fs model second j b before now h s w
correct_output_by laws (Some (Generate n)) fs b before now h s w = generated.summarized n b before now h s w
correct_output_by laws (Some command) fs b before now h s w = tt

pub run_correct_output : (laws : Laws) (files : Option Files) (command : Option Command) (before now : Option (List ℕ)) → IfSome files (λ fs. (b : Answer) × Answers command fs b × (status_of b ≡ status.Done) × (now ≡ grown before (text_of b))) → IfSome files (λ fs. HasCorrectOutput command fs before now)
run_correct_output laws None command before now h = tt
run_correct_output laws (Some fs) command before now h = correct_output_by laws command fs h.0 before now h.1 h.2 h.3

pub run_translates : (once : OneGenerated) → (texts : TranslationsAreCorrect) (files : Option Files) (command : Option Command) (shelf out notes : Type 0) (a : Answer) (s : Status) (before now : Option (List ℕ)) → MayAnswer files command shelf a → Ends s a → (s ≢ status.WriteFault → now ≡ grown before (text_of a)) → (s ≡ status.WriteFault → out ⊎ notes)
    → IfSome files (λ fs. (model bytes : List ℕ) (source : PlainSource) → command ≡ Some (SmvToBtor model) → file_at fs model ≡ Some bytes → Accepts bytes source → ((shelf → ⊥) × (out → ⊥) × (notes → ⊥)) × (s ≢ status.NoMemory) → (s ≡ status.Done) × ((text : List ℕ) × (now ≡ grown before text) × TranslatesTo source text))
run_translates once texts None command shelf out notes a s before now m ends taken w = tt
run_translates once texts (Some fs) command shelf out notes a s before now m ends taken w = λ model bytes source is there acc well.
    let same = one_answer once command fs a (Done (Text (btor_text source))) (defined fs command shelf a m well.0.0) (subst (λ c. Answers c fs (Done (Text (btor_text source)))) (sym is) (translations.accepted_answer fs model bytes source there acc)) in
    let whole : s ≢ status.WriteFault = λ f. elim (w f) [ inl r ↦ well.0.1 r | inr r ↦ well.0.2 r ] in
    elim ends [
      | inl e ↦ (e ∙ ap status_of same, (btor_text source, taken whole ∙ ap (λ x. grown before (text_of x)) same, texts bytes source acc))
      | inr f ↦ absurd (whole f)
    ]

pub run_lifts : (once : OneGenerated) → (lifted : RunsAreLifted) (files : Option Files) (command : Option Command) (shelf out notes : Type 0) (a : Answer) (s : Status) (before now : Option (List ℕ)) → MayAnswer files command shelf a → Ends s a → (s ≢ status.WriteFault → now ≡ grown before (text_of a)) → (s ≡ status.WriteFault → out ⊎ notes)
    → IfSome files (λ fs. (model second bytes text : List ℕ) (source : PlainSource) (lines : List Line) (w : Witness) → command ≡ Some (LiftSmv model second) → file_at fs model ≡ Some bytes → Accepts bytes source → SpellsLines (btor_text source) lines
    → file_at fs second ≡ Some text → SpellsWitness lines text w → judged_btor lines w Yes → ((shelf → ⊥) × (out → ⊥) × (notes → ⊥)) × (s ≢ status.NoMemory) → (s ≡ status.Done) × ((trace : List ℕ) × (now ≡ grown before trace) × LiftsBack source w trace))
run_lifts once lifted None command shelf out notes a s before now m ends taken w = tt
run_lifts once lifted (Some fs) command shelf out notes a s before now m ends taken w = λ model second bytes text source lines v is there acc spelled second_there states judged well.
    let answer = Done (Text (lifted_trace source v)) in
    let same = one_answer once command fs a answer (defined fs command shelf a m well.0.0) (subst (λ c. Answers c fs answer) (sym is) (traces.accepted_answer fs model second bytes text source lines v there acc spelled second_there states judged)) in
    let whole : s ≢ status.WriteFault = λ f. elim (w f) [ inl r ↦ well.0.1 r | inr r ↦ well.0.2 r ] in
    elim ends [
      | inl e ↦ (e ∙ ap status_of same, (lifted_trace source v, taken whole ∙ ap (λ x. grown before (text_of x)) same, lifted bytes source acc lines spelled text v states judged))
      | inr f ↦ absurd (whole f)
    ]

-- a trace of an accepted model of which the judge says Yes is written as the witness that states its run
pub run_lowers : (once : OneGenerated) → (lowered : RunsAreLowered) (files : Option Files) (command : Option Command) (shelf out notes : Type 0) (a : Answer) (s : Status) (before now : Option (List ℕ)) → MayAnswer files command shelf a → Ends s a → (s ≢ status.WriteFault → now ≡ grown before (text_of a)) → (s ≡ status.WriteFault → out ⊎ notes)
    → IfSome files (λ fs. (model second bytes trace : List ℕ) (j : ℕ) (source : PlainSource) (run : Run) → command ≡ Some (Lower model second j) → file_at fs model ≡ Some bytes → IsAcceptedModel bytes j source → file_at fs second ≡ Some trace → IsTraceOf source trace run
    → IsAcceptedRun source j run → ((shelf → ⊥) × (out → ⊥) × (notes → ⊥)) × (s ≢ status.NoMemory) → (s ≡ status.Done) × ((text : List ℕ) × (now ≡ grown before text) × StatesRun source j run text))
run_lowers once lowered None command shelf out notes a s before now m ends taken w = tt
run_lowers once lowered (Some fs) command shelf out notes a s before now m ends taken w = λ model second bytes trace j source run is there acc second_there states judged well.
    let answer = Done (Text (lowered_text source j run)) in
    let same = one_answer once command fs a answer (defined fs command shelf a m well.0.0) (subst (λ c. Answers c fs answer) (sym is) (lowerings.accepted_answer fs model second bytes trace j source run there acc second_there states judged)) in
    let whole : s ≢ status.WriteFault = λ f. elim (w f) [ inl r ↦ well.0.1 r | inr r ↦ well.0.2 r ] in
    elim ends [
      | inl e ↦ (e ∙ ap status_of same, (lowered_text source j run, taken whole ∙ ap (λ x. grown before (text_of x)) same, lowered bytes j source acc trace run states judged))
      | inr f ↦ absurd (whole f)
    ]

-- a witness for the smaller text of a model's text is lifted like one for the text itself
pub run_lifts_smaller : (once : OneGenerated) → (lifted : RunsAreLifted) (stand : SmallerTextsAreCorrect) (files : Option Files) (command : Option Command) (shelf out notes : Type 0) (a : Answer) (s : Status) (before now : Option (List ℕ)) → MayAnswer files command shelf a → Ends s a → (s ≢ status.WriteFault → now ≡ grown before (text_of a)) → (s ≡ status.WriteFault → out ⊎ notes)
    → IfSome files (λ fs. (model second bytes shorter text : List ℕ) (source : PlainSource) (lines : List Line) (w : Witness) → command ≡ Some (LiftSmv model second) → file_at fs model ≡ Some bytes → Accepts bytes source → IsSmallerText (btor_text source) shorter → SpellsLines shorter lines
    → file_at fs second ≡ Some text → SpellsWitness lines text w → judged_btor lines w Yes → ((shelf → ⊥) × (out → ⊥) × (notes → ⊥)) × (s ≢ status.NoMemory) → (s ≡ status.Done) × ((trace : List ℕ) × (now ≡ grown before trace) × LiftsBack source w trace))
run_lifts_smaller once lifted stand None command shelf out notes a s before now m ends taken w = tt
run_lifts_smaller once lifted stand (Some fs) command shelf out notes a s before now m ends taken w = λ model second bytes shorter text source lines v is there acc smaller_text spelled second_there states judged well.
    let own = accepted_before stand (btor_text source) shorter lines smaller_text spelled text v states judged in
    run_lifts once lifted (Some fs) command shelf out notes a s before now m ends taken w model second bytes text source own.0 v is there acc own.1 second_there own.2 own.3 well

-- and so is one for the smaller text of a script's text
pub run_responds : (once : OneGenerated) → (lifted : TracesAreLifted) (stand : SmallerTextsAreCorrect) (files : Option Files) (command : Option Command) (shelf out notes : Type 0) (a : Answer) (s : Status) (before now : Option (List ℕ)) → MayAnswer files command shelf a → Ends s a → (s ≢ status.WriteFault → now ≡ grown before (text_of a)) → (s ≡ status.WriteFault → out ⊎ notes)
    → IfSome files (λ fs. (model second bytes shorter text : List ℕ) (script : PlainScript) (lines : List Line) (w : Witness) → command ≡ Some (LiftMoxi model second) → file_at fs model ≡ Some bytes → IsInstantiated bytes script → IsSmallerText (script_lines script) shorter → SpellsLines shorter lines
    → file_at fs second ≡ Some text → SpellsWitness lines text w → judged_btor lines w Yes → ((shelf → ⊥) × (out → ⊥) × (notes → ⊥)) × (s ≢ status.NoMemory) → (s ≡ status.Done) × ((response : List ℕ) × (now ≡ grown before response) × RespondsBack script w response))
run_responds once lifted stand None command shelf out notes a s before now m ends taken w = tt
run_responds once lifted stand (Some fs) command shelf out notes a s before now m ends taken w = λ model second bytes shorter text script lines v is there instantiated smaller_text spelled second_there states judged well.
    let own = accepted_before stand (script_lines script) shorter lines smaller_text spelled text v states judged in
    let answer = Done (Text (lifted_response script v)) in
    let same = one_answer once command fs a answer (defined fs command shelf a m well.0.0) (subst (λ c. Answers c fs answer) (sym is) (responses.accepted_answer fs model second bytes text script own.0 v there instantiated own.1 second_there own.2 own.3)) in
    let whole : s ≢ status.WriteFault = λ f. elim (w f) [ inl r ↦ well.0.1 r | inr r ↦ well.0.2 r ] in
    elim ends [
      | inl e ↦ (e ∙ ap status_of same, (lifted_response script v, taken whole ∙ ap (λ x. grown before (text_of x)) same, lifted bytes script instantiated own.0 own.1 text v own.2 own.3))
      | inr f ↦ absurd (whole f)
    ]

pub run_routes : (once : OneGenerated) → (meet : RoutesMeet) (files : Option Files) (command : Option Command) (shelf out notes : Type 0) (a : Answer) (s : Status) (before now : Option (List ℕ)) → MayAnswer files command shelf a → Ends s a → (s ≢ status.WriteFault → now ≡ grown before (text_of a)) → (s ≡ status.WriteFault → out ⊎ notes)
    → IfSome files (λ fs. (model bytes : List ℕ) (source : PlainSource) → command ≡ Some (MoxiToBtor model) → Accepts bytes source → file_at fs model ≡ Some (moxi_text source) → length (moxi_text source) ≤ most_script_bytes → ((shelf → ⊥) × (out → ⊥) × (notes → ⊥)) × (s ≢ status.NoMemory)
    → (s ≡ status.Done) × (now ≡ grown before (btor_text source)))
run_routes once meet None command shelf out notes a s before now m ends taken w = tt
run_routes once meet (Some fs) command shelf out notes a s before now m ends taken w = λ model bytes source is acc there within well.
    let answer = Done (Text (btor_text source)) in
    let made = on_read fs model (moxi_text source) most_script_bytes script_too_long OfScriptBytes answer there within (meet bytes source acc within) in
    let same = one_answer once command fs a answer (defined fs command shelf a m well.0.0) (subst (λ c. Answers c fs answer) (sym is) made) in
    let whole : s ≢ status.WriteFault = λ f. elim (w f) [ inl r ↦ well.0.1 r | inr r ↦ well.0.2 r ] in
    elim ends [
      | inl e ↦ (e ∙ ap status_of same, taken whole ∙ ap (λ x. grown before (text_of x)) same)
      | inr f ↦ absurd (whole f)
    ]

pub run_returns : (once : OneGenerated) → (made : ImportsAreCorrect) → (stand : LinesAreCorrect) (files : Option Files) (command : Option Command) (shelf out notes : Type 0) (a : Answer) (s : Status) (before now : Option (List ℕ)) → MayAnswer files command shelf a → Ends s a → (s ≢ status.WriteFault → now ≡ grown before (text_of a)) → (s ≡ status.WriteFault → out ⊎ notes)
    → IfSome files (λ fs. (model bytes : List ℕ) (lines : List Line) (script : PlainScript) → command ≡ Some (MoxiToBtor model) → SpellsLines bytes lines → file_at fs model ≡ Some (script_text lines) → IsInstantiated (script_text lines) script → ((shelf → ⊥) × (out → ⊥) × (notes → ⊥)) × (s ≢ status.NoMemory)
    → (s ≡ status.Done) × ((text : List ℕ) × (now ≡ grown before text) × KeepsFrames lines text))
run_returns once made stand None command shelf out notes a s before now m ends taken w = tt
run_returns once made stand (Some fs) command shelf out notes a s before now m ends taken w = λ model bytes lines script is spelled there instantiated well.
    let answer = Done (Text (script_lines script)) in
    let made_here = on_read fs model (script_text lines) most_script_bytes script_too_long OfScriptBytes answer there instantiated.is_script.within (script, instantiated, refl) in
    let same = one_answer once command fs a answer (defined fs command shelf a m well.0.0) (subst (λ c. Answers c fs answer) (sym is) made_here) in
    let whole : s ≢ status.WriteFault = λ f. elim (w f) [ inl r ↦ well.0.1 r | inr r ↦ well.0.2 r ] in
    elim ends [
      | inl e ↦ (e ∙ ap status_of same, (script_lines script, taken whole ∙ ap (λ x. grown before (text_of x)) same, keeps made stand bytes lines script spelled instantiated))
      | inr f ↦ absurd (whole f)
    ]

-- a front of nothing is nothing
nothing_taken : (n : ℕ) (before : Option (List ℕ)) → grown before (take n []) ≡ before
nothing_taken zero before = grown_nothing before
nothing_taken (suc n) before = grown_nothing before

pub run_generated : (once : OneGenerated) → (n : ℕ) (a : Answer) (s : Status) (before now was is : Option (List ℕ)) → IsGenerated n a → Ends s a → IsPart before now (text_of a) → (s ≢ status.WriteFault → now ≡ grown before (text_of a)) → (s ≢ status.WriteFault → is ≡ grown was (line_of a))
    → (s ≡ status.NoMemory) ⊎ (((s ≡ status.WriteFault) × ((b : Answer) → IsGenerated n b → IsPart before now (text_of b))) ⊎ ((b : Answer) × IsGenerated n b × ((s ≡ status_of b) × (now ≡ grown before (text_of b)) × (is ≡ grown was (line_of b)))))
run_generated once n a s before now was is made ends part taken noted =
    elim ends [
      | inl e ↦
          let whole : s ≢ status.WriteFault = λ f. no_fault a (sym e ∙ f) in
          inr (inr (a, made, (e, taken whole, noted whole)))
      | inr f ↦ inr (inl (f, λ b other. subst (λ (x : Answer). IsPart before now (text_of x)) (once n a b made other) part))
    ]

pub no_memory_generated : {T : Type 0} (n : ℕ) (s : Status) (taken before now : Option (List ℕ)) (count later : ℕ) → Noted before now count later no_memory_line status.NoMemory s
    → (s ≡ status.NoMemory) ⊎ (((s ≡ status.WriteFault) × ((b : Answer) → IsGenerated n b → IsPart taken taken (text_of b))) ⊎ T)
no_memory_generated n s taken before now count later noted =
    elim noted [
      | inl whole ↦ inl whole.0
      | inr cut ↦ inr (inl (cut.0, λ b made. record { count = 0; within = omega arith; taken = sym (grown_nothing taken) }))
    ]

-- nothing is written where the words are no command
pub run_no_text : (files : Option Files) (command : Option Command) (faulted : Type 0) (a : Answer) (before now : Option (List ℕ)) → MayAnswer files command faulted a → IsPart before now (text_of a) → command ≡ None → now ≡ before
run_no_text files None faulted a before now m part is =
    part.taken ∙ ap (λ bytes. grown before (take part.count bytes)) (ap text_of m) ∙ nothing_taken part.count before
run_no_text files (Some command) faulted a before now m part is = absurd (cc)
