-- What may be given of two files whose second states a witness, and that files define one such answer.
use Rattle.std.proofs.Common.{◌≡◌, inl, inr, ℕ, Bool, true, false, List, Option, Some, None, Ok, Err, refl, sym, ap, ◌∙◌, subst, cond, length}
use Rattle.std.specs.Prelude.{nat_lt}
use Rattle.text_core.specs.Outside.{Files, file_at}
use Rattle.text_core.specs.declared.verdict.Verdict.{Verdict}
use Rattle.text_core.specs.declared.verdict.Verdict.TheVariants.{Yes, No}
use Rattle.btor_tree.specs.declared.lines.Line.{Line}
use Rattle.btor_tree.specs.Fits.{IsWellFormed}
use Rattle.btor_tree.proofs.Grows.{empty_well_formed}
use Rattle.btor_tree.proofs.Readings.{one_list}
use Rattle.btor_tree.proofs.Resolved.{reads_well_formed}
use Rattle.btor_witness.specs.declared.witness.Witness.{Witness}
use Rattle.btor_witness.specs.Judging.{judged_btor}
use Rattle.btor_witness.specs.Printing.{IsWitness}
use Rattle.btor_witness.specs.Sizes.{sizes_of}
use Rattle.btor_witness.proofs.Kept.{text_fits}
use Rattle.btor_witness.specs.Texts.{SpellsWitness}
use Rattle.btor_witness.specs.laws.Laws.{not_both, one_witness, same_refusal}
use Rattle.btor_witness.specs.laws.Verdicts.{one_verdict}
use Rattle.command_core.specs.declared.answer.Answer.{Answer}
use Rattle.command_core.specs.declared.answer.Answer.TheVariants as answer
use Rattle.command_core.specs.declared.answer.Output.TheVariants.{Text}
use Rattle.command_core.specs.declared.status.Status.TheVariants as status
use Rattle.command_core.specs.Answers.{status_of}
use Rattle.command_core.specs.Reading.{ContinuesWith, file_within, within_limit}
use Rattle.command_core.specs.laws.Files.{goes_once}
use Rattle.btor_commands.specs.Judgement.{witness_too_long}
use Rattle.btor_commands.specs.Limits.{most_witness_bytes}
use Rattle.btor_commands.specs.Lifting.{IsLift, OfLines, OfText, lift_answer}

-- a witness that a text spells for lines fits them
pub spelled_fits : (lines : List Line) (text : List ℕ) (w : Witness) → SpellsWitness lines text w → IsWitness (sizes_of lines) w
spelled_fits lines text w h = (text_fits (sizes_of lines) text w h.1).0

-- ---- one answer

one_lift : (lines : List Line) (lifted : Witness → List ℕ) → IsWellFormed lines → (w : Witness) (a b : Answer) → IsLift lines lifted w a → IsLift lines lifted w b → a ≡ b
one_lift lines lifted well w a b h k = h.2 ∙ ap (lift_answer lifted w) (one_verdict lines w h.0 k.0 well h.1 k.1) ∙ sym k.2

one_text : (lines : List Line) (lifted : Witness → List ℕ) → IsWellFormed lines → (text : List ℕ) (a b : Answer) → OfText lines lifted text a → OfText lines lifted text b → a ≡ b
one_text lines lifted well text a b (inl x) (inl y) = one_lift lines lifted well y.0 a b (subst (λ w. IsLift lines lifted w a) (one_witness lines text x.0 y.0 x.1 y.1) x.2) y.2
one_text lines lifted well text a b (inl x) (inr r) = absurd (not_both lines text x.0 r.0.kind r.0.place.line x.1 r.1.0)
one_text lines lifted well text a b (inr r) (inl y) = absurd (not_both lines text y.0 r.0.kind r.0.place.line y.1 r.1.0)
one_text lines lifted well text a b (inr r) (inr q) = r.2 ∙ ap answer.SecondRefused (same_refusal lines text r.0 q.0 r.1 q.1) ∙ sym q.2

-- files define one lift of a witness
pub one_of_lines : (files : Files) (second btor : List ℕ) (lifted : Witness → List ℕ) (a b : Answer) → OfLines files second btor lifted a → OfLines files second btor lifted b → a ≡ b
one_of_lines files second btor lifted a b x y =
    let e : x.0 ≡ y.0 = one_list x.1 y.1 refl in
    goes_once (file_within files second most_witness_bytes witness_too_long) (OfText y.0 lifted) (λ text a b h k. one_text y.0 lifted (reads_well_formed y.1 empty_well_formed) text a b h k) a b
    (subst (λ ls. ContinuesWith (file_within files second most_witness_bytes witness_too_long) (OfText ls lifted) a) e x.2) y.2

-- ---- what was lifted

-- what is written for the second file is made of a witness that the judge accepts
pub done_second : {S : Type 0} (fs : Files) (second : List ℕ) (lines : List Line) (lifted : Witness → List ℕ) (b : Answer) → ContinuesWith (file_within fs second most_witness_bytes witness_too_long) (OfText lines lifted) b → status_of b ≡ status.Done
    → ((text : List ℕ) (w : Witness) → file_at fs second ≡ Some text → SpellsWitness lines text w → judged_btor lines w Yes → b ≡ answer.Done (Text (lifted w)) → S) → S
done_second {S} fs second lines lifted b h s go = by_content (file_at fs second) refl h
  where
    by_verdict : (text : List ℕ) (w : Witness) (v : Verdict) → file_at fs second ≡ Some text → SpellsWitness lines text w → judged_btor lines w v → b ≡ lift_answer lifted w v → S
    by_verdict text w Yes there spelled judged e = go text w there spelled judged e
    by_verdict text w (No step clause) there spelled judged e = let f : status.No ≡ status.Done = sym (ap status_of e) ∙ s in absurd (cc)

    by_text : (text : List ℕ) → file_at fs second ≡ Some text → OfText lines lifted text b → S
    by_text text there (inl x) = by_verdict text x.0 x.2.0 there x.1 x.2.1 x.2.2
    by_text text there (inr r) = let f : status.SecondRefused ≡ status.Done = sym (ap status_of r.2) ∙ s in absurd (cc)

    by_length : (text : List ℕ) (long : Bool) → file_at fs second ≡ Some text → ContinuesWith (cond long (Err witness_too_long) (Ok text)) (OfText lines lifted) b → S
    by_length text true there g = let f : status.SecondRefused ≡ status.Done = sym (ap status_of g) ∙ s in absurd (cc)
    by_length text false there g = by_text text there g

    by_content : (content : Option (List ℕ)) → file_at fs second ≡ content → ContinuesWith (within_limit content second most_witness_bytes witness_too_long) (OfText lines lifted) b → S
    by_content None e g = let f : status.ReadFault ≡ status.Done = sym (ap status_of g) ∙ s in absurd (cc)
    by_content (Some text) e g = by_length text (nat_lt most_witness_bytes (length text)) e g
