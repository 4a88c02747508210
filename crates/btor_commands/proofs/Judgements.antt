-- Files define one judgement.
use Rattle.std.proofs.Common.{◌≡◌, inl, inr, ℕ, List, refl, sym, ap, ◌∙◌, subst}
use Rattle.text_core.specs.Outside.{Files}
use Rattle.btor_tree.specs.declared.lines.Line.{Line}
use Rattle.btor_tree.specs.Fits.{IsWellFormed}
use Rattle.btor_tree.proofs.Readings.{one_list}
use Rattle.btor_tree.proofs.Resolved.{reads_well_formed}
use Rattle.btor_tree.proofs.Grows.{empty_well_formed}
use Rattle.btor_text.specs.laws.Refusals as refusals
use Rattle.btor_witness.specs.declared.witness.Witness.{Witness}
use Rattle.btor_witness.specs.laws.Verdicts.{one_verdict}
use Rattle.btor_witness.specs.laws.Laws.{same_refusal, one_witness, not_both}
use Rattle.command_core.specs.declared.answer.Answer.{Answer}
use Rattle.command_core.specs.declared.answer.Answer.TheVariants.{Refused, SecondRefused}
use Rattle.btor_commands.specs.Judgement.{IsJudgement, IsVerdict, OfBytes, OfLines, OfText, btor_too_long, verdict_answer, witness_too_long}
use Rattle.btor_commands.specs.Limits.{most_btor_bytes, most_witness_bytes}
use Rattle.command_core.specs.Reading.{file_within}
use Rattle.command_core.specs.laws.Files.{goes_once}

one_verdict_answer : (lines : List Line) → IsWellFormed lines → (w : Witness) (a b : Answer) → IsVerdict lines w a → IsVerdict lines w b → a ≡ b
one_verdict_answer lines well w a b h k =
    h.2 ∙ ap (verdict_answer w) (one_verdict lines w h.0 k.0 well h.1 k.1) ∙ sym k.2

one_text : (lines : List Line) → IsWellFormed lines → (text : List ℕ) (a b : Answer) → OfText lines text a → OfText lines text b → a ≡ b
one_text lines well text a b (inl x) (inl y) = one_verdict_answer lines well y.0 a b (subst (λ w. IsVerdict lines w a) (one_witness lines text x.0 y.0 x.1 y.1) x.2) y.2
one_text lines well text a b (inl x) (inr r) = absurd (not_both lines text x.0 r.0.kind r.0.place.line x.1 r.1.0)
one_text lines well text a b (inr r) (inl y) = absurd (not_both lines text y.0 r.0.kind r.0.place.line y.1 r.1.0)
one_text lines well text a b (inr r) (inr q) = r.2 ∙ ap SecondRefused (same_refusal lines text r.0 q.0 r.1 q.1) ∙ sym q.2

one_of_lines : (files : Files) (second : List ℕ) (lines : List Line) → IsWellFormed lines → (a b : Answer) → OfLines files second lines a → OfLines files second lines b → a ≡ b
one_of_lines files second lines well a b h k =
    goes_once (file_within files second most_witness_bytes witness_too_long) (OfText lines) (λ text a b h k. one_text lines well text a b h k) a b h k

one_of_bytes : (files : Files) (second bytes : List ℕ) (a b : Answer) → OfBytes files second bytes a → OfBytes files second bytes b → a ≡ b
one_of_bytes files second bytes a b (inl x) (inl y) =
    let e : x.0 ≡ y.0 = one_list x.1 y.1 refl in
    one_of_lines files second y.0 (reads_well_formed y.1 empty_well_formed) a b (subst (λ ls. OfLines files second ls a) e x.2) y.2
one_of_bytes files second bytes a b (inl x) (inr r) = absurd (refusals.not_both bytes x.0 r.0 x.1 r.1)
one_of_bytes files second bytes a b (inr r) (inl y) = absurd (refusals.not_both bytes y.0 r.0 y.1 r.1)
one_of_bytes files second bytes a b (inr r) (inr q) = r.2 ∙ ap Refused (refusals.one_refusal bytes r.0 q.0 r.1 q.1) ∙ sym q.2

pub one_judgement : (files : Files) (model second : List ℕ) (a b : Answer) → IsJudgement files model second a → IsJudgement files model second b → a ≡ b
one_judgement files model second a b h k =
    goes_once (file_within files model most_btor_bytes btor_too_long) (OfBytes files second) (λ bytes a b h k. one_of_bytes files second bytes a b h k) a b h k
