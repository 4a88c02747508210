-- What is answered to a text's bytes is what is defined of them, and what was written for them keeps what its lines have.
use Rattle.std.proofs.Common.{◌≡◌, ◌∙◌, ℕ, List, Option, Some, Result, Ok, Err, refl, sym, ap, subst}
use Rattle.std.specs.Prelude.{IfOk}
use Rattle.text_core.specs.Outside.{Files, file_at, grown}
use Rattle.btor_tree.specs.declared.lines.Line.{Line}
use Rattle.btor_tree.specs.Fits.{IsWellFormed}
use Rattle.btor_tree.specs.Printing.{printed}
use Rattle.btor_tree.specs.Texts.{SpellsLines}
use Rattle.btor_tree.proofs.Grows.{empty_well_formed}
use Rattle.btor_tree.proofs.Printed.{printed_spells}
use Rattle.btor_tree.proofs.Readings.{one_list}
use Rattle.btor_tree.proofs.Resolved.{reads_well_formed}
use Rattle.text_core.specs.declared.verdict.Verdict.TheVariants.{Yes}
use Rattle.btor_witness.specs.declared.witness.Witness.{Witness}
use Rattle.btor_witness.specs.Judging.{judged_btor}
use Rattle.btor_witness.specs.Texts.{SpellsWitness}
use Rattle.text_core.specs.declared.end.End.TheVariants.{Bad}
use Rattle.btor_text.specs.Answer.{IsRefused}
use Rattle.btor_text.specs.laws.Refusals.{not_both, one_refusal}
use Rattle.btor_simplify.specs.Keeping.{IsSmallerList, ListsGetSmaller}
use Rattle.btor_simplify.specs.Simplified.{IsSimplified}
use Rattle.btor_simplify.proofs.Single.{one_simplified}
use Rattle.command_core.specs.declared.answer.Answer.{Answer}
use Rattle.command_core.specs.declared.status.Status.TheVariants as status
use Rattle.command_core.specs.Answers.{status_of, text_of}
use Rattle.command_core.specs.Reading.{file_within}
use Rattle.command_core.specs.laws.Files.{done_from, goes_once}
use Rattle.command_core.specs.laws.Texts.{done_text, one_answer}
use Rattle.btor_commands.specs.Judgement.{btor_too_long}
use Rattle.btor_commands.specs.Limits.{most_btor_bytes}
use Rattle.btor_commands.proofs.SmallerFrames.{frames_kept}
use Rattle.btor_commands.specs.Simplifying.{IsCorrectOutput, IsSimplification, IsSmallerText, OfBytes, SmallerTextsAreCorrect, WritesSmaller}

-- ---- one answer

one_smaller_text : (bytes a b : List ℕ) → IsSmallerText bytes a → IsSmallerText bytes b → a ≡ b
one_smaller_text bytes a b h k =
    let lines : h.lines ≡ k.lines = one_list h.spelled k.spelled refl in
    let other : IsSimplified h.lines k.smaller = subst (λ ls. IsSimplified ls k.smaller) (sym lines) k.simplified in
    h.printed_text ∙ ap printed (one_simplified h.lines h.smaller k.smaller h.simplified other) ∙ sym k.printed_text

one_of_bytes : (bytes : List ℕ) (a b : Answer) → OfBytes bytes a → OfBytes bytes b → a ≡ b
one_of_bytes bytes a b h k =
    one_answer (IsSmallerText bytes) (λ r. IsRefused bytes (Bad r)) (one_smaller_text bytes) (one_refusal bytes) (λ text r h k. not_both bytes h.lines r h.spelled k) a b h k

-- files define one smaller text
pub one_simplification : (fs : Files) (model : List ℕ) (a b : Answer) → IsSimplification fs model a → IsSimplification fs model b → a ≡ b
one_simplification fs model a b h k = goes_once (file_within fs model most_btor_bytes btor_too_long) OfBytes one_of_bytes a b h k

-- ---- what may be given, and what was written

-- the printed smaller list of lines
pub printed_smaller : {E : Type 0} (result : Result (List ℕ) E) (old new : List Line) → IsSimplified old new → IfOk result (λ text. text ≡ printed new)
    → IfOk result (λ text. (smaller : List Line) × IsSimplified old smaller × (text ≡ printed smaller))
printed_smaller (Ok text) old new s h = (new, s, h)
printed_smaller (Err e) old new s h = tt

correct_bytes : (stands : SmallerTextsAreCorrect) (fs : Files) (model bytes : List ℕ) (b : Answer) (before now : Option (List ℕ)) → file_at fs model ≡ Some bytes → OfBytes bytes b → status_of b ≡ status.Done → now ≡ grown before (text_of b) → IsCorrectOutput fs model before now
correct_bytes stands fs model bytes b before now there h s w =
    let t = done_text (IsSmallerText bytes) (λ r. IsRefused bytes (Bad r)) b h s in
    record { bytes = bytes; there = there; lines = t.lines; spelled = t.spelled; text = text_of b; written = w; smaller = subst (WritesSmaller t.lines) (sym t.printed_text) (stands bytes t.lines t.smaller t.spelled t.simplified) }

-- a smaller text that was written whole keeps what the lines have
pub correct_output : (stands : SmallerTextsAreCorrect) (fs : Files) (model : List ℕ) (b : Answer) (before now : Option (List ℕ)) → IsSimplification fs model b → status_of b ≡ status.Done → now ≡ grown before (text_of b) → IsCorrectOutput fs model before now
correct_output stands fs model b before now h s w =
    done_from fs model most_btor_bytes btor_too_long OfBytes b refl h s (λ bytes there g. correct_bytes stands fs model bytes b before now there g s w)

-- ---- what a text of the smaller list spells

pub stands : ListsGetSmaller → SmallerTextsAreCorrect
stands smaller bytes lines new spelled simplified =
    let well : IsWellFormed lines = reads_well_formed spelled empty_well_formed in
    let keeps : IsSmallerList lines new = smaller lines new well simplified in
    let again : SpellsLines (printed new) new = printed_spells new keeps.well_formed in
    record { smaller = new; spelled = again; only = λ others t. one_list t again refl; keeps = keeps; frames = frames_kept lines new well keeps }

-- ---- a witness for the smaller text

-- a witness that is accepted for the smaller text of a text is accepted for the text's own lines
pub accepted_before : SmallerTextsAreCorrect → (bytes shorter : List ℕ) (smaller : List Line) → IsSmallerText bytes shorter → SpellsLines shorter smaller → (text : List ℕ) (w : Witness) → SpellsWitness smaller text w → judged_btor smaller w Yes
    → (lines : List Line) × SpellsLines bytes lines × SpellsWitness lines text w × judged_btor lines w Yes
accepted_before stand bytes shorter smaller h spelled text w states judged =
    let made = stand bytes h.lines h.smaller h.spelled h.simplified in
    let same : smaller ≡ made.smaller = made.only smaller (subst (λ t. SpellsLines t smaller) h.printed_text spelled) in
    let keeps = made.keeps.witnesses in
    let there : SpellsWitness h.lines text w = (keeps.spelled text w).1 (subst (λ ls. SpellsWitness ls text w) same states) in
    (h.lines, h.spelled, there, (keeps.judged w Yes).1 (subst (λ ls. judged_btor ls w Yes) same judged))
