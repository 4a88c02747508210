-- Witnesses of two lists are the same, and are judged equally.
use Rattle.std.specs.Prelude.{◌↔◌, ℕ, List}
use Rattle.text_core.specs.declared.end.End.TheVariants.{Bad}
use Rattle.text_core.specs.declared.place.Refusal.{Refusal}
use Rattle.text_core.specs.declared.verdict.Verdict.{Verdict}
use Rattle.btor_tree.specs.declared.lines.Line.{Line}
use Rattle.btor_witness.specs.declared.witness.Witness.{Witness}
use Rattle.btor_witness.specs.Answer.{IsRefused}
use Rattle.btor_witness.specs.Judging.{judged_btor}
use Rattle.btor_witness.specs.Texts.{SpellsWitness}

-- each text spells the same witness or gets the same refusal for both lists, and each witness has the same verdict
pub record KeepsWitnesses (old new : List Line) : Type 0 where
  pub spelled : (text : List ℕ) (w : Witness) → SpellsWitness old text w ↔ SpellsWitness new text w
  pub refused : (text : List ℕ) (refusal : Refusal) → IsRefused old text (Bad refusal) ↔ IsRefused new text (Bad refusal)
  pub judged : (w : Witness) (v : Verdict) → judged_btor old w v ↔ judged_btor new w v
