-- Witnesses for lines that lay a system out: they are the same for all of its layouts, and those that are accepted are traces.
use Rattle.std.specs.Prelude.{◌≡◌, ◌↔◌, ℕ, ◌+◌, List, length, slice_get, Some}
use Rattle.text_core.specs.declared.place.Kind.{Kind}
use Rattle.text_core.specs.declared.verdict.Verdict.{Verdict}
use Rattle.text_core.specs.declared.verdict.Verdict.TheVariants.{Yes}
use Rattle.word_core.specs.Words.{BitVector}
use Rattle.btor_tree.specs.declared.lines.Line.{Line}
use Rattle.btor_witness.specs.declared.witness.Witness.{Witness}
use Rattle.btor_witness.specs.Judging.{judged_btor, stated_frames}
use Rattle.btor_witness.specs.Printing.{IsWitness}
use Rattle.btor_witness.specs.Sizes.{sizes_of}
use Rattle.btor_witness.specs.Texts.{RefusesWitness, SpellsWitness}
use Rattle.moxi_scripts.specs.declared.script.Query.{Query}
use Rattle.moxi_flat.specs.FlatMeeting.{MeetsFlat}
use Rattle.moxi_flat.specs.FlatSystem.{PlainFlatSystem}
use Rattle.moxi_layout.specs.LayoutLaws.{IsLaidOut, decoded_trace}

-- a text spells the same witness for both, or has the same refusal
pub record ReadEqually (lines other : List Line) : Type 0 where
  pub sizes : sizes_of lines ≡ sizes_of other
  pub spelled : (text : List ℕ) (w : Witness) → SpellsWitness lines text w ↔ SpellsWitness other text w
  pub refused : (text : List ℕ) (kind : Kind) (at : ℕ) → RefusesWitness lines text kind at ↔ RefusesWitness other text kind at

abbrev pub LayoutsAreReadEqually : Type 0
LayoutsAreReadEqually = (f : PlainFlatSystem) (lines other : List Line) → IsLaidOut f lines → IsLaidOut f other → ReadEqually lines other

-- each witness has the same verdict for both
abbrev pub LayoutsAreJudgedEqually : Type 0
LayoutsAreJudgedEqually = (f : PlainFlatSystem) (lines other : List Line) → IsLaidOut f lines → IsLaidOut f other
    → (w : Witness) → IsWitness (sizes_of lines) w → (v : Verdict) → judged_btor lines w v ↔ judged_btor other w v

-- the bad lines of a witness's numbers are those of the queries
abbrev pub WitnessesNameQueries : Type 0
WitnessesNameQueries = (f : PlainFlatSystem) (lines : List Line) → IsLaidOut f lines → (sizes_of lines).bads ≡ length f.queries

-- the frames of an accepted witness are decoded to a trace that meets the query of its number
abbrev pub AcceptedFramesAreTraces : Type 0
AcceptedFramesAreTraces = (f : PlainFlatSystem) (lines : List Line) → IsLaidOut f lines → (w : Witness) → judged_btor lines w Yes → (q : Query) → slice_get f.queries w.bad ≡ Some q
    → (k : ℕ) → length w.frames ≡ k + 1 → (rows : List (List BitVector)) → stated_frames lines w rows → MeetsFlat f q k (decoded_trace f lines rows)
