-- The response to which a witness for a MoXI script's BTOR2 text is lifted, and its properties (MoXI, SPIN 2024; BTOR2, CAV 2018).
use Rattle.std.specs.Prelude.{◌≡◌, ◌⊎◌, ◌-◌, ℕ, List, length, Option, Some, None, slice_get}
use Rattle.text_core.specs.Outside.{Files, file_at, grown}
use Rattle.text_core.specs.declared.place.Refusal.{Refusal}
use Rattle.text_core.specs.declared.verdict.Verdict.TheVariants.{Yes}
use Rattle.btor_tree.specs.declared.lines.Line.{Line}
use Rattle.btor_tree.specs.Texts.{SpellsLines}
use Rattle.btor_witness.specs.declared.witness.Witness.{Witness}
use Rattle.btor_witness.specs.Judging.{judged_btor}
use Rattle.btor_witness.specs.Texts.{SpellsWitness}
use Rattle.moxi_terms.specs.declared.data.Datum.{Datum}
use Rattle.moxi_scripts.specs.declared.script.Query.{Query}
use Rattle.moxi_scripts.specs.Script.{PlainScript}
use Rattle.moxi_scripts.specs.Meeting.{MeetsQuery}
use Rattle.moxi_flat.specs.FlatSystem.{flat_of}
use Rattle.moxi_flat.specs.Limits.{flat_refusal}
use Rattle.moxi_lift.specs.Lifted.{lifted}
use Rattle.moxi_trace.specs.Texts.{response_text}
use Rattle.moxi_responses.specs.Declaring.{declared_of}
use Rattle.command_core.specs.declared.answer.Answer.{Answer}
use Rattle.command_core.specs.declared.answer.Answer.TheVariants.{Refused}
use Rattle.command_core.specs.Reading.{ContinuesWith, file_within}
use Rattle.moxi_commands.specs.Limits.{most_script_bytes}
use Rattle.moxi_commands.specs.Scripts.{IsRefusal, script_too_long}
use Rattle.moxi_commands.specs.Translation.{IsInstantiated, btor_text}
use Rattle.btor_commands.specs.Lifting.{OfLines}
use Rattle.moxi_scripts.specs.Behaviour.{trace_of}

-- the text of the response that the trace to which a witness is lifted meets the query of its bad line
unfoldable pub lifted_response : PlainScript → Witness → List ℕ
lifted_response script w = response_text (declared_of script) w.bad (lifted (flat_of script) w)

-- the answer for the witness in the second file and the script that the bytes spell, or the refusal of the bytes
abbrev pub OfBytes : Files → List ℕ → List ℕ → Answer → Type 0
OfBytes files second bytes answer =
    ((script : PlainScript) × IsInstantiated bytes script × OfLines files second (btor_text script) (lifted_response script) answer) ⊎ IsRefusal bytes answer

-- the answer for the witness in the second file and the script in the first
abbrev pub IsMoxiLift : Files → List ℕ → List ℕ → Answer → Type 0
IsMoxiLift files model second answer = ContinuesWith (file_within files model most_script_bytes script_too_long) (OfBytes files second) answer

-- the answer for the witness in the second file and the script, or the refusal of the system that its check instantiates
abbrev pub OfChecks : Files → List ℕ → PlainScript → Answer → Type 0
OfChecks files second script answer =
    ((flat_refusal script ≡ None) × OfLines files second (btor_text script) (lifted_response script) answer) ⊎ ((refusal : Refusal) × (flat_refusal script ≡ Some refusal) × (answer ≡ Refused refusal))

-- ---- the properties of the response

-- The text is the response of a trace with a step for each frame. The trace meets the query of the bad line at its last step. It is
-- the only one to which the words of the witness's inputs are decoded.
pub record LiftsBack (script : PlainScript) (w : Witness) (text : List ℕ) : Type 0 where
  pub steps : List (List Datum)
  pub exact : steps ≡ lifted (flat_of script) w
  pub written : text ≡ response_text (declared_of script) w.bad steps
  pub each_frame : length steps ≡ length w.frames
  pub query : Query
  pub there : slice_get script.check.queries w.bad ≡ Some query
  pub meets : MeetsQuery script query (length w.frames - 1) (trace_of steps)

-- each accepted witness for the text of a script is lifted to such a response
abbrev pub TracesAreLifted : Type 0
TracesAreLifted = (bytes : List ℕ) (script : PlainScript) → IsInstantiated bytes script → (lines : List Line) → SpellsLines (btor_text script) lines → (text : List ℕ) (w : Witness) → SpellsWitness lines text w → judged_btor lines w Yes
    → LiftsBack script w (lifted_response script w)

-- the written text is the response to which the witness in the second file is lifted, for the script in the first
pub record IsLiftedResponse (files : Files) (model second : List ℕ) (before now : Option (List ℕ)) : Type 0 where
  pub bytes : List ℕ
  pub there : file_at files model ≡ Some bytes
  pub script : PlainScript
  pub instantiated : IsInstantiated bytes script
  pub lines : List Line
  pub spelled : SpellsLines (btor_text script) lines
  pub text : List ℕ
  pub second_there : file_at files second ≡ Some text
  pub witness : Witness
  pub states : SpellsWitness lines text witness
  pub judged : judged_btor lines witness Yes
  pub response : List ℕ
  pub written : now ≡ grown before response
  pub lifts : LiftsBack script witness response
