-- What the witnesses of lines that lay a flat system out are lifted to.
use Rattle.std.specs.Prelude.{◌≡◌, ℕ, ◌-◌, ◌≤◌, List, length, slice_get, IsSomeAnd}
use Rattle.std.specs.List.{AllByRecursion}
use Rattle.text_core.specs.declared.verdict.Verdict.TheVariants.{Yes}
use Rattle.word_core.specs.Words.{BitVector}
use Rattle.btor_tree.specs.declared.lines.Line.{Line}
use Rattle.btor_witness.specs.declared.witness.Witness.{Witness}
use Rattle.btor_witness.specs.Judging.{judged_btor, stated_frames}
use Rattle.btor_witness.specs.Printing.{IsWitness}
use Rattle.btor_witness.specs.Sizes.{sizes_of}
use Rattle.moxi_terms.specs.declared.data.Datum.{Datum}
use Rattle.moxi_terms.specs.declared.term.Variable.{Variable}
use Rattle.moxi_terms.specs.Sorts.{Fit}
use Rattle.moxi_terms.specs.Tree.{sorts_of}
use Rattle.moxi_terms.specs.Value.{at}
use Rattle.moxi_terms.specs.View.{ScopeState}
use Rattle.moxi_scripts.specs.Behaviour.{trace_of}
use Rattle.moxi_flat.specs.FlatMeeting.{MeetsFlat}
use Rattle.moxi_flat.specs.FlatSystem.{PlainFlatSystem}
use Rattle.moxi_layout.specs.LayoutLaws.{IsLaidOut}
use Rattle.moxi_layout.specs.Layout.{LaysOut}
use Rattle.moxi_lift.specs.Lifted.{decoded_frames, lifted}

-- the trace meets the query of this number at its last step
abbrev pub MeetsQueryOf : PlainFlatSystem → ℕ → List (List Datum) → Type 0
MeetsQueryOf f j envs = IsSomeAnd (slice_get f.queries j) (λ q. MeetsFlat f q (length envs - 1) (trace_of envs))

-- the system's scope and variables, and lines that lay it out
pub record AreOfSystem (f : PlainFlatSystem) (s : ScopeState) (vs : List Variable) (lines : List Line) : Type 0 where
  pub scope : s ≡ f.scope
  pub variables : vs ≡ f.variables
  pub laid : ∥ IsLaidOut f lines ∥₁

-- the trace to which a witness that the judge accepts is lifted: one or more steps of the variables' sorts, which meet the query of
-- its bad line
pub record IsLiftedTrace (f : PlainFlatSystem) (lines : List Line) (w : Witness) (trace : List (List Datum)) : Type 0 where
  pub accepted : judged_btor lines w Yes
  pub exact : trace ≡ lifted f w
  pub frames : (rows : List (List BitVector)) → stated_frames lines w rows → trace ≡ decoded_frames f lines rows
  pub some : 1 ≤ length trace
  pub fits : AllByRecursion (Fit f.scope.enumerations (sorts_of f.variables)) trace
  pub meets : ∥ MeetsQueryOf f w.bad trace ∥₁

-- ---- laws

-- a witness is lifted to what the frames that it states are decoded to
abbrev pub LiftsAreDecoded : Type 0
LiftsAreDecoded = (f : PlainFlatSystem) (lines : List Line) → LaysOut f lines → (w : Witness) (rows : List (List BitVector)) → stated_frames lines w rows → lifted f w ≡ decoded_frames f lines rows

-- a witness that the judge accepts is lifted to a trace that meets the query of its bad line
abbrev pub LiftsMeetQueries : Type 0
LiftsMeetQueries = (f : PlainFlatSystem) (lines : List Line) → IsLaidOut f lines → (w : Witness) → IsWitness (sizes_of lines) w → judged_btor lines w Yes → MeetsQueryOf f w.bad (lifted f w)
