-- A model's runs are the frames of its lines.
use Rattle.std.proofs.Common.{◌≡◌, ℕ, ◌<◌, List, Some, map, refl}
use Rattle.std.specs.Prelude.{◌↔◌, slice_get}
use Rattle.smv_text.specs.Tree.{PlainSource}
use Rattle.smv_meaning.specs.Values.{Valuation, given}
use Rattle.smv_script.specs.Script.{script_for}
use Rattle.smv_script_laws.specs.RunLaws.{BreaksAt, HasQueries, decoded_run, HasRun, invariant_count}
use Rattle.moxi_scripts.specs.declared.script.Query.{Query}
use Rattle.moxi_scripts.specs.Script.{PlainScript, query_of}
use Rattle.moxi_scripts.specs.Behaviour.{Trace}
use Rattle.moxi_scripts.specs.Meeting.{MeetsQuery}
use Rattle.moxi_flat.specs.FlatMeeting.{MeetsFlat}
use Rattle.moxi_flat.specs.FlatSystem.{flat_of}
use Rattle.moxi_flat.specs.FlatLaws.{Extends, IsMetFlat}
use Rattle.moxi_layout.specs.LayoutLaws.{HasFlatTrace, HasFrames}
use Rattle.witness_lift.specs.LineLaws.{model_lines, model_system}

-- ---- traces

same_trace : (s : PlainScript) (k : ℕ) (flat : Trace) → Extends s k flat flat
same_trace s k flat = record { each = λ j v i h. refl }

met_by_flat : (s : PlainScript) (q : Query) (k : ℕ) (flat : Trace) → (MeetsQuery s q k flat ↔ IsMetFlat s q k flat) → MeetsFlat (flat_of s) q k flat → MeetsQuery s q k flat
met_by_flat s q k flat both m = both.1 (record { flat = flat; extends = same_trace s k flat; meets = m })

flat_of_met : (s : PlainScript) (q : Query) (k : ℕ) (trace : Trace) → (MeetsQuery s q k trace ↔ IsMetFlat s q k trace) → MeetsQuery s q k trace → HasFlatTrace (flat_of s) q k
flat_of_met s q k trace both m = let x = both.0 m in (x.flat, x.meets)

-- ---- frames

-- between the traces of the flat system and the frames of its lines
abbrev pub FramesOfSystem : PlainSource → Type 0
FramesOfSystem source = (j k : ℕ) (q : Query) → slice_get (model_system source).queries j ≡ Some q → HasFlatTrace (model_system source) q k ↔ HasFrames (model_lines source) j k

-- between the traces of the script and those of its flat system
abbrev pub FlatTracesOf : PlainSource → Type 0
FlatTracesOf source = (q : Query) (k : ℕ) (trace : Trace) → MeetsQuery (script_for source) q k trace ↔ IsMetFlat (script_for source) q k trace

module _ (source : PlainSource) (has : HasQueries source) (flat : FlatTracesOf source) (frames : FramesOfSystem source) where
  pub complete_frames : ((j k : ℕ) (states labels : List Valuation) → BreaksAt source j k states labels → (trace : Trace) × MeetsQuery (script_for source) (query_of j) k trace)
      → (j k : ℕ) → j < invariant_count source → HasRun source j k → HasFrames (model_lines source) j k
  complete_frames traced j k h r =
      let m = traced j k r.0 r.1 r.2 in
      (frames j k (query_of j) (has.each j h)).0 (flat_of_met (script_for source) (query_of j) k m.0 (flat (query_of j) k m.0) m.1)

  pub sound_frames : ((j k : ℕ) (trace : Trace) → MeetsQuery (script_for source) (query_of j) k trace → BreaksAt source j k (map given (decoded_run source trace k).states) (map given (decoded_run source trace k).labels))
      → (j k : ℕ) → j < invariant_count source → HasFrames (model_lines source) j k → HasRun source j k
  sound_frames decoded j k h x =
      let t = (frames j k (query_of j) (has.each j h)).1 x in
      let m = met_by_flat (script_for source) (query_of j) k t.0 (flat (query_of j) k t.0) t.1 in
      (map given (decoded_run source t.0 k).states, map given (decoded_run source t.0 k).labels, decoded j k t.0 m)
