-- What a witness of a model's text is lifted to stands for a run.
use Rattle.std.proofs.Common.{◌≡◌, ◌≢◌, ℕ, zero, suc, ◌+◌, ◌-◌, List, [], ◌∷◌, length, refl, ap, ◌∙◌, subst, arith}
use Rattle.std.proofs.lemmas.List.{length-map}
use Rattle.text_core.specs.declared.verdict.Verdict.TheVariants.{Yes}
use Rattle.smv_text.specs.Tree.{PlainSource}
use Rattle.smv_meaning.specs.declared.value.Given.{Given}
use Rattle.smv_flat.specs.FlatForms.{flat_smv}
use Rattle.smv_flat.specs.FlatWidth.{width_of}
use Rattle.smv_script.specs.Script.{coding_of}
use Rattle.smv_script_laws.specs.Decoding.{decoded_state, decoded_steps}
use Rattle.btor_tree.specs.declared.lines.Line.{Line}
use Rattle.btor_tree.specs.Printing.{printed}
use Rattle.btor_tree.specs.Texts.{SpellsLines}
use Rattle.btor_witness.specs.declared.witness.Witness.{Witness}
use Rattle.btor_witness.specs.Judging.{judged_btor}
use Rattle.btor_witness.specs.Printing.{IsWitness}
use Rattle.btor_witness.specs.Sizes.{sizes_of}
use Rattle.btor_witness.specs.Texts.{SpellsWitness}
use Rattle.moxi_terms.specs.declared.data.Datum.{Datum}
use Rattle.moxi_terms.specs.Value.{Values}
use Rattle.moxi_layout.specs.LayoutLaws.{IsLaidOut}
use Rattle.moxi_lift.specs.Laws.{LiftsMeetQueries, MeetsQueryOf}
use Rattle.moxi_lift.specs.Lifted.{lifted}
use Rattle.witness_lift.specs.LineLaws.{SpellsOnly, model_lines, model_system}
use Rattle.witness_lift.specs.Breaking.{BreaksIn}
use Rattle.smv_commands.specs.Translation.{btor_text}
use Rattle.btor_commands.proofs.Lifted.{spelled_fits}
use Rattle.smv_commands.specs.SmvLift.{LiftsBack, lifted_run, lifted_trace, run_for}
use Rattle.moxi_scripts.specs.Behaviour.{trace_of}

steps_count : (read : Values → List Given) (trace : ℕ → Values) (j n : ℕ) → length (decoded_steps read trace j n) ≡ n
steps_count read trace j zero = refl
steps_count read trace j (suc n) = ap suc (steps_count read trace (j + 1) n)

-- one less and one more, where there is one
again : {T : Type 0} (xs : List T) → xs ≢ [] → length xs - 1 + 1 ≡ length xs
again [] h = absurd (h refl)
again (x ∷ xs) h = omega arith

-- the text's lines are the model's
pub own_lines : (source : PlainSource) → SpellsOnly (printed (model_lines source)) (model_lines source) → (lines : List Line) → SpellsLines (btor_text source) lines → lines ≡ model_lines source
unfolding btor_text
own_lines source only lines spelled = only.one lines spelled

-- a witness that a text spells is one for the lines
back : (source : PlainSource) (w : Witness) → w.frames ≢ [] → BreaksIn source w.bad (length (lifted (model_system source) w) - 1) (run_for source (lifted (model_system source) w)) → LiftsBack source w (lifted_trace source w)
unfolding lifted_trace
back source w some b =
    let steps = lifted (model_system source) w in
    let count : length steps ≡ length w.frames = length-map w.frames _ in
    record {
      run = lifted_run source w;
      exact = refl;
      written = refl;
      each_frame = steps_count (decoded_state (flat_smv source) (coding_of (flat_smv source) (width_of (flat_smv source)))) (trace_of steps) 0 (length steps - 1 + 1) ∙ ap (λ n. n - 1 + 1) count ∙ again w.frames some;
      breaks = subst (λ (n : ℕ). BreaksIn source w.bad (n - 1) (lifted_run source w)) count b;
    }

pub lifts_back : (source : PlainSource) → SpellsOnly (printed (model_lines source)) (model_lines source) → IsLaidOut (model_system source) (model_lines source) → LiftsMeetQueries
    → ((j : ℕ) (envs : List (List Datum)) → MeetsQueryOf (model_system source) j envs → BreaksIn source j (length envs - 1) (run_for source envs))
    → (lines : List Line) → SpellsLines (btor_text source) lines → (text : List ℕ) (w : Witness) → SpellsWitness lines text w → judged_btor lines w Yes → LiftsBack source w (lifted_trace source w)
lifts_back source only laid meets breaks lines spelled text w states judged =
    let same = own_lines source only lines spelled in
    let is : IsWitness (sizes_of (model_lines source)) w = subst (λ (ls : List Line). IsWitness (sizes_of ls) w) same (spelled_fits lines text w states) in
    let yes : judged_btor (model_lines source) w Yes = subst (λ (ls : List Line). judged_btor ls w Yes) same judged in
    back source w is.some (breaks w.bad (lifted (model_system source) w) (meets (model_system source) (model_lines source) laid w is yes))
