-- The witness of a trace is one for the lines that lay the system out.
use Rattle.std.proofs.Common.{◌≡◌, ◌≢◌, ℕ, ◌<◌, ◌≤◌, List, [], ◌∷◌, length, map, Some, sym, ap, ◌∙◌, subst, arith}
use Rattle.std.specs.Prelude.{slice_get, slice_index_or}
use Rattle.std.specs.List.{AllByRecursion}
use Rattle.btor_tree.specs.declared.lines.Line.{Line}
use Rattle.btor_tree.specs.Fits.{is_input, is_state, width_at}
use Rattle.btor_witness.specs.declared.witness.Frame.{Frame}
use Rattle.btor_witness.specs.Printing.{IsOf as IsOfWidths, IsPart}
use Rattle.btor_witness.specs.Sizes.{widths_of}
use Rattle.btor_witness.proofs.Places.{width_by_number}
use Rattle.moxi_terms.specs.declared.data.Datum.{Datum}
use Rattle.moxi_terms.specs.declared.data.Sort.TheVariants.{Truth}
use Rattle.moxi_terms.specs.Sorts.{Fit}
use Rattle.moxi_terms.specs.Tree.{sorts_of}
use Rattle.moxi_terms.specs.Value.{at}
use Rattle.moxi_terms.proofs.ValueLaws.{fit_at}
use Rattle.moxi_flat.specs.FlatSystem.{PlainFlatSystem}
use Rattle.moxi_lines.proofs.CodeLaws.{code_is_word}
use Rattle.moxi_layout.specs.Layout.{input_at}
use Rattle.moxi_layout.specs.LayoutLaws.{IsLaidOut}
use Rattle.moxi_layout.specs.Witnesses.{WitnessesNameQueries}
use Rattle.moxi_layout.proofs.Entries.{input_there}
use Rattle.moxi_lower.specs.Laws.{AreSteps, LoweredAreWitnesses}
use Rattle.moxi_lower.specs.Lowered.{lowered_step, stated_code}
use Rattle.moxi_lower.proofs.Codes.{codes_all, codes_once}
use Rattle.moxi_lift.proofs.Decoded.{sort_get}

some_frames : {X Y : Type 0} (g : X → Y) (xs : List X) → 1 ≤ length xs → map g xs ≢ []
some_frames g [] some e = omega (arith, some)
some_frames g (x ∷ xs) some e = absurd (cc)

module _ (f : PlainFlatSystem) (lines : List Line) (laid : IsLaidOut f lines) where
  code_fits : (env : List Datum) → Fit f.scope.enumerations (sorts_of f.variables) env → (v : ℕ) → v < length f.variables → IsOfWidths (widths_of is_input lines) (stated_code f.scope.enumerations (at env) v)
  code_fits env fit v h =
      let es = f.scope.enumerations in
      let s = slice_index_or (sorts_of f.variables) v Truth in
      let g = sort_get f.variables v h in
      let word = code_is_word es laid.codes s (at env v) (fit_at es (sorts_of f.variables) env v s fit g) in
      let p = input_at lines v in
      let x = input_there f lines laid.lays.order v s g in
      let there : slice_get (widths_of is_input lines) v ≡ Some (width_at lines p) =
      subst (λ k. slice_get (widths_of is_input lines) k ≡ Some (width_at lines p)) x.1.number (width_by_number lines is_input p x.0 x.1.there (ap is_input x.1.is)) in
      (there ∙ ap Some (x.1.width ∙ sym word.1), word.0)

  pub inputs_fit : (envs : List (List Datum)) → AreSteps f envs → AllByRecursion (λ (x : Frame). IsPart (widths_of is_input lines) x.inputs) (map (lowered_step f.scope.enumerations (length f.variables)) envs)
  inputs_fit [] fit = tt
  inputs_fit (env ∷ envs) fit =
      let es = f.scope.enumerations in
      let n = length f.variables in
      ((codes_all es (at env) (IsOfWidths (widths_of is_input lines)) n (code_fits env fit.0), codes_once es (at env) n), inputs_fit envs fit.1)

  pub states_fit : (envs : List (List Datum)) → AllByRecursion (λ (x : Frame). IsPart (widths_of is_state lines) x.states) (map (lowered_step f.scope.enumerations (length f.variables)) envs)
  states_fit [] = tt
  states_fit (env ∷ envs) = ((tt, tt), states_fit envs)

pub lowered_are_witnesses_law : WitnessesNameQueries → LoweredAreWitnesses
lowered_are_witnesses_law names f lines laid j there envs some fit =
    record {
      bad = let same = names f lines laid in omega (arith, there, same);
      some = some_frames (lowered_step f.scope.enumerations (length f.variables)) envs some;
      states = states_fit f lines laid envs;
      inputs = inputs_fit f lines laid envs fit;
    }
