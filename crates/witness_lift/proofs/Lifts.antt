-- What is known of a model's script and of the trace to which a witness is lifted.
use Rattle.std.proofs.Common.{◌≡◌, ℕ, List, length, None, Result, Ok, Err, refl, sym, ap, ◌∙◌, subst}
use Rattle.std.specs.Prelude.{IfOk}
use Rattle.std.specs.List.{AllByRecursion}
use Rattle.std.proofs.Math.Logic.{∥∥₁_map}
use Rattle.std.proofs.lemmas.List.{append-nil}
use Rattle.btor_tree.specs.declared.lines.Line.{Line}
use Rattle.btor_witness.specs.declared.witness.Frame.{Frame}
use Rattle.btor_witness.specs.declared.witness.Witness.{Witness}
use Rattle.btor_witness.specs.Printing.{IsBelow}
use Rattle.smv_flat.specs.FlatForms.{PlainFlat, flat_smv}
use Rattle.smv_flatten.specs.FlatModel.{FlatModel, IsOfModel, flat_plain}
use Rattle.smv_script.specs.Script.{script_for, script_of, symbol_sort, system_of}
use Rattle.smv_script_laws.specs.ValidLaws.{ScriptsAreValid}
use Rattle.smv_to_moxi.specs.Assembling.{script_with}
use Rattle.smv_to_moxi.specs.Lifting.{IsTraceOf}
use Rattle.moxi_terms.specs.declared.data.Datum.{Datum}
use Rattle.moxi_terms.specs.declared.term.Variable.{Variable}
use Rattle.moxi_terms.specs.Sorted.{AreSorts}
use Rattle.moxi_terms.specs.Sorts.{Fit}
use Rattle.moxi_terms.specs.Tree.{sorts_of}
use Rattle.moxi_terms.specs.View.{ScopeState}
use Rattle.moxi_scripts.specs.Script.{PlainCheck, PlainScript, PlainSystem, variables_in}
use Rattle.moxi_scripts.specs.Valid.{IsValid}
use Rattle.moxi_flat.specs.FlatSystem.{PlainFlatSystem, flat_of}
use Rattle.moxi_flat.specs.Limits.{flat_refusal}
use Rattle.moxi_instantiate.specs.Instances.{IsSingle, single_script}
use Rattle.moxi_lines.specs.Lines.{lines_of}
use Rattle.moxi_layout.specs.LayoutLaws.{IsLaidOut}
use Rattle.moxi_lift.specs.Laws.{AreOfSystem, IsLiftedTrace}
use Rattle.moxi_lift.specs.Lifted.{lifted}
use Rattle.witness_lift.specs.LineLaws.{ModelLinesAreLaidOut, ModelsHaveFlatSystems}
use Rattle.witness_lift.specs.Lifting.{AreOfFlat, lines_in, system_in}

-- ---- scripts

-- what is known of the model's script is known of the flat form's
of_model : (P : PlainScript → Type 0) (f : FlatModel) (m : IsOfModel f) → P (script_for m.source) → P (script_of (flat_plain f) f.width)
of_model P f m h =
    subst (λ (x : PlainFlat). P (script_of x f.width)) (sym m.form) (subst (λ (n : ℕ). P (script_of (flat_smv m.source) n)) (sym m.width) h)

not_refused_of : (f : FlatModel) → ModelsHaveFlatSystems → IsOfModel f → flat_refusal (script_of (flat_plain f) f.width) ≡ None
not_refused_of f law m = of_model (λ s. flat_refusal s ≡ None) f m (law m.source m.read.end m.read.text m.read.tokens m.read.lexed m.read.spelled m.needed m.accepted m.read.low)

pub single_of : (f : FlatModel) → ScriptsAreValid → ModelsHaveFlatSystems → ∥ IsOfModel f ∥₁ → ∥ IsSingle (script_of (flat_plain f) f.width) ∥₁
single_of f whole law model = ∥∥₁_map model (λ m. record {
  whole = of_model IsValid f m (whole m.source m.read.end m.read.text m.read.tokens m.read.lexed m.read.spelled m.needed m.accepted);
  accepted = not_refused_of f law m;
  alone = refl;
})

-- so it is without its logic
pub single_parts : (logic : List ℕ) (scope : ScopeState) (system : PlainSystem) (check : PlainCheck) → ∥ IsSingle (script_with logic scope system check) ∥₁ → ∥ IsSingle (single_script scope system check) ∥₁
single_parts logic scope system check w = ∥∥₁_map w (λ i. record {
  whole = record { scope = i.whole.scope; systems = i.whole.systems; check = i.whole.check };
  accepted = i.accepted;
  alone = i.alone;
})

-- what is kept of the script without its logic is what is kept of the flat form's
pub kept_of : (f : FlatModel) (script : PlainScript) → script ≡ script_of (flat_plain f) f.width → (s : ScopeState) (vs : List Variable) (lines : List Line)
    → s ≡ (flat_of script).scope → vs ≡ (flat_of script).variables → lines ≡ lines_of (flat_of script) → AreOfFlat f s vs lines
kept_of f script e s vs lines a b c = record {
  scope = a ∙ ap (λ (x : PlainScript). (flat_of x).scope) e;
  variables = b ∙ ap (λ (x : PlainScript). (flat_of x).variables) e;
  lines = c ∙ ap (λ (x : PlainScript). lines_of (flat_of x)) e;
}

-- ---- lines

-- the lines of a flat form's script lay its flat system out
pub laid_of : (f : FlatModel) → ModelLinesAreLaidOut → ∥ IsOfModel f ∥₁ → ∥ IsLaidOut (system_in f) (lines_in f) ∥₁
laid_of f law model = ∥∥₁_map model (λ m.
    of_model (λ s. IsLaidOut (flat_of s) (lines_of (flat_of s))) f m (law m.source m.read.end m.read.text m.read.tokens m.read.lexed m.read.spelled m.needed m.accepted m.read.low).laid)

of_flat : (f : FlatModel) (s : ScopeState) (vs : List Variable) (lines : List Line) → s ≡ (system_in f).scope → vs ≡ (system_in f).variables → lines ≡ lines_in f
    → ∥ IsLaidOut (system_in f) (lines_in f) ∥₁ → AreOfSystem (system_in f) s vs lines
of_flat f s vs lines a b e laid = record { scope = a; variables = b; laid = subst (λ (ls : List Line). ∥ IsLaidOut (system_in f) ls ∥₁) (sym e) laid }

pub some_system : (f : FlatModel) (s : ScopeState) (vs : List Variable) (lines : List Line) → s ≡ (system_in f).scope → vs ≡ (system_in f).variables → lines ≡ lines_in f
    → ∥ IsLaidOut (system_in f) (lines_in f) ∥₁ → (g : PlainFlatSystem) × AreOfSystem g s vs lines
some_system f s vs lines a b e laid = (system_in f, of_flat f s vs lines a b e laid)

-- ---- traces

own_variables : (f : FlatModel) → (system_in f).variables ≡ variables_in (system_of (flat_plain f) f.width)
own_variables f = append-nil (variables_in (system_of (flat_plain f) f.width))

-- the trace to which a witness of the flat form's lines is lifted
abbrev pub IsLiftedIn : FlatModel → Witness → List (List Datum) → Type 0
IsLiftedIn f w envs = IsLiftedTrace (system_in f) (lines_in f) w envs

pub lifted_answered : {T E : Type 0} (f : FlatModel) (s : ScopeState) (vs : List Variable) (lines : List Line) → s ≡ (system_in f).scope → vs ≡ (system_in f).variables → lines ≡ lines_in f
    → ∥ IsLaidOut (system_in f) (lines_in f) ∥₁ → (w : Witness) (r : Result T E) → IfOk r (λ _. (g : PlainFlatSystem) → AreOfSystem g s vs lines → IsLiftedTrace g lines w (lifted g w))
    → IfOk r (λ _. IsLiftedIn f w (lifted (system_in f) w))
lifted_answered f s vs lines a b e laid w (Ok x) l = subst (λ (ls : List Line). IsLiftedTrace (system_in f) ls w (lifted (system_in f) w)) e (l (system_in f) (of_flat f s vs lines a b e laid))
lifted_answered f s vs lines a b e laid w (Err x) l = tt

pub sorts_answered : (f : FlatModel) (s : ScopeState) (vs : List Variable) → s ≡ (system_in f).scope → vs ≡ (system_in f).variables → AreSorts s.enumerations (sorts_of vs)
    → AreSorts (system_in f).scope.enumerations (sorts_of (system_in f).variables)
sorts_answered f s vs a b h =
    subst (λ (z : ScopeState). AreSorts z.enumerations (sorts_of (system_in f).variables)) a (subst (λ (zs : List Variable). AreSorts s.enumerations (sorts_of zs)) b h)

pub inputs_answered : (f : FlatModel) (vs : List Variable) → vs ≡ (system_in f).variables → (w : Witness) → AllByRecursion (λ (x : Frame). AllByRecursion (IsBelow (length vs)) x.inputs) w.frames
    → AllByRecursion (λ (x : Frame). AllByRecursion (IsBelow (length (system_in f).variables)) x.inputs) w.frames
inputs_answered f vs b w h = subst (λ (zs : List Variable). AllByRecursion (λ (x : Frame). AllByRecursion (IsBelow (length zs)) x.inputs) w.frames) b h

pub is_trace : (f : FlatModel) (w : Witness) (envs : List (List Datum)) → IsLiftedIn f w envs → IsTraceOf f envs
is_trace f w envs l = record {
  some = l.some;
  steps = subst (λ (vs : List Variable). AllByRecursion (Fit (symbol_sort f.symbols) (sorts_of vs)) envs) (own_variables f) l.fits;
}
