-- What is known of a flat system and a witness of its lines, and what is answered.
use Rattle.std.proofs.Common.{◌≡◌, ◌≢◌, ◌≤◌, List, [], ◌∷◌, length, map, Result, Ok, Err, refl, sym, ap, subst, ◌∙◌, arith}
use Rattle.std.specs.Prelude.{IfOk}
use Rattle.std.specs.List.{AllByRecursion}
use Rattle.std.proofs.Math.Logic.{∥∥₁_map}
use Rattle.text_core.specs.declared.verdict.Verdict.TheVariants.{Yes}
use Rattle.btor_tree.specs.declared.lines.Line.{Line}
use Rattle.btor_tree.specs.Fits.{count_of, is_input}
use Rattle.btor_witness.specs.declared.witness.Frame.{Frame}
use Rattle.btor_witness.specs.declared.witness.Witness.{Witness}
use Rattle.btor_witness.specs.Judging.{judged_btor}
use Rattle.btor_witness.specs.Printing.{IsBelow, IsPart, IsWitness}
use Rattle.btor_witness.specs.Sizes.{sizes_of, widths_of}
use Rattle.btor_witness.proofs.Tables.{part_below}
use Rattle.moxi_terms.specs.declared.data.Datum.{Datum}
use Rattle.moxi_terms.specs.declared.term.Variable.{Variable}
use Rattle.moxi_terms.specs.Sorted.{AreSorts}
use Rattle.moxi_terms.specs.Sorts.{Fit}
use Rattle.moxi_terms.specs.Tree.{sorts_of}
use Rattle.moxi_terms.specs.View.{ScopeState}
use Rattle.moxi_flat.specs.FlatSystem.{PlainFlatSystem}
use Rattle.moxi_lines.specs.Lines.{lines_of}
use Rattle.moxi_layout.specs.Layout.{LaysOut}
use Rattle.moxi_layout.specs.LayoutLaws.{IsLaidOut}
use Rattle.moxi_layout.proofs.Entries.{input_count}
use Rattle.moxi_lift.specs.Lifted.{lifted, lifted_step}
use Rattle.moxi_lift.specs.Laws.{AreOfSystem, IsLiftedTrace, LiftsMeetQueries, MeetsQueryOf}
use Rattle.moxi_lift.proofs.Held.{codes_held, equal_held, full_held, sorts_held}
use Rattle.moxi_lift.proofs.Fitting.{step_fits, widths_held}
use Rattle.moxi_lift.proofs.Decoded.{decoded_held}
use Rattle.moxi_terms.proofs.ScopeLaws.{all_of}

all_map : {X Y : Type 0} (P : X → Type 0) (Q : Y → Type 0) (g : X → Y) (xs : List X) → ((x : X) → P x → Q (g x)) → AllByRecursion P xs → AllByRecursion Q (map g xs)
all_map P Q g [] h a = tt
all_map P Q g (x ∷ xs) h a = (h x a.0, all_map P Q g xs h a.1)

some_long : {X Y : Type 0} (ys : List Y) (xs : List X) (g : X → Y) → xs ≢ [] → ys ≡ map g xs → 1 ≤ length ys
some_long ys [] g some e = absurd (some refl)
some_long ys (x ∷ xs) g some e = let long = ap length e in omega (arith, long)

module _ (f : PlainFlatSystem) (lines : List Line) (laid : ∥ IsLaidOut f lines ∥₁) where
  lays : ∥ LaysOut f lines ∥₁
  lays = ∥∥₁_map laid (λ (l : IsLaidOut f lines). l.lays)

  sorts_are : AreSorts f.scope.enumerations (sorts_of f.variables)
  sorts_are = sorts_held f.scope.enumerations (sorts_of f.variables) (∥∥₁_map laid (λ (l : IsLaidOut f lines). l.sorted.variables))

  module _ (w : Witness) (is : IsWitness (sizes_of lines) w) where
    inputs_below : AllByRecursion (λ (x : Frame). AllByRecursion (IsBelow (length f.variables)) x.inputs) w.frames
    inputs_below =
        let many : count_of is_input lines ≡ length f.variables = equal_held _ _ (∥∥₁_map lays (λ (l : LaysOut f lines). input_count f lines l.order)) in
        all_of (λ (x : Frame). IsPart (widths_of is_input lines) x.inputs) (λ (x : Frame). AllByRecursion (IsBelow (length f.variables)) x.inputs) w.frames
        (λ x p. part_below lines is_input (length f.variables) x.inputs (sym many) p) is.inputs

    lifted_fits : AllByRecursion (Fit f.scope.enumerations (sorts_of f.variables)) (lifted f w)
    lifted_fits =
        let codes = codes_held f.scope.enumerations (∥∥₁_map laid (λ (l : IsLaidOut f lines). l.codes)) in
        let full = full_held f.scope.enumerations (∥∥₁_map laid (λ (l : IsLaidOut f lines). l.sorted.scope.enumerations)) in
        all_map (λ (x : Frame). IsPart (widths_of is_input lines) x.inputs) (Fit f.scope.enumerations (sorts_of f.variables)) (λ (x : Frame). lifted_step f.scope.enumerations f.variables x.inputs) w.frames
        (λ x p. step_fits f codes full sorts_are lines (widths_held f lines lays) x.inputs p) is.inputs

    -- the trace that is lifted, step by step, is all that a lifted trace is
    is_lifted_trace : LiftsMeetQueries → judged_btor lines w Yes → (trace : List (List Datum)) → trace ≡ lifted f w → IsLiftedTrace f lines w trace
    is_lifted_trace law judged trace e = record {
      accepted = judged;
      exact = e;
      frames = λ rows a. e ∙ decoded_held f lines lays w rows a;
      some = some_long trace w.frames _ is.some e;
      fits = subst (AllByRecursion (Fit f.scope.enumerations (sorts_of f.variables))) (sym e) lifted_fits;
      meets = subst (λ envs. ∥ MeetsQueryOf f w.bad envs ∥₁) (sym e) (∥∥₁_map laid (λ (l : IsLaidOut f lines). law f lines l w is judged));
    }

-- ---- of the parts of a system

pub sorts_given : (f : PlainFlatSystem) (s : ScopeState) (vs : List Variable) (lines : List Line) → AreOfSystem f s vs lines → AreSorts s.enumerations (sorts_of vs)
sorts_given f s vs lines a =
    subst (λ (z : ScopeState). AreSorts z.enumerations (sorts_of vs)) (sym a.scope) (subst (λ (zs : List Variable). AreSorts f.scope.enumerations (sorts_of zs)) (sym a.variables) (sorts_are f lines a.laid))

pub inputs_given : (f : PlainFlatSystem) (s : ScopeState) (vs : List Variable) (lines : List Line) → AreOfSystem f s vs lines → (w : Witness) → IsWitness (sizes_of lines) w
    → AllByRecursion (λ (x : Frame). AllByRecursion (IsBelow (length vs)) x.inputs) w.frames
inputs_given f s vs lines a w is =
    subst (λ (zs : List Variable). AllByRecursion (λ (x : Frame). AllByRecursion (IsBelow (length zs)) x.inputs) w.frames) (sym a.variables) (inputs_below f lines a.laid w is)

steps_lifted : (f : PlainFlatSystem) (s : ScopeState) (vs : List Variable) → s ≡ f.scope → vs ≡ f.variables → (w : Witness) → map (λ (x : Frame). lifted_step s.enumerations vs x.inputs) w.frames ≡ lifted f w
steps_lifted f s vs a b w =
    ap (λ (z : ScopeState). map (λ (x : Frame). lifted_step z.enumerations vs x.inputs) w.frames) a
    ∙ ap (λ (zs : List Variable). map (λ (x : Frame). lifted_step f.scope.enumerations zs x.inputs) w.frames) b

pub lifted_answered : {E : Type 0} (s : ScopeState) (vs : List Variable) (lines : List Line) (w : Witness) → IsWitness (sizes_of lines) w → LiftsMeetQueries → judged_btor lines w Yes
    → (r : Result (List (List Datum)) E) → IfOk r (λ t. t ≡ map (λ (x : Frame). lifted_step s.enumerations vs x.inputs) w.frames)
    → IfOk r (λ t. (f : PlainFlatSystem) → AreOfSystem f s vs lines → IsLiftedTrace f lines w t)
lifted_answered s vs lines w is law judged (Ok t) e = λ f a. is_lifted_trace f lines a.laid w is law judged t (e ∙ steps_lifted f s vs a.scope a.variables w)
lifted_answered s vs lines w is law judged (Err x) e = tt

-- what an accepted witness is lifted to, whichever way its steps are built
pub all_lifted : (s : ScopeState) (vs : List Variable) (lines : List Line) (w : Witness) → IsWitness (sizes_of lines) w → LiftsMeetQueries → judged_btor lines w Yes
    → (f : PlainFlatSystem) → AreOfSystem f s vs lines → IsLiftedTrace f lines w (lifted f w)
all_lifted s vs lines w is law judged f a = is_lifted_trace f lines a.laid w is law judged (lifted f w) refl

-- ---- of a chain

module _ (f g : PlainFlatSystem) (is : g ≡ f) (s : ScopeState) (vs : List Variable) (lines : List Line) (scope : s ≡ g.scope) (variables : vs ≡ g.variables) (own : lines ≡ lines_of f) (laid : ∥ IsLaidOut g (lines_of g) ∥₁) where
  of_chain : AreOfSystem f s vs lines
  of_chain = record {
    scope = scope ∙ ap (λ (x : PlainFlatSystem). x.scope) is;
    variables = variables ∙ ap (λ (x : PlainFlatSystem). x.variables) is;
    laid = subst (λ (ls : List Line). ∥ IsLaidOut f ls ∥₁) (sym own) (subst (λ (x : PlainFlatSystem). ∥ IsLaidOut x (lines_of x) ∥₁) is laid);
  }

  pub some_system : (h : PlainFlatSystem) × AreOfSystem h s vs lines
  some_system = (f, of_chain)

  pub chain_lifted : {E : Type 0} (w : Witness) (r : Result (List (List Datum)) E) → IfOk r (λ t. (h : PlainFlatSystem) → AreOfSystem h s vs lines → IsLiftedTrace h lines w t) → IfOk r (IsLiftedTrace f (lines_of f) w)
  chain_lifted w (Ok t) l = subst (λ (ls : List Line). IsLiftedTrace f ls w t) own (l f of_chain)
  chain_lifted w (Err x) l = tt
