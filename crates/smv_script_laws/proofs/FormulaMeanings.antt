-- The parts of formulas, and their negations, say in the environments of two rows what the flat form says of the rows.
use Rattle.std.proofs.Common.{◌≡◌, ℕ, zero, suc, ◌+◌, ◌≤◌, Bool, true, false, not, List, [], ◌∷◌, refl, sym, ap, ◌∙◌, subst}
use Rattle.std.specs.Prelude.{◌↔◌, slice_get}
use Rattle.std.specs.List.{AllByRecursion, list_all}
use Rattle.smv_text.specs.declared.tree.When.{When}
use Rattle.smv_text.specs.declared.tree.When.TheVariants.{Always, First, Following}
use Rattle.smv_meaning.specs.declared.value.Value.{Value}
use Rattle.smv_meaning.specs.declared.value.Value.TheVariants.{Truth}
use Rattle.smv_meaning.specs.Values.{Valuation, is_true}
use Rattle.smv_meaning.specs.Expressions.{Denotation}
use Rattle.smv_meaning.specs.Instances.{Instance}
use Rattle.smv_meaning.specs.Types.{truth_type}
use Rattle.smv_meaning.specs.Checks.{passes}
use Rattle.smv_meaning.specs.Phases.{over_instances, type_checks}
use Rattle.smv_meaning.specs.Settled.{types_in}
use Rattle.smv_meaning.specs.laws.Booleans.{both_true, two_true}
use Rattle.smv_items.specs.FlatItems.{symbols_of}
use Rattle.smv_flat.specs.declared.forms.Role.{Role}
use Rattle.smv_flat.specs.declared.forms.Role.TheVariants.{Body, Assign, Init, Trans, Invar, Invariant}
use Rattle.smv_flat.specs.FlatTree.{FlatTree}
use Rattle.smv_flat.specs.FlatForms.{Form, flat_of}
use Rattle.smv_flat.specs.FlatTruth.{Row, form_denotes, role_holds, role_invariant, forms_invariants, is_false_in}
use Rattle.smv_flat.specs.FlatWidth.{items_width}
use Rattle.moxi_terms.specs.declared.data.Datum.TheVariants as datum
use Rattle.moxi_terms.specs.Operators.{truth_of}
use Rattle.moxi_terms.specs.Tree.{Tree, variable}
use Rattle.moxi_terms.specs.Value.{Calls, Values, term_value}
use Rattle.moxi_scripts.specs.Script.{formula_at}
use Rattle.moxi_scripts.specs.Behaviour.{Holds}
use Rattle.smv_script.specs.Codes.{datum_of}
use Rattle.smv_script.specs.Operators.{not_term}
use Rattle.smv_script.specs.Terms.{Coding, translation}
use Rattle.smv_script.specs.Script.{form_parts, is_following, reachables_from}
use Rattle.smv_script_laws.specs.Kinds.{IsOfKind}
use Rattle.smv_script_laws.specs.TermLaws.{HasRow}
use Rattle.smv_script_laws.specs.Meanings.{Says}
use Rattle.smv_script_laws.proofs.ValueLaws.{terms_have_values_law}
use Rattle.smv_script_laws.specs.Parts.{FormsHold}
use Rattle.smv_script_laws.proofs.Forms.{Ready, Target, RoleGood, FormGood}
use Rattle.smv_script_laws.proofs.Targets.{target_stands}
use Rattle.smv_script_laws.proofs.Lists.{all_at, all_of}
use Rattle.smv_script_laws.proofs.Bodies.{all_joined}

truth_datum : (width : ℕ) (symbols : List (List ℕ)) (v : Value) → IsOfKind width symbols truth_type v → datum_of width symbols v ≡ datum.Truth (is_true v)
truth_datum width symbols (Truth b) h = refl
truth_datum width symbols v h = absurd h

-- the values to which assignments of a time give theirs
abbrev pub target_row : When → Row → Row → Row
target_row Always now later = now
target_row First now later = now
target_row Following now later = later

module _ (t : List Instance) (c : Coding) (ready : Ready t) (some : 1 ≤ c.width) (types : passes (over_instances (type_checks (types_in true t)) 0 t) ≡ true)
    (wide : items_width (flat_of t).items ≤ c.width) (state label following other : Valuation) (now later : Row) (calls : Calls) (first second : Values)
    (this : HasRow t c state label now first) (next : HasRow t c following other later second) where
  abbrev denoted : FlatTree → Denotation
  denoted e = form_denotes (flat_of t) now later e

  abbrev AllHold : When → Role → FlatTree → Type 0
  AllHold when r e = AllByRecursion (Holds calls first second) (form_parts c when r e)

  pub form_says : (f : Form) (g : FormGood t c.width f) → Says c.width (symbols_of t) calls first second g.good.type (denoted f.body) g.at.sets (translation c f.body)
  form_says f g =
      subst (λ e. Says c.width (symbols_of t) calls first second g.good.type (denoted e) g.at.sets (translation c e)) (sym g.body)
      (terms_have_values_law t ready.acyclic c some state label following other now later calls first second this next g.from g.at g.source g.good.operators g.good.width g.good.type g.good.typed)

  -- the term of a truth value
  abbrev TruthSays : FlatTree → Type 0
  TruthSays e = term_value calls first second [] ((translation c e).term 0) ≡ datum.Truth (is_true (denoted e).value)

  truth_says : (f : Form) (g : FormGood t c.width f) → g.at.sets ≡ false → g.good.type ≡ truth_type → TruthSays f.body
  truth_says f g s e =
      let y = form_says f g in
      y.value s [] ∙ truth_datum c.width (symbols_of t) (denoted f.body).value (subst (λ u. IsOfKind c.width (symbols_of t) u (denoted f.body).value) e (y.kind s))

  -- the term of a membership
  target_says : (f : Form) (g : FormGood t c.width f) (when : When) (k : ℕ) → Target t g.from when k g.good.type
      → term_value calls first second [] ((translation c f.body).member 0 (variable (c.place k) (is_following when))) ≡ datum.Truth ((denoted f.body).permits (target_row when now later k))
  target_says f g Always k a =
      let s = target_stands t c ready.acyclic some types wide state label now first this g.from Always k g.good.type a in
      (form_says f g).member [] (variable (c.place k) false) (now k) s.0 s.1
  target_says f g First k a =
      let s = target_stands t c ready.acyclic some types wide state label now first this g.from First k g.good.type a in
      (form_says f g).member [] (variable (c.place k) false) (now k) s.0 s.1
  target_says f g Following k a =
      let s = target_stands t c ready.acyclic some types wide following other later second next g.from Following k g.good.type a in
      (form_says f g).member [] (variable (c.place k) true) (later k) s.0 s.1

  -- ---- one formula

  one_part : (x : Tree) (b : Bool) → term_value calls first second [] x ≡ datum.Truth b → AllByRecursion (Holds calls first second) (x ∷ []) ↔ (b ≡ true)
  one_part x b e = (λ h. ap truth_of (sym e ∙ h.0), λ h. (e ∙ ap datum.Truth h, tt))

  no_part : AllByRecursion (Holds calls first second) [] ↔ (true ≡ true)
  no_part = (λ h. refl, λ h. tt)

  form_means : (when : When) (f : Form) (g : FormGood t c.width f) → AllHold when f.role f.body ↔ (role_holds when (target_row when now later) f.role (denoted f.body) ≡ true)
  form_means when f g = by when f.role g.role
    where
      truth : RoleGood t g.from g.at g.good.type Init → AllByRecursion (Holds calls first second) ((translation c f.body).term 0 ∷ []) ↔ (is_true (denoted f.body).value ≡ true)
      truth q = one_part ((translation c f.body).term 0) (is_true (denoted f.body).value) (truth_says f g q.0 q.1)

      member : (when : When) (k : ℕ) → Target t g.from when k g.good.type
          → AllByRecursion (Holds calls first second) ((translation c f.body).member 0 (variable (c.place k) (is_following when)) ∷ []) ↔ ((denoted f.body).permits (target_row when now later k) ≡ true)
      member when k a = one_part ((translation c f.body).member 0 (variable (c.place k) (is_following when))) ((denoted f.body).permits (target_row when now later k)) (target_says f g when k a)

      by : (when : When) (r : Role) → RoleGood t g.from g.at g.good.type r → AllHold when r f.body ↔ (role_holds when (target_row when now later) r (denoted f.body) ≡ true)
      by Always (Body k) q = no_part
      by First (Body k) q = no_part
      by Following (Body k) q = no_part
      by Always (Assign Always k) q = member Always k q
      by First (Assign Always k) q = no_part
      by Following (Assign Always k) q = no_part
      by Always (Assign First k) q = no_part
      by First (Assign First k) q = member First k q
      by Following (Assign First k) q = no_part
      by Always (Assign Following k) q = no_part
      by First (Assign Following k) q = no_part
      by Following (Assign Following k) q = member Following k q
      by Always Init q = no_part
      by First Init q = truth q
      by Following Init q = no_part
      by Always Trans q = no_part
      by First Trans q = no_part
      by Following Trans q = truth q
      by Always Invar q = truth q
      by First Invar q = no_part
      by Following Invar q = no_part
      by Always Invariant q = no_part
      by First Invariant q = no_part
      by Following Invariant q = no_part

  -- ---- all formulas

  abbrev holds_here : When → Form → Bool
  holds_here when f = role_holds when (target_row when now later) f.role (denoted f.body)

  all_hold : (when : When) (fs : List Form) → AllByRecursion (FormGood t c.width) fs → AllByRecursion (λ (f : Form). AllHold when f.role f.body) fs → list_all (holds_here when) fs ≡ true
  all_hold when [] g h = refl
  all_hold when (f ∷ fs) g h = two_true (holds_here when f) (list_all (holds_here when) fs) ((form_means when f g.0).0 h.0) (all_hold when fs g.1 h.1)

  hold_all : (when : When) (fs : List Form) → AllByRecursion (FormGood t c.width) fs → list_all (holds_here when) fs ≡ true → AllByRecursion (λ (f : Form). AllHold when f.role f.body) fs
  hold_all when [] g h = tt
  hold_all when (f ∷ fs) g h =
      let s = both_true (holds_here when f) (list_all (holds_here when) fs) h in
      ((form_means when f g.0).1 s.0, hold_all when fs g.1 s.1)

  pub forms_mean : (when : When) → AllByRecursion (FormGood t c.width) (flat_of t).forms → FormsHold (flat_of t) c when calls first second ↔ (list_all (holds_here when) (flat_of t).forms ≡ true)
  forms_mean when g = (
    λ h. all_hold when (flat_of t).forms g (all_of (λ (f : Form). AllHold when f.role f.body) (flat_of t).forms h),
    λ h n f e. all_at (λ (x : Form). AllHold when x.role x.body) (flat_of t).forms n f (hold_all when (flat_of t).forms g h) e,
  )

  -- ---- invariants

  invariants_say : (fs : List Form) → AllByRecursion (FormGood t c.width) fs → AllByRecursion TruthSays (forms_invariants fs)
  invariants_say [] g = tt
  invariants_say (f ∷ fs) g = all_joined TruthSays (role_invariant f.role f.body) (forms_invariants fs) (by f.role (g.0).role) (invariants_say fs g.1)
    where
      by : (r : Role) → RoleGood t (g.0).from (g.0).at (g.0).good.type r → AllByRecursion TruthSays (role_invariant r f.body)
      by (Body k) q = tt
      by (Assign when k) q = tt
      by Init q = tt
      by Trans q = tt
      by Invar q = tt
      by Invariant q = (truth_says f g.0 q.0 q.1, tt)

  pub broken_means : (es : List FlatTree) → AllByRecursion TruthSays es → (start j : ℕ)
      → Holds calls first second (formula_at (reachables_from c start es) j) ↔ (is_false_in (flat_of t) now later (slice_get es j) ≡ true)
  broken_means [] s start j = (λ h. ap truth_of h, λ h. ap datum.Truth h)
  broken_means (e ∷ es) s start zero =
      let value : term_value calls first second [] (not_term ((translation c e).term 0)) ≡ datum.Truth (not (is_true (denoted e).value)) = ap (λ d. datum.Truth (not (truth_of d))) s.0 in
      (λ h. ap truth_of (sym value ∙ h), λ h. value ∙ ap datum.Truth h)
  broken_means (e ∷ es) s start (suc j) = broken_means es s.1 (start + 1) j

  pub invariants_mean : AllByRecursion (FormGood t c.width) (flat_of t).forms → (j : ℕ)
      → Holds calls first second (formula_at (reachables_from c 0 (forms_invariants (flat_of t).forms)) j) ↔ (is_false_in (flat_of t) now later (slice_get (forms_invariants (flat_of t).forms) j) ≡ true)
  invariants_mean g j = broken_means (forms_invariants (flat_of t).forms) (invariants_say (flat_of t).forms g) 0 j
