-- What is known of the flat system of a script that isn't refused.
use Rattle.std.proofs.Common.{◌≡◌, ℕ, suc, ◌+◌, ◌<◌, ◌≤◌, cond, not, Bool, true, false, List, [], length, map, Option, Some, None, refl, sym, ap, ◌∙◌, subst, arith}
use Rattle.std.proofs.Math.Bool.{Bool-set}
use Rattle.std.proofs.Math.Logic.{∥∥₁_elim, ∥∥₁_map}
use Rattle.text_core.specs.declared.place.Kind.TheVariants.{M}
use Rattle.text_core.specs.declared.place.Refusal.{Refusal}
use Rattle.name_maps.specs.Names.{are_fresh}
use Rattle.moxi_term_print.specs.Terms.{variable_names}
use Rattle.moxi_terms.specs.declared.term.Variable.{Variable}
use Rattle.moxi_terms.specs.View.{ScopeState}
use Rattle.moxi_scripts.specs.declared.script.Check.{Check}
use Rattle.moxi_scripts.specs.declared.script.System.{System}
use Rattle.moxi_scripts.specs.Invariant.{script_of}
use Rattle.moxi_scripts.specs.Script.{PlainScript, plain_formula}
use Rattle.moxi_scripts.specs.Valid.{IsValid}
use Rattle.moxi_flat.specs.FlatSizes.{FlatSystemsHaveSizes}
use Rattle.moxi_flat.specs.FlatSorts.{IsSortedFlat}
use Rattle.moxi_flat.specs.FlatSystem.{PlainFlatSystem, PlainPart, flat_of}
use Rattle.moxi_flat.specs.FlatLaws.{FlatSystemsAreSmall, FlatSystemsAreSorted}
use Rattle.moxi_flat.specs.Limits.{flat_refusal, has_name_twice, is_too_large}
use Rattle.moxi_flat.specs.declared.limits.TheConstants.{LARGEST, HIGHEST}
use Rattle.moxi_instantiate.specs.Instances.{IsInstance, flat_form, flat_height, flat_size}
use Rattle.moxi_instantiate.specs.PlainParts.{plain_part}
use Rattle.moxi_instantiate.specs.declared.parts.Part.{Part}
use Rattle.moxi_instantiate.proofs.Measured.{lt_held}
use Rattle.moxi_instantiate.proofs.Whole.{within_height, within_size}

neither : {A : Type 0} (a b : Bool) (x y : A) → cond a (Some x) (cond b (Some y) None) ≡ None → (a ≡ false) × (b ≡ false)
neither true b x y e = absurd (cc)
neither false true x y e = absurd (cc)
neither false false x y e = (refl, refl)

passes : (s : PlainScript) → flat_refusal s ≡ None → (is_too_large s ≡ false) × (has_name_twice s ≡ false)
passes s e = neither {A = Refusal} (is_too_large s) (has_name_twice s) (record { kind = M 15; place = s.check.place }) (record { kind = M 9; place = s.check.place }) e

pub is_small : (s : PlainScript) → flat_refusal s ≡ None → is_too_large s ≡ false
is_small s e = (passes s e).0

no_test : (b : Bool) → not b ≡ false → b ≡ true
no_test true e = refl
no_test false e = absurd (cc)

le_held : (a b : ℕ) → ∥ a ≤ b ∥₁ → a ≤ b
le_held a b h = let l = lt_held a (suc b) (∥∥₁_map h (λ l. up a b l)) in omega (arith, l)
  where
    up : (a b : ℕ) → a ≤ b → a < suc b
    up a b l = omega (arith, l)

module _ (f : PlainFlatSystem) (w : ∥ IsInstance f ∥₁) where
  pub sorted_held : FlatSystemsAreSorted → ∥ IsSortedFlat f ∥₁
  sorted_held law = ∥∥₁_map w (λ i. subst IsSortedFlat i.flat (law i.script i.whole))

  pub size_held : FlatSystemsHaveSizes → flat_size f ≤ LARGEST
  size_held law =
      le_held (flat_size f) LARGEST
      (∥∥₁_map w (λ i. subst (λ f. flat_size f ≤ LARGEST) i.flat (subst (λ n. n ≤ LARGEST) (sym (law i.script i.whole).size) (within_size i.script (is_small i.script i.accepted)))))

  pub height_held : FlatSystemsHaveSizes → flat_height f ≤ HIGHEST
  height_held law =
      le_held (flat_height f) HIGHEST
      (∥∥₁_map w (λ i. subst (λ f. flat_height f ≤ HIGHEST) i.flat (subst (λ n. n ≤ HIGHEST) (sym (law i.script i.whole).height) (within_height i.script (is_small i.script i.accepted)))))

  pub count_held : FlatSystemsAreSmall → length f.variables + length f.parts ≤ LARGEST
  count_held law =
      le_held (length f.variables + length f.parts) LARGEST
      (∥∥₁_map w (λ i. subst (λ f. length f.variables + length f.parts ≤ LARGEST) i.flat (within (law i.script i.whole) (within_size i.script (is_small i.script i.accepted)))))
    where
      within : {a b c : ℕ} → a ≤ b → b ≤ c → a ≤ c
      within l m = omega (arith, l, m)

  pub names_held : are_fresh [] (variable_names f.variables) ≡ true
  names_held =
      ∥∥₁_elim w (Bool-set (are_fresh [] (variable_names f.variables)) true)
      (λ i. subst (λ f. are_fresh [] (variable_names f.variables) ≡ true) i.flat (no_test (are_fresh [] (variable_names (flat_of i.script).variables)) (passes i.script i.accepted).1))

abbrev form_with : ScopeState → Check → List Variable → List PlainPart → PlainFlatSystem
form_with scope check vs ps = record {
  scope = scope;
  variables = vs;
  parts = ps;
  assumptions = map plain_formula check.assumptions;
  currents = map plain_formula check.currents;
  reachables = map plain_formula check.reachables;
  queries = check.queries;
}

pub flat_same : (scope : ScopeState) (check : Check) (us vs : List Variable) (ps qs : List PlainPart) → us ≡ vs → ps ≡ qs → form_with scope check us ps ≡ form_with scope check vs qs
flat_same scope check us vs ps qs e f = ap (λ x. form_with scope check x ps) e ∙ ap (form_with scope check vs) f

-- the flat system whose variables and parts these are
pub instance_of : (logic : Option (List ℕ)) (scope : ScopeState) (systems : List System) (check : Check) (variables : List Variable) (parts : List Part)
    → ∥ IsValid (script_of logic scope systems check) ∥₁ → variables ≡ (flat_of (script_of logic scope systems check)).variables
    → map plain_part parts ≡ (flat_of (script_of logic scope systems check)).parts → flat_refusal (script_of logic scope systems check) ≡ None
    → ∥ IsInstance (flat_form scope check variables parts) ∥₁
instance_of logic scope systems check variables parts w e f accepted =
    let s = script_of logic scope systems check in
    ∥∥₁_map w (λ h. record {
      script = s;
      whole = h;
      flat = sym (flat_same scope check variables (flat_of s).variables (map plain_part parts) (flat_of s).parts e f);
      accepted = accepted;
    })
