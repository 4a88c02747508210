-- The items and symbols of an accepted model are few, its symbols can be constants, and the numbers of its formulas are in
-- range.
use Rattle.std.proofs.Common.{◌≡◌, ℕ, ◌≤◌, ◌<◌, ◌^◌, ◌&&◌, ◌||◌, Bool, true, false, not, List, [], ◌∷◌, codes, length, map, refl, sym, ap, ◌∙◌, subst, arith}
use Rattle.std.specs.List.{list_any}
use Rattle.std.proofs.Math.Bool.{Bool-set}
use Rattle.std.proofs.Math.Bridge.{le_prop}
use Rattle.std.proofs.Math.Logic.{∥∥₁_elim}
use Rattle.std.proofs.Math.Nat.{ℕ_set}
use Rattle.std.proofs.lemmas.List.{length-map}
use Rattle.name_maps.specs.Names.{are_fresh}
use Rattle.name_maps.proofs.FreshNames.{all_fresh}
use Rattle.moxi_terms.specs.Names.{is_term_name, may_be_enumeration, no_scope}
use Rattle.moxi_terms.specs.Words.{operators, indexed_operators}
use Rattle.smv_meaning.specs.Instances.{Instance, instances_of}
use Rattle.smv_items.specs.FlatItems.{symbols_of}
use Rattle.smv_items.specs.FlatItemView.{item_plain}
use Rattle.smv_flat.specs.FlatForms.{PlainFlat, flat_smv}
use Rattle.smv_flat.specs.FlatFormulas.{form_plain}
use Rattle.smv_flatten.specs.FlatModel.{FlatModel, IsOfModel}
use Rattle.smv_script_laws.proofs.Constants.{constant_of, constants_apart}
use Rattle.smv_script_laws.proofs.Limits.{items_are_few, symbols_are_few}
use Rattle.smv_script.specs.Ranges.{forms_excess}
use Rattle.smv_script_laws.proofs.Ranges.{bodies_in_range}
use Rattle.smv_script_terms.specs.Depths.{forms_depth}
use Rattle.smv_to_moxi.specs.Symbols.{CanBeConstants}
use Rattle.smv_to_moxi.proofs.LowBodies.{bodies_low}

-- no constant has the name of an operator or a truth value
constant_free : (s : List ℕ) → is_term_name no_scope (constant_of s) ≡ false
unfolding operators indexed_operators
constant_free s = refl

constants_free : (symbols : List (List ℕ)) → list_any (is_term_name no_scope) (map constant_of symbols) ≡ false
constants_free [] = refl
constants_free (s ∷ ss) = ap (λ b. b || list_any (is_term_name no_scope) (map constant_of ss)) (constant_free s) ∙ constants_free ss

two_true : (a b : Bool) → a ≡ false → b ≡ true → (not a && b) ≡ true
two_true true b h k = cc
two_true false b h k = k

constants_can : (t : List Instance) → length (symbols_of t) < 2 ^ 32 → CanBeConstants (symbols_of t)
constants_can t h = record {
  few = h;
  free = two_true (list_any (is_term_name no_scope) (map constant_of (symbols_of t))) (are_fresh [] (map constant_of (symbols_of t)))
      (constants_free (symbols_of t)) (all_fresh (map constant_of (symbols_of t)) (constants_apart t));
}

-- what a flat form needs so that its script can be computed
pub record IsSmallModel (f : FlatModel) : Type 0 where
  pub items : length f.items < 2 ^ 30
  pub symbols : CanBeConstants f.symbols
  pub deep : forms_depth (map form_plain f.formulas) < 2 ^ 32
  pub in_range : forms_excess (map form_plain f.formulas) ≡ 0

small_model : (f : FlatModel) → IsOfModel f → IsSmallModel f
small_model f m =
    let t = instances_of m.source in
    let l = length-map f.items item_plain in
    let n : length (flat_smv m.source).items ≤ 200000 = items_are_few m.source m.read.end m.read.tokens m.read.spelled m.needed m.accepted in
    let e : length (map item_plain f.items) ≡ length (flat_smv m.source).items = ap (λ (x : PlainFlat). length x.items) m.form in
    let k : length (symbols_of t) ≤ 200000 = symbols_are_few m.source m.read.end m.read.tokens m.read.spelled m.needed m.accepted in
    let s : f.symbols ≡ symbols_of t = ap (λ (x : PlainFlat). x.symbols) m.form in
    let d : forms_depth (map form_plain f.formulas) ≡ forms_depth (flat_smv m.source).forms = ap (λ (x : PlainFlat). forms_depth x.forms) m.form in
    let b = bodies_low m.source m.read.end m.read.tokens m.read.spelled m.read.low in
    record {
      items = omega (arith, l, n, e);
      symbols = subst CanBeConstants (sym s) (constants_can t (omega (arith, k)));
      deep = omega (arith, d, b);
      in_range = ap (λ (x : PlainFlat). forms_excess x.forms) m.form ∙ bodies_in_range m.source m.read.end m.read.text m.read.tokens m.read.lexed m.read.spelled m.needed m.accepted;
    }

pub is_small_model : (f : FlatModel) → ∥ IsOfModel f ∥₁ → IsSmallModel f
is_small_model f t = record {
  items = ∥∥₁_elim t le_prop (λ (m : IsOfModel f). (small_model f m).items);
  symbols = record {
    few = ∥∥₁_elim t le_prop (λ (m : IsOfModel f). (small_model f m).symbols.few);
    free = ∥∥₁_elim t (Bool-set (may_be_enumeration no_scope (codes "Symbol") (map constant_of f.symbols)) true) (λ (m : IsOfModel f). (small_model f m).symbols.free);
  };
  deep = ∥∥₁_elim t le_prop (λ (m : IsOfModel f). (small_model f m).deep);
  in_range = ∥∥₁_elim t (ℕ_set (forms_excess (map form_plain f.formulas)) 0) (λ (m : IsOfModel f). (small_model f m).in_range);
}
