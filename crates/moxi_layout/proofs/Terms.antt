-- The value of a term depends on its variables alone.
use Rattle.std.proofs.Common.{◌≡◌, ℕ, zero, suc, ◌<◌, true, false, List, [], ◌∷◌, ◌++◌, length, Some, refl, sym, ap, ◌∙◌, arith}
use Rattle.std.specs.Prelude.{slice_get}
use Rattle.moxi_terms.specs.declared.data.Sort.{Sort}
use Rattle.moxi_terms.specs.declared.data.Datum.{Datum}
use Rattle.moxi_terms.specs.declared.data.Datum.TheVariants as datum
use Rattle.moxi_terms.specs.declared.term.Enumeration.{Enumeration}
use Rattle.moxi_terms.specs.Operators.{op_value, truth_of}
use Rattle.moxi_terms.specs.Sorted.{HasSort, HaveSorts}
use Rattle.moxi_terms.specs.Tree.{PlainFunction, Tree, Trees, apply, binding, bound, call, constant, no_trees, sorts_of, tree, variable}
use Rattle.moxi_terms.specs.Value.{Calls, Values, term_value, term_values}
use Rattle.moxi_terms.specs.View.{ScopeState}
use Rattle.moxi_scripts.specs.Script.{PlainFormula, calls_in, formula_at}
use Rattle.moxi_scripts.specs.Behaviour.{Holds}
use Rattle.moxi_flat.specs.FlatSorts.{AreFlatTruths, IsFlatTruth}
use Rattle.moxi_flat.specs.FlatSystem.{PlainFlatSystem}
use Rattle.moxi_lines.specs.Constraints.{is_true}

-- the variables have the same values
pub record Agree (vars : List Sort) (a b : Values) : Type 0 where
  pub each : (v : ℕ) (s : Sort) → slice_get vars v ≡ Some s → a v ≡ b v

module _ (es : List Enumeration) (fs : List PlainFunction) (vars : List Sort) (calls : Calls) (a b c d : Values) (now : Agree vars a b) (later : Agree vars c d) where
  mutual
    pub same_value : (bounds : List Sort) (vals : List Datum) (t : Tree) (s : Sort) → HasSort es fs vars bounds t s → term_value calls a c vals t ≡ term_value calls b d vals t
    same_value bounds vals (constant x) s h = refl
    same_value bounds vals (variable v true) s h = later.each v s h
    same_value bounds vals (variable v false) s h = now.each v s h
    same_value bounds vals (bound i) s h = refl
    same_value bounds vals (apply o ts) s h = ap (op_value o) (same_values bounds vals ts h.0 h.1)
    same_value bounds vals (binding names ts t) s h =
        same_value (bounds ++ h.0) (vals ++ term_values calls a c vals ts) t s h.3
        ∙ ap (λ vs. term_value calls b d (vals ++ vs) t) (same_values bounds vals ts h.0 h.2)
    same_value bounds vals (call n ts) s h = ap (calls n) (same_values bounds vals ts (sorts_of h.0.parameters) h.2)

    same_values : (bounds : List Sort) (vals : List Datum) (ts : Trees) (ss : List Sort) → HaveSorts es fs vars bounds ts ss → term_values calls a c vals ts ≡ term_values calls b d vals ts
    same_values bounds vals no_trees ss h = refl
    same_values bounds vals (tree t ts) [] h = absurd h
    same_values bounds vals (tree t ts) (s ∷ ss) h =
        ap (λ x. x ∷ term_values calls a c vals ts) (same_value bounds vals t s h.0) ∙ ap (λ xs. term_value calls b d vals t ∷ xs) (same_values bounds vals ts ss h.1)

-- ---- truth

truth_is : (x : Datum) → truth_of x ≡ true → x ≡ datum.Truth true
truth_is (datum.Truth true) h = refl
truth_is (datum.Truth false) h = absurd (cc)
truth_is (datum.Bits v) h = absurd (cc)
truth_is (datum.Constant n i) h = absurd (cc)

pub holds_from : (s : ScopeState) (before now : Values) (t : Tree) → is_true s before now t ≡ true → Holds (calls_in s) before now t
holds_from s before now t h = truth_is (term_value (calls_in s) before now [] t) h

pub holds_to : (s : ScopeState) (before now : Values) (t : Tree) → Holds (calls_in s) before now t → is_true s before now t ≡ true
holds_to s before now t h = ap truth_of h

-- a formula of a system holds of values where it holds of the same ones
pub holds_same : (f : PlainFlatSystem) (a b c d : Values) (t : Tree) → Agree (sorts_of f.variables) a b → Agree (sorts_of f.variables) c d → IsFlatTruth f t → Holds (calls_in f.scope) a c t → Holds (calls_in f.scope) b d t
holds_same f a b c d t now later sorted h =
    sym (same_value f.scope.enumerations f.scope.functions (sorts_of f.variables) (calls_in f.scope) a b c d now later [] [] t _ sorted) ∙ h

pub agree_same : (vars : List Sort) (a : Values) → Agree vars a a
agree_same vars a = record { each = λ v s h. refl }

pub agree_back : (vars : List Sort) (a b : Values) → Agree vars a b → Agree vars b a
agree_back vars a b g = record { each = λ v s h. sym (g.each v s h) }

-- the formula of a number that is there is a truth over the variables
pub formula_sorted : (f : PlainFlatSystem) (fs : List PlainFormula) (i : ℕ) → AreFlatTruths f fs → i < length fs → IsFlatTruth f (formula_at fs i)
formula_sorted f [] i a h = absurd (omega (arith, h))
formula_sorted f (x ∷ fs) zero a h = a.0.0
formula_sorted f (x ∷ fs) (suc i) a h = formula_sorted f fs i a.1 (omega (arith, h))
