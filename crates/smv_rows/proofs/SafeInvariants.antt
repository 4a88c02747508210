-- The invariants are among the formulas.
use Rattle.std.proofs.Common.{◌≡◌, ℕ, zero, suc, List, [], ◌∷◌, ◌++◌, Some, subst}
use Rattle.std.specs.List.{slice_get}
use Rattle.smv_flat.specs.FlatTree.{FlatTree}
use Rattle.smv_flat.specs.declared.forms.Role.{Role}
use Rattle.smv_flat.specs.declared.forms.Role.TheVariants.{Body, Assign, Init, Trans, Invar, Invariant}
use Rattle.smv_flat.specs.FlatForms.{Form, PlainFlat}
use Rattle.smv_flat.specs.FlatTruth.{Row, symbol_value, role_invariant, forms_invariants}
use Rattle.smv_flat_evaluation.specs.FlatSafety.{FlatSafe, FormsSafe}

pub invariant_safe : (flat : PlainFlat) (now later : Row) (fs : List Form) (j : ℕ) (e : FlatTree) → FormsSafe flat now later fs → slice_get (forms_invariants fs) j ≡ Some e → FlatSafe (symbol_value flat.symbols) now later e
invariant_safe flat now later [] j e s h = cc
invariant_safe flat now later (f ∷ fs) j e s h = by f.role (λ n g. invariant_safe flat now later fs n e s.1 g) j h
  where
    by : (r : Role) → ((n : ℕ) → slice_get (forms_invariants fs) n ≡ Some e → FlatSafe (symbol_value flat.symbols) now later e) → (n : ℕ)
        → slice_get (role_invariant r f.body ++ forms_invariants fs) n ≡ Some e → FlatSafe (symbol_value flat.symbols) now later e
    by (Body k) rest n g = rest n g
    by (Assign w k) rest n g = rest n g
    by Init rest n g = rest n g
    by Trans rest n g = rest n g
    by Invar rest n g = rest n g
    by Invariant rest zero g = let same : f.body ≡ e = cc in subst (λ x. FlatSafe (symbol_value flat.symbols) now later x) same s.0
    by Invariant rest (suc n) g = rest n g
