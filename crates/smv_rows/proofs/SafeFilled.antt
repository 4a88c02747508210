-- Bodies that are evaluated safely in the row to which they come are so one after another.
use Rattle.std.proofs.Common.{◌≡◌, ℕ, inl, inr, true, not, ◌&&◌, List, [], ◌∷◌, Option, Some, None, refl, subst}
use Rattle.digraph.specs.Graph.{is_in}
use Rattle.smv_meaning.specs.declared.value.Value.{Value}
use Rattle.smv_meaning.specs.laws.Booleans.{both_true}
use Rattle.smv_flat.specs.FlatTree.{FlatTree}
use Rattle.smv_flat.specs.FlatForms.{Form, PlainFlat}
use Rattle.smv_flat.specs.FlatTruth.{Row, symbol_value}
use Rattle.smv_flat_evaluation.specs.FlatSafety.{FlatSafe, FormsSafe}
use Rattle.smv_flat_laws.specs.FlatOrders.{Bodies, body_reads, is_settled, IsAmong}
use Rattle.smv_rows.specs.Filling.{with_body, filled, BodySafe, FillsSafely}
use Rattle.smv_rows.proofs.Filled.{filled_out}
use Rattle.smv_rows.proofs.SafeAgreeing.{safe_same}
use Rattle.text_core.proofs.Truths.{not_true}

pub among_safe : (flat : PlainFlat) (now later : Row) (fs : List Form) → FormsSafe flat now later fs → (k : ℕ) (e : FlatTree) → IsAmong k e fs → FlatSafe (symbol_value flat.symbols) now later e
among_safe flat now later [] s k e i = absurd i
among_safe flat now later (f ∷ fs) s k e (inl i) = subst (λ b. FlatSafe (symbol_value flat.symbols) now later b) i.1 s.0
among_safe flat now later (f ∷ fs) s k e (inr i) = among_safe flat now later fs s.1 k e i

-- each body is evaluated safely in the row
abbrev pub BodiesSafe : Bodies → (ℕ → Value) → Row → Type 0
BodiesSafe bodies symbols end = (k : ℕ) (e : FlatTree) → bodies k ≡ Some e → FlatSafe symbols end end e

pub fills_safely : (bodies : Bodies) (symbols : ℕ → Value) (row : Row) (ks : List ℕ) → is_settled bodies ks ≡ true → BodiesSafe bodies symbols (filled bodies symbols row ks) → FillsSafely bodies symbols row ks
fills_safely bodies symbols row [] s h = tt
fills_safely bodies symbols row (k ∷ ks) s h =
    let a = both_true (body_reads (λ m. not (is_in (k ∷ ks) m)) (bodies k)) (not (is_in ks k) && is_settled bodies ks) s in
    let b = both_true (not (is_in ks k)) (is_settled bodies ks) a.1 in
    (by (bodies k) refl a.0, fills_safely bodies symbols (with_body symbols row k (bodies k)) ks b.1 h)
  where
    by : (o : Option FlatTree) → bodies k ≡ o → body_reads (λ m. not (is_in (k ∷ ks) m)) o ≡ true → BodySafe symbols row o
    by None e r = tt
    by (Some x) e r =
        safe_same (λ m. not (is_in (k ∷ ks) m)) symbols (filled bodies symbols row (k ∷ ks)) row (λ m g. filled_out bodies symbols row (k ∷ ks) m (not_true (is_in (k ∷ ks) m) g)) x r (h k x e)
