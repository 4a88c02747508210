-- Rows that are filled body by body.
use Rattle.std.specs.Prelude.{ℕ, ◌==◌, if◌then◌else◌, List, [], ◌∷◌, Option, Some, None, slice_get}
use Rattle.std.specs.Borrow.{Bor}
use Rattle.smv_flat.specs.declared.expressions.FlatExpr.{FlatExpr}
use Rattle.smv_flat.specs.FlatTree.{FlatTree, flat_denote}
use Rattle.smv_flat.specs.FlatView.{plain_flat}
use Rattle.smv_meaning.specs.declared.value.Value.{Value}
use Rattle.smv_flat.specs.FlatTruth.{Row}
use Rattle.smv_flat_laws.specs.FlatOrders.{Bodies}
use Rattle.smv_flat_evaluation.specs.FlatSafety.{FlatSafe}

abbrev pub body_plain : Option (Bor FlatExpr) → Option FlatTree
body_plain None = None
body_plain (Some e) = Some (plain_flat e.now)

abbrev pub body_or_none : Option (Option (Bor FlatExpr)) → Option FlatTree
body_or_none None = None
body_or_none (Some o) = body_plain o

-- the bodies that are in a list, each at the number of its item
abbrev pub bodies_in : List (Option (Bor FlatExpr)) → Bodies
bodies_in bodies k = body_or_none (slice_get bodies k)

-- the row in which an item has the value of its body
abbrev pub with_body : (ℕ → Value) → Row → ℕ → Option FlatTree → Row
with_body symbols row k None m = row m
with_body symbols row k (Some e) m = if k == m then (flat_denote symbols row row e).value else row m

-- the row in which the items of a list, one after another, have the values of their bodies
abbrev pub filled : Bodies → (ℕ → Value) → Row → List ℕ → Row
filled bodies symbols row [] = row
filled bodies symbols row (k ∷ ks) = filled bodies symbols (with_body symbols row k (bodies k)) ks

-- ---- where each integer on the way fits 64 bits

abbrev pub BodySafe : (ℕ → Value) → Row → Option FlatTree → Type 0
BodySafe symbols row None = Unit {0}
BodySafe symbols row (Some e) = FlatSafe symbols row row e

-- each body of the list, in the row that those before it leave
abbrev pub FillsSafely : Bodies → (ℕ → Value) → Row → List ℕ → Type 0
FillsSafely bodies symbols row [] = Unit {0}
FillsSafely bodies symbols row (k ∷ ks) = BodySafe symbols row (bodies k) × FillsSafely bodies symbols (with_body symbols row k (bodies k)) ks
