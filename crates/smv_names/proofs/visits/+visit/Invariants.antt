use Rattle.std.proofs.Common.{◌≡◌, ℕ, List, ◌+◌, ◌-◌, ◌*◌, ◌∷◌, drop, take, length, map}
use Rattle.smv_text.specs.View.{plain_module}
use Rattle.smv_meaning.specs.Checks.{first_failing}
use Rattle.smv_names.specs.View.{declared_plain, names_above}
use Rattle.smv_names.specs.Visits.{declared_visits, visits, visit_checks, visit_count, IsLength}
use Rattle.smv_names.proofs.visits.+visit.Given as goal

abbrev pub decreases-visited : goal.decreases-visited
decreases-visited l = 2 * l.deep

abbrev pub decreases-item_visited : goal.decreases-item_visited
decreases-item_visited l = 2 * l.deep + 1

abbrev pub invariant-visited-loop-declaration : goal.invariant-visited-loop-declaration
invariant-visited-loop-declaration l = record {
  above : names_above l.above.items ≡ l.own.name ∷ names_above l.fn.above.items;
  kept : take (length l.fn.above.items) l.above.items ≡ l.fn.above.items;
  checks : (path : List ℕ) → IsLength l.path_length path → first_failing (visit_checks (map plain_module l.modules) l.count (declared_visits (visits (l.deep - 1) (map plain_module l.modules) (l.own.name ∷ names_above l.fn.above.items)) (map plain_module l.modules) path (map declared_plain (drop l.declaration-index l.list)))) ≡ first_failing (visit_checks (map plain_module l.modules) l.fn.met (visits l.deep (map plain_module l.modules) (names_above l.fn.above.items) path (plain_module l.own)));
  count : (path : List ℕ) → IsLength l.path_length path → visit_count l.count (declared_visits (visits (l.deep - 1) (map plain_module l.modules) (l.own.name ∷ names_above l.fn.above.items)) (map plain_module l.modules) path (map declared_plain (drop l.declaration-index l.list))) ≡ visit_count l.fn.met (visits l.deep (map plain_module l.modules) (names_above l.fn.above.items) path (plain_module l.own));
}
