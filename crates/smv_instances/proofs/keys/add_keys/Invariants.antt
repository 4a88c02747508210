use Rattle.std.proofs.Common.{◌≡◌, ℕ, ◌||◌, ◌&&◌, ◌==◌, List, bytes_eq}
use Rattle.std.specs.List.{list_any}
use Rattle.std.specs.Slice.Iter.{iter_rest}
use Rattle.smv_instances.specs.Leads.{is_key}
use Rattle.smv_instances.proofs.keys.add_keys.Given as goal

abbrev pub invariant-loop-parameter : goal.invariant-loop-parameter
invariant-loop-parameter l =
    (j : ℕ) (x : List ℕ) → (list_any (is_key j x) l.keys.items || (l.i == j && list_any (λ q. bytes_eq q.name x) (iter_rest l.parameter-iterator))) ≡ (list_any (is_key j x) l.fn.keys.items || (l.i == j && list_any (λ q. bytes_eq q.name x) l.parameters))
