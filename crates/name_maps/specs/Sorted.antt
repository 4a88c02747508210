-- Values of names in an ordered map of each instance.
use Rattle.std.specs.Prelude.{ℕ, List, Option, Some, None}
use Rattle.std.specs.Ordering.{nat_cmp}
use Rattle.std.specs.Cmp.Lexicographic.{slice_cmp}
use Rattle.std.specs.BTreeMap.{BTreeMap, get, get_by}
use Rattle.std.specs.declared.vec.Vec.{Vec}

-- the value of a name in the map of its instance, if there is one
abbrev pub among_sorted : {Y V : Type 0} → Option (BTreeMap (Vec ℕ Y) V) → List ℕ → Option V
among_sorted None x = None
among_sorted (Some names) x = get_by (λ k. slice_cmp nat_cmp x k.items) names

-- the value of a name in the numbered instance
abbrev pub sorted_named : {Y V : Type 0} → BTreeMap ℕ (BTreeMap (Vec ℕ Y) V) → ℕ → List ℕ → Option V
sorted_named m i x = among_sorted (get nat_cmp m i) x
