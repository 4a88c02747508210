-- Values by the bytes of a name.
use Rattle.std.specs.Prelude.{ℕ, ◌==◌, ◌&&◌, List, Option, bytes_eq}
use Rattle.std.specs.Borrow.{Bor}
use Rattle.std.specs.HashMap.{HashMap, get_by}

-- the value of a name
abbrev pub named : {X S : Type 0} → HashMap (Bor (List ℕ)) X S → List ℕ → Option X
named m x = get_by (λ k. bytes_eq x k.now) m

-- the value of a name in the numbered instance
abbrev pub named_in : {X S : Type 0} → HashMap (ℕ × Bor (List ℕ)) X S → ℕ → List ℕ → Option X
named_in m i x = get_by (λ k. i == k.0 && bytes_eq x k.1.now) m
