-- What the code's parts of a line are.
use Rattle.std.specs.Prelude.{ℕ, Option, Some, None, List}
use Rattle.std.specs.Borrow.{Bor}

abbrev pub seen : Option (Bor (List ℕ) × Bor (List ℕ)) → Option (List ℕ × List ℕ)
seen None = None
seen (Some p) = Some (p.0.now, p.1.now)
