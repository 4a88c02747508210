-- What the code's tokens are.
use Rattle.std.specs.Prelude.{◌≡◌, ℕ, Option, Some, None, List}
use Rattle.std.specs.Borrow.{Bor}
use Rattle.moxi_trace.specs.declared.tokens.Shape.{Shape}
use Rattle.moxi_trace.specs.Tokens.{Scan}

-- the token, with its bytes behind references
abbrev pub Scans : Option (Shape × Bor (List ℕ) × Bor (List ℕ)) → Scan → Type 0
Scans None o = o ≡ None
Scans (Some x) o = o ≡ Some (x.0, x.1.now, x.2.now)
