-- The rows of the code's tables.
use Rattle.std.specs.Prelude.{ℕ, List}
use Rattle.std.specs.Borrow.{Bor}
use Rattle.moxi_terms.specs.declared.data.TermOp.{TermOp}

abbrev pub row : Bor (List ℕ) × TermOp → List ℕ × TermOp
row r = (r.0.now, r.1)
