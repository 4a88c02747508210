-- A value of a `let` and its name, as they are printed.
use Rattle.std.specs.Prelude.{ℕ, List}
use Rattle.moxi_terms.specs.Tree.{Tree}
use Rattle.moxi_terms.specs.View.{ScopeState}
use Rattle.moxi_term_print.specs.Shown.{Shown, group, no_showns, shown}
use Rattle.moxi_term_print.specs.Terms.{symbol, shown_term}

-- `(name term)`
abbrev pub shown_binding : ScopeState → List (List ℕ) → List (List ℕ) → List ℕ → Tree → Shown
shown_binding s vars bounds name t = group (shown (symbol name) (shown (shown_term s vars bounds t) no_showns))
