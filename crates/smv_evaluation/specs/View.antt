-- What a list of given values gives, and what an expression denotes, where there is one.
use Rattle.std.specs.Prelude.{List, Option, Some, None}
use Rattle.std.specs.Borrow.{Bor}
use Rattle.smv_meaning.specs.declared.value.Value.{Value}
use Rattle.smv_meaning.specs.declared.value.Given.{Given}
use Rattle.smv_text.specs.View.{plain}
use Rattle.smv_text.specs.declared.tree.Path.{Path}
use Rattle.smv_text.specs.declared.tree.Expr.{Expr}
use Rattle.smv_meaning.specs.Expressions.{Denotation, alone, denote}
use Rattle.smv_meaning.specs.Values.{Valuation, no_value, given}

-- what a list of given values gives, where there is one
abbrev pub stated : Option (Bor (List Given)) → Valuation
stated None x = no_value
stated (Some state) x = given state.now x

-- what an expression denotes, where there is one
abbrev pub denoted_or_none : (Path → Value) → (Path → Value) → Option (Bor Expr) → Denotation
denoted_or_none f g None = alone no_value
denoted_or_none f g (Some e) = denote f g (plain e.now)
