-- What is answered of a node whose first operands have their types already.
use Rattle.std.specs.Prelude.{◌≡◌, Option, Result, Ok}
use Rattle.text_core.specs.declared.end.End.{End}
use Rattle.text_core.specs.declared.place.Place.{Place}
use Rattle.smv_text.specs.declared.tree.Path.{Path}
use Rattle.smv_text.specs.Tree.{Tree, chain, Links}
use Rattle.smv_meaning.specs.Types.{ExprType}
use Rattle.smv_meaning.specs.Checks.{Position, Named, Typing, typing, across, link_checks, link_types}
use Rattle.smv_intervals.specs.declared.types.Ty.{Ty}
use Rattle.smv_types.specs.Outcome.{outcome, Ends}
use Rattle.smv_types.specs.Steps.{implications_step}

-- a chain whose first operand passes its checks and has this type
abbrev pub EndsChain : (Path → Named) → Position → Place → Option ExprType → Links → Result (Option Ty) End → Type 0
EndsChain names at p first ls r = (e : Tree) → outcome (typing names (across ls at) e) ≡ Ok first → Ends r (typing names at (chain p e ls))

-- the same of a chain of `->`
abbrev pub implications_typing : (Path → Named) → Position → Place → Option ExprType → Links → Typing
implications_typing names at p first ls = implications_step p first (link_checks names at ls) (link_types names at ls)
