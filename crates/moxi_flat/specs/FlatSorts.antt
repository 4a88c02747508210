-- The sorts of a flat system's variables and terms.
use Rattle.std.specs.Prelude.{List, [], length}
use Rattle.std.specs.List.{AllByRecursion}
use Rattle.moxi_terms.specs.declared.data.Sort.TheVariants.{Truth}
use Rattle.moxi_terms.specs.Sorted.{AreSorts, HasSort, IsScope, IsUnprimed}
use Rattle.moxi_terms.specs.Tree.{Tree, sorts_of}
use Rattle.moxi_scripts.specs.Script.{PlainFormula}
use Rattle.moxi_scripts.specs.Valid.{IsValidQuery}
use Rattle.moxi_flat.specs.FlatSystem.{PlainFlatSystem, PlainPart}

-- a term of truth values over the system's variables
abbrev pub IsFlatTruth : PlainFlatSystem → Tree → Type 0
IsFlatTruth f t = HasSort f.scope.enumerations f.scope.functions (sorts_of f.variables) [] t Truth

-- variables are primed in the formula between two steps alone
pub record PartIsSorted (f : PlainFlatSystem) (p : PlainPart) : Type 0 where
  pub init : IsFlatTruth f p.init
  pub trans : IsFlatTruth f p.trans
  pub inv : IsFlatTruth f p.inv
  pub init_unprimed : IsUnprimed p.init
  pub inv_unprimed : IsUnprimed p.inv

abbrev pub AreFlatTruths : PlainFlatSystem → List PlainFormula → Type 0
AreFlatTruths f fs = AllByRecursion (λ (x : PlainFormula). IsFlatTruth f x.term × IsUnprimed x.term) fs

-- variables have sorts of the scope, formulas are of truth values, and queries name formulas that are there
pub record IsSortedFlat (f : PlainFlatSystem) : Type 0 where
  pub scope : IsScope f.scope
  pub variables : AreSorts f.scope.enumerations (sorts_of f.variables)
  pub parts : AllByRecursion (PartIsSorted f) f.parts
  pub assumptions : AreFlatTruths f f.assumptions
  pub currents : AreFlatTruths f f.currents
  pub reachables : AreFlatTruths f f.reachables
  pub queries : AllByRecursion (IsValidQuery (length f.assumptions) (length f.currents) (length f.reachables)) f.queries
