-- What is answered of the order of a model's definitions and actuals.
use Rattle.std.specs.Prelude.{List}
use Rattle.smv_references.specs.declared.references.Ordering.{Ordering}
use Rattle.smv_references.specs.declared.references.Ordering.TheVariants.{Ordered, Cycle}
use Rattle.smv_meaning.specs.Instances.{Instance}
use Rattle.smv_meaning.specs.Bodies.{IsBodyOrder, IsFirstCycle}

abbrev pub IsOrdering : List Instance → Ordering → Type 0
IsOrdering t (Ordered order) = IsBodyOrder t order
IsOrdering t (Cycle k) = IsFirstCycle t k
