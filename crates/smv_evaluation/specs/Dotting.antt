-- Dotted names by the parts that they are made of.
use Rattle.std.specs.Prelude.{ℕ, List}
use Rattle.smv_evaluation.specs.declared.dotted.Dotted.{Dotted}
use Rattle.smv_meaning.specs.Instances.{dotted}

abbrev pub dotted_name : Dotted → List ℕ
dotted_name d = dotted d.path.now d.name.now
