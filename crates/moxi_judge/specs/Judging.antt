-- The traces of a flat system that are judged, as lists of environments.
use Rattle.std.specs.Prelude.{◌≤◌, List, length}
use Rattle.std.specs.List.{AllByRecursion}
use Rattle.moxi_terms.specs.declared.data.Datum.{Datum}
use Rattle.moxi_flat.specs.FlatSystem.{PlainFlatSystem}
use Rattle.moxi_judge.specs.FlatTests.{Fits}

-- one or more steps, each with a value of its sort for each variable, hidden ones too
pub record IsStatedTrace (f : PlainFlatSystem) (envs : List (List Datum)) : Type 0 where
  pub some : 1 ≤ length envs
  pub fit : AllByRecursion (Fits f) envs
