-- How many instances, items, symbols and invariants a model has.
use Rattle.std.specs.Prelude.{◌<◌, ◌^◌, List, length, sum_by}
use Rattle.smv_meaning.specs.Instances.{Instance}
use Rattle.smv_meaning.specs.Phases.{invariants_in}
use Rattle.smv_items.specs.FlatItems.{origins_of, symbols_of}

-- 32 bits number all of them, and count the tokens of the modules' bodies over all instances
pub record AreFew (t : List Instance) : Type 0 where
  pub instances : length t < 2 ^ 32
  pub items : length (origins_of t) < 2 ^ 32
  pub symbols : length (symbols_of t) < 2 ^ 32
  pub invariants : length (invariants_in t) < 2 ^ 32
  pub tokens : sum_by (λ at. at.module.tokens) t < 2 ^ 32
