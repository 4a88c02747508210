use Rattle.std.proofs.Common.{◌≡◌, map, drop}
use Rattle.smv_text.specs.View.{plain_module}
use Rattle.smv_meaning.specs.Instances.{module_named}
use Rattle.smv_instances.proofs.modules.place_among.Given as goal

abbrev pub invariant-loop-k : goal.invariant-loop-k
invariant-loop-k l = module_named (map plain_module (drop l.k l.modules)) l.name ≡ module_named (map plain_module l.modules) l.name
