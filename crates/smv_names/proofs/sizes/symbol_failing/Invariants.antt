use Rattle.std.proofs.Common.{◌≡◌, drop, map, not}
use Rattle.smv_meaning.specs.Names.{has_symbol}
use Rattle.smv_meaning.specs.Checks.{check, first_failing}
use Rattle.smv_instances.specs.View.{instance_plain}
use Rattle.smv_names.specs.View.{declared_plain}
use Rattle.smv_names.proofs.sizes.symbol_failing.Given as goal

abbrev pub invariant-loop-declaration : goal.invariant-loop-declaration
invariant-loop-declaration l =
    first_failing (map (λ d. check 10 d.place (not (has_symbol (map instance_plain l.table) d.name))) (map declared_plain (drop l.declaration-index l.list)))
    ≡ first_failing (map (λ d. check 10 d.place (not (has_symbol (map instance_plain l.table) d.name))) (map declared_plain l.list))
