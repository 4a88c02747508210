use Rattle.std.proofs.Common.{◌≡◌, ◌++◌, drop, take}
use Rattle.name_maps.specs.Names.{are_fresh}
use Rattle.name_maps.proofs.set.NameSet.declare_each.Given as goal

abbrev pub invariant-loop-i : goal.invariant-loop-i
invariant-loop-i l = record {
  fresh : are_fresh l.self (drop l.i l.names) ≡ are_fresh l.initial.self l.names;
  names : l.self ≡ l.initial.self ++ take l.i l.names;
}
