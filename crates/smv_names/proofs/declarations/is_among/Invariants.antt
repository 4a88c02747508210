use Rattle.std.proofs.Common.{◌≡◌, drop, map}
use Rattle.smv_meaning.specs.Instances.{is_one_of}
use Rattle.smv_names.proofs.declarations.is_among.Given as goal

abbrev pub invariant-loop-other : goal.invariant-loop-other
invariant-loop-other l = is_one_of (map (λ m. m.now) (drop l.other-index l.names)) l.name ≡ is_one_of (map (λ m. m.now) l.names) l.name
