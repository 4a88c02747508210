use Rattle.std.proofs.Common.{◌≡◌, ◌++◌, codes, drop, map}
use Rattle.smv_to_moxi.proofs.script.constant_names.Given as goal

abbrev pub invariant-loop-i : goal.invariant-loop-i
invariant-loop-i l = l.all ++ map (λ x. codes "c." ++ x) (drop l.i l.symbols) ≡ map (λ x. codes "c." ++ x) l.symbols
