use Rattle.std.proofs.Common.{◌≡◌, ◌++◌, ℕ, map, drop}
use Rattle.moxi_to_btor.proofs.chains.put_with_each.Given as goal

abbrev pub invariant-loop-q : goal.invariant-loop-q
invariant-loop-q l = l.pairs.items ++ map (λ (q : ℕ). (l.p, q)) (drop l.q-index l.others) ≡ l.fn.pairs.items ++ map (λ (q : ℕ). (l.p, q)) l.others
