use Rattle.std.proofs.Common.{◌≡◌, ◌++◌, drop, false}
use Rattle.moxi_sexpr.specs.Reading.{undoubled}
use Rattle.moxi_sexpr.proofs.scan.undoubled.Given as goal

abbrev pub invariant-loop-b : goal.invariant-loop-b
invariant-loop-b l = l.bytes.items ++ undoubled l.skip (drop l.b-index l.raw) ≡ undoubled false l.raw
