use Rattle.std.proofs.Common.{◌≡◌, drop}
use Rattle.std.specs.List.{list_all}
use Rattle.moxi_sexpr.specs.Bytes.{belongs}
use Rattle.moxi_sexpr.proofs.bytes.all_belong.Given as goal

abbrev pub invariant-loop-b : goal.invariant-loop-b
invariant-loop-b l = list_all (belongs l.set) (drop l.b-index l.bytes) ≡ list_all (belongs l.set) l.bytes
