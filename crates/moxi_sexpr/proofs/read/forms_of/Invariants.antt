use Rattle.std.proofs.Common.{length, map}
use Rattle.text_core.specs.Places.{Reaches}
use Rattle.moxi_sexpr.specs.Tree.{plain}
use Rattle.moxi_sexpr.specs.Machine.{open_lists}
use Rattle.moxi_sexpr.proofs.Leading.{Leads}
use Rattle.moxi_sexpr.proofs.read.forms_of.Given as goal

abbrev pub invariant-tokens : goal.invariant-tokens
invariant-tokens l = record {
  leads : Leads l.text (record { place = l.place; depth = length (open_lists l.stack.items) }) l.rest (open_lists l.stack.items) (map plain l.done.items);
  reaches : Reaches l.place (length l.rest);
}

abbrev pub decreases-tokens : goal.decreases-tokens
decreases-tokens l = length l.rest
