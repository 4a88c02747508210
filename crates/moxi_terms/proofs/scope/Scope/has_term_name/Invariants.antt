use Rattle.std.proofs.Common.{◌≡◌}
use Rattle.std.specs.List.{list_any}
use Rattle.std.specs.Slice.Iter.{iter_rest}
use Rattle.moxi_terms.specs.Names.{is_term_name}
use Rattle.moxi_terms.proofs.scope.Scope.has_term_name.Given as goal

abbrev pub invariant-loop-name : goal.invariant-loop-name
invariant-loop-name l = list_any (is_term_name l.self) (iter_rest l.name-iterator) ≡ list_any (is_term_name l.self) l.fn.names
