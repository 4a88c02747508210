use Rattle.std.proofs.Common.{◌≡◌, ◌++◌, ◌∷◌, [], map}
use Rattle.std.specs.Slice.Iter.{iter_rest}
use Rattle.moxi_term_print.specs.Shown.{parts_text}
use Rattle.moxi_script_print.specs.Printing.{shown_queries}
use Rattle.moxi_script_print.proofs.print_checks.put_queries.Given as goal
use Rattle.text_core.specs.Bytes.{bytes_behind}

abbrev pub invariant-loop-query : goal.invariant-loop-query
invariant-loop-query l = l.out ++ parts_text (32 ∷ []) (shown_queries (map bytes_behind l.assumptions) (map bytes_behind l.currents) (map bytes_behind l.reachables) (iter_rest l.query-iterator)) ≡ l.fn.out ++ parts_text (32 ∷ []) (shown_queries (map bytes_behind l.assumptions) (map bytes_behind l.currents) (map bytes_behind l.reachables) l.queries)
