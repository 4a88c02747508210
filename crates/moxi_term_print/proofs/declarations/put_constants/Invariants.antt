use Rattle.std.proofs.Common.{◌≡◌, ◌++◌, []}
use Rattle.std.specs.Slice.Iter.{iter_rest}
use Rattle.moxi_term_print.specs.Shown.{parts_text}
use Rattle.moxi_term_print.specs.Declarations.{shown_symbols}
use Rattle.moxi_term_print.proofs.declarations.put_constants.Given as goal

abbrev pub invariant-loop-name : goal.invariant-loop-name
invariant-loop-name l = l.out ++ parts_text l.separator (shown_symbols (iter_rest l.name-iterator)) ≡ l.fn.out ++ parts_text [] (shown_symbols l.fn.names)
