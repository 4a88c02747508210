use Rattle.std.proofs.Common.{◌≡◌, ◌++◌, [], drop, map}
use Rattle.moxi_term_print.specs.Shown.{parts_text}
use Rattle.moxi_term_print.specs.Declarations.{shown_symbols}
use Rattle.moxi_term_print.proofs.declarations.put_symbols.Given as goal
use Rattle.text_core.specs.Bytes.{bytes_behind}

abbrev pub invariant-loop-name : goal.invariant-loop-name
invariant-loop-name l = l.out ++ parts_text l.separator (shown_symbols (map bytes_behind (drop l.name-index l.names))) ≡ l.fn.out ++ parts_text [] (shown_symbols (map bytes_behind l.names))
