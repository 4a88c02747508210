use Rattle.std.proofs.Common.{◌≡◌, ◌++◌, map}
use Rattle.std.specs.Slice.Iter.{iter_rest}
use Rattle.moxi_term_print.specs.Shown.{lines_text}
use Rattle.moxi_scripts.specs.Script.{plain_system}
use Rattle.moxi_script_print.specs.Printing.{shown_systems}
use Rattle.moxi_script_print.proofs.print.put_systems.Given as goal
use Rattle.text_core.specs.Bytes.{bytes_behind}

abbrev pub invariant-loop-system : goal.invariant-loop-system
invariant-loop-system l = l.out ++ lines_text (shown_systems l.scope (map bytes_behind l.names) (map plain_system (iter_rest l.system-iterator))) ≡ l.fn.out ++ lines_text (shown_systems l.scope (map bytes_behind l.names) (map plain_system l.systems))
