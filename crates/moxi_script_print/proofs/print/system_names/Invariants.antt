use Rattle.std.proofs.Common.{◌≡◌, ◌++◌, map}
use Rattle.std.specs.Slice.Iter.{iter_rest}
use Rattle.moxi_scripts.specs.Script.{plain_system}
use Rattle.moxi_script_print.specs.Printing.{system_names}
use Rattle.moxi_script_print.proofs.print.system_names.Given as goal
use Rattle.text_core.specs.Bytes.{bytes_behind}

abbrev pub invariant-loop-system : goal.invariant-loop-system
invariant-loop-system l = map bytes_behind l.names.items ++ system_names (map plain_system (iter_rest l.system-iterator)) ≡ system_names (map plain_system l.systems)
