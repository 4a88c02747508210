use Rattle.std.proofs.Common.{◌≡◌, ◌++◌, map}
use Rattle.std.specs.Slice.Iter.{iter_rest}
use Rattle.moxi_script_print.specs.Printing.{names_of}
use Rattle.moxi_script_print.proofs.print_parts.push_names_of.Given as goal
use Rattle.text_core.specs.Bytes.{bytes_behind}

abbrev pub invariant-loop-number : goal.invariant-loop-number
invariant-loop-number l = map bytes_behind l.names.items ++ names_of (map bytes_behind l.all) (iter_rest l.number-iterator) ≡ map bytes_behind l.fn.names.items ++ names_of (map bytes_behind l.all) l.numbers
