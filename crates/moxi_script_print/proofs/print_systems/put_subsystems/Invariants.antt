use Rattle.std.proofs.Common.{◌≡◌, ◌++◌, ◌∷◌, [], map}
use Rattle.std.specs.Slice.Iter.{iter_rest}
use Rattle.moxi_term_print.specs.Shown.{parts_text}
use Rattle.moxi_script_print.specs.Printing.{shown_subsystems}
use Rattle.moxi_script_print.proofs.print_systems.put_subsystems.Given as goal
use Rattle.text_core.specs.Bytes.{bytes_behind}

abbrev pub invariant-loop-subsystem : goal.invariant-loop-subsystem
invariant-loop-subsystem l = l.out ++ parts_text (32 ∷ []) (shown_subsystems (map bytes_behind l.systems) (map bytes_behind l.variables) (iter_rest l.subsystem-iterator)) ≡ l.fn.out ++ parts_text (32 ∷ []) (shown_subsystems (map bytes_behind l.systems) (map bytes_behind l.variables) l.subsystems)
