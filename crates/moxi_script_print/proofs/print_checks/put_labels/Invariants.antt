use Rattle.std.proofs.Common.{◌≡◌, ◌++◌, ◌∷◌, [], map}
use Rattle.std.specs.Slice.Iter.{iter_rest}
use Rattle.moxi_term_print.specs.Shown.{parts_text}
use Rattle.moxi_scripts.specs.Script.{plain_formula}
use Rattle.moxi_script_print.specs.Printing.{shown_labels}
use Rattle.moxi_script_print.proofs.print_checks.put_labels.Given as goal
use Rattle.text_core.specs.Bytes.{bytes_behind}

abbrev pub invariant-loop-formula : goal.invariant-loop-formula
invariant-loop-formula l = l.out ++ parts_text (32 ∷ []) (shown_labels l.scope (map bytes_behind l.variables) l.keyword (map plain_formula (iter_rest l.formula-iterator))) ≡ l.fn.out ++ parts_text (32 ∷ []) (shown_labels l.scope (map bytes_behind l.variables) l.keyword (map plain_formula l.formulas))
