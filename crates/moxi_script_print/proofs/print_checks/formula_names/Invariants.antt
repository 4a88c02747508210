use Rattle.std.proofs.Common.{◌≡◌, ◌++◌, map}
use Rattle.std.specs.Slice.Iter.{iter_rest}
use Rattle.moxi_scripts.specs.Script.{plain_formula}
use Rattle.moxi_script_print.proofs.print_checks.formula_names.Given as goal
use Rattle.moxi_scripts.specs.Valid.{formula_names}
use Rattle.text_core.specs.Bytes.{bytes_behind}

abbrev pub invariant-loop-formula : goal.invariant-loop-formula
invariant-loop-formula l = map bytes_behind l.names.items ++ formula_names (map plain_formula (iter_rest l.formula-iterator)) ≡ formula_names (map plain_formula l.formulas)
