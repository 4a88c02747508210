use Rattle.std.proofs.Common.{◌≡◌, ◌++◌, false, map}
use Rattle.std.specs.Slice.Iter.{iter_rest}
use Rattle.smv_text.specs.declared.token.Sign.TheVariants.{Comma}
use Rattle.smv_lex.specs.Spelling.{spaced}
use Rattle.smv_print.specs.Printing.{parted, ident, parameter_name}
use Rattle.smv_print.proofs.printing.put_parameter_names.Given as goal

abbrev pub invariant-loop-parameter : goal.invariant-loop-parameter
invariant-loop-parameter l =
    l.out ++ spaced (parted Comma l.behind (map ident (map parameter_name (iter_rest l.parameter-iterator)))) ≡ l.fn.out ++ spaced (parted Comma false (map ident (map parameter_name l.fn.parameters)))
