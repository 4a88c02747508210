use Rattle.std.proofs.Common.{◌≡◌, ◌++◌, [], map, drop}
use Rattle.moxi_sexpr.specs.Tree.{plain, trees_of}
use Rattle.moxi_sexpr.specs.Printing.{printed_parts}
use Rattle.moxi_sexpr.proofs.print.+put.Given as goal

abbrev pub invariant-put_parts-loop-form : goal.invariant-put_parts-loop-form
invariant-put_parts-loop-form l =
    l.out ++ printed_parts l.separator (trees_of (map plain (drop l.form-index l.forms))) ≡ l.fn.out ++ printed_parts [] (trees_of (map plain l.forms))
