use Rattle.std.proofs.Common.{◌≡◌, ◌++◌, length, map, reverse}
use Rattle.moxi_terms.specs.View.{plain}
use Rattle.smv_script.specs.Operators.{counted_term}
use Rattle.smv_script_terms.proofs.functions.counted_terms.Given as goal

abbrev pub invariant-terms : goal.invariant-terms
invariant-terms l = map plain l.all.items ++ map (counted_term l.width) (map plain (reverse l.terms.items)) ≡ map (counted_term l.width) (map plain l.fn.terms.items)

abbrev pub decreases-terms : goal.decreases-terms
decreases-terms l = length l.terms.items
