use Rattle.std.proofs.Common.{◌≡◌, map, take}
use Rattle.moxi_terms.specs.View.{plain}
use Rattle.moxi_scripts.specs.declared.script.Formula.{Formula}
use Rattle.moxi_flat.specs.Terms.{term_size}
use Rattle.moxi_instantiate.specs.Counting.{capped, known}
use Rattle.moxi_instantiate.proofs.checks.formula_sizes.Given as goal

abbrev pub invariant-loop-formula : goal.invariant-loop-formula
invariant-loop-formula l = l.counts.items ≡ map (λ (f : Formula). capped (term_size (known l.sizes) (plain f.term))) (take l.formula-index l.formulas)
