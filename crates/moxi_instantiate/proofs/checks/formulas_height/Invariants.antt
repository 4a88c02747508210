use Rattle.std.proofs.Common.{◌≡◌, ◌≤◌, max, map, drop}
use Rattle.moxi_scripts.specs.Script.{plain_formula}
use Rattle.moxi_flat.specs.Systems.{formulas_height}
use Rattle.moxi_instantiate.specs.declared.counts.TheConstants.{MOST}
use Rattle.moxi_instantiate.specs.Counting.{capped, known}
use Rattle.moxi_instantiate.proofs.checks.formulas_height.Given as goal

abbrev pub invariant-loop-formula : goal.invariant-loop-formula
invariant-loop-formula l = record {
  value : max l.most (capped (formulas_height (known l.heights) (map plain_formula (drop l.formula-index l.formulas)))) ≡ capped (formulas_height (known l.heights) (map plain_formula l.formulas));
  bound : l.most ≤ MOST;
}
