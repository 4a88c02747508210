use Rattle.std.proofs.Common.{refl, sym, subst}
use Rattle.moxi_scripts.specs.Script.{PlainScript}
use Rattle.moxi_instantiate.specs.Instances.{IsSingle}
use Rattle.witness_lift.proofs.Lifts.{kept_of, single_parts}
use Rattle.witness_lift.proofs.system_lines.system_lines.Goals as goal

pub single_lines-requires : goal.single_lines-requires
single_lines-requires c = single_parts _ _ _ _ (subst (λ (s : PlainScript). ∥ IsSingle s ∥₁) (sym c.in_ok-scope.ensures) c.is_single.ensures)

pub returns : goal.returns
returns c = kept_of c.args.flat.now _ c.in_ok-scope.ensures _ _ _ refl c.in_ok-own.ensures.variables c.in_ok-own.ensures.nodes
