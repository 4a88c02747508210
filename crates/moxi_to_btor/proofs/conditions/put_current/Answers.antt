use Rattle.std.proofs.Common.{map}
use Rattle.moxi_scripts.specs.Script.{plain_formula}
use Rattle.moxi_to_btor.proofs.ConditionSteps.{current_gate, current_numbered}
use Rattle.moxi_to_btor.proofs.conditions.put_current.Goals as goal

pub put_numbered-requires : goal.put_numbered-requires
put_numbered-requires c = current_numbered c.args.scope.now c.args.inputs.now c.args.builder.now (map plain_formula c.args.formulas.now) c.args.number c.requires

pub put_binary-requires : goal.put_binary-requires
put_binary-requires c =
    current_gate c.args.scope.now c.args.inputs.now c.args.builder.now (map plain_formula c.args.formulas.now) c.args.number c.requires (c.put_numbered.new.builder, c.in_ok-place.place) c.in_ok-place.ensures
