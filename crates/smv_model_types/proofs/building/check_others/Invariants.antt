use Rattle.std.proofs.Common.{◌≡◌, drop, map, true}
use Rattle.std.specs.Prelude.{flat_map}
use Rattle.smv_text.specs.View.{plain}
use Rattle.smv_meaning.specs.Checks.{first_failing}
use Rattle.smv_meaning.specs.Phases.{actual_typing}
use Rattle.smv_meaning.specs.Settled.{types_in}
use Rattle.smv_instances.specs.View.{instance_plain}
use Rattle.smv_model_types.proofs.building.check_others.Given as goal

abbrev pub invariant-loop-actual : goal.invariant-loop-actual
invariant-loop-actual l =
    first_failing (flat_map (actual_typing (types_in true (map instance_plain l.context.model.now.table.now) l.parent)) (map plain (drop l.actual-index l.actuals)))
    ≡ first_failing (flat_map (actual_typing (types_in true (map instance_plain l.context.model.now.table.now) l.parent)) (map plain l.actuals))
