-- What the names and the positions of the code stand for (NuSMV 2.6 User Manual, 2.1 and 2.3).
use Rattle.std.specs.Prelude.{option_map}
use Rattle.smv_text.specs.declared.tree.When.TheVariants.{Always, First, Following}
use Rattle.smv_meaning.specs.Checks as checks
use Rattle.smv_meaning.specs.Naming.{in_body}
use Rattle.smv_meaning.specs.Phases.{in_state, in_step, in_assignment}
use Rattle.smv_intervals.specs.View.{seen}
use Rattle.smv_types.specs.declared.names.Named.{Named}
use Rattle.smv_types.specs.declared.positions.Position.{Position}
use Rattle.smv_types.specs.declared.positions.Position.TheVariants.{Now, Step, Define, Actual, AssignNow, AssignFirst, AssignFollowing}
use Rattle.smv_types.specs.declared.positions.Permissions.{Permissions}

abbrev pub named_seen : Named → checks.Named
named_seen n = record { type = option_map seen n.ty; is_instance = n.is_instance; reaches_input = n.reaches_input }

-- where the expressions of a formula, a definition, an actual parameter or an assignment stand
abbrev pub position_seen : Position → checks.Position
position_seen Now = in_state
position_seen Step = in_step
position_seen Define = in_body
position_seen Actual = in_body
position_seen AssignNow = in_assignment Always
position_seen AssignFirst = in_assignment First
position_seen AssignFollowing = in_assignment Following

abbrev pub permissions_seen : Permissions → checks.Position
permissions_seen s = record { inputs = s.inputs; nexts = s.nexts; sets = s.sets }
