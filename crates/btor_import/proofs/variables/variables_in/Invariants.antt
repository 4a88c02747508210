use Rattle.std.proofs.Common.{◌≡◌, ◌++◌, drop}
use Rattle.btor_import.specs.Assembling.{group_kind, group_letter, variables_for}
use Rattle.btor_import.specs.Script.{variables_in}
use Rattle.btor_import.proofs.variables.variables_in.Given as goal

abbrev pub invariant-loop-line : goal.invariant-loop-line
invariant-loop-line l = l.all ++ variables_for l.nodes (group_letter l.group) (group_kind l.group) (drop l.line-index l.nodes) ≡ variables_in (group_letter l.group) (group_kind l.group) l.nodes
