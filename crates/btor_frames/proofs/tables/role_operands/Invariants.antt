use Rattle.std.proofs.Common.{◌≡◌, ◌++◌}
use Rattle.std.specs.Slice.Iter.{iter_rest}
use Rattle.btor_tree.specs.Fits.{operands}
use Rattle.btor_frames.specs.Tables.{has_role}
use Rattle.btor_frames.proofs.tables.role_operands.Given as goal

abbrev pub invariant-loop-line : goal.invariant-loop-line
invariant-loop-line l = l.args ++ operands (has_role l.role) (iter_rest l.line-iterator) ≡ operands (has_role l.role) l.nodes
