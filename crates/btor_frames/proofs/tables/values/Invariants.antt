use Rattle.btor_frames.specs.Tables.{has_role}
use Rattle.btor_frames.proofs.Finding.{HoldsSoFar}
use Rattle.btor_frames.proofs.tables.values.Given as goal

abbrev pub invariant-loop-line : goal.invariant-loop-line
invariant-loop-line l = HoldsSoFar (has_role l.role) l.nodes l.line-index l.values.items
