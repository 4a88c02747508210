use Rattle.std.proofs.Common.{◌≡◌, ◌++◌, drop, length}
use Rattle.btor_tree.specs.Fits.{is_bad}
use Rattle.btor_import.specs.Script.{lines_in, queries_from}
use Rattle.btor_import.proofs.script.queries_of.Given as goal

abbrev pub invariant-loop-line : goal.invariant-loop-line
invariant-loop-line l = l.all ++ queries_from (length l.all) (lines_in is_bad (drop l.line-index l.nodes)) ≡ queries_from 0 (lines_in is_bad l.nodes)
