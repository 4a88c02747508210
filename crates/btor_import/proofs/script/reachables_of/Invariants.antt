use Rattle.std.proofs.Common.{◌≡◌, ◌++◌, drop, length, map}
use Rattle.btor_tree.specs.Fits.{is_bad}
use Rattle.moxi_scripts.specs.Script.{plain_formula}
use Rattle.btor_import.specs.Assembling.{number_at}
use Rattle.btor_import.specs.Script.{lines_in, reachables_from}
use Rattle.btor_import.proofs.script.reachables_of.Given as goal

abbrev pub invariant-loop-line : goal.invariant-loop-line
invariant-loop-line l = map plain_formula l.all ++ reachables_from (number_at l.numbers) (length l.all) (lines_in is_bad (drop l.line-index l.nodes)) ≡ reachables_from (number_at l.numbers) 0 (lines_in is_bad l.nodes)
