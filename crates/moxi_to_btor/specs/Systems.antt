-- What is known of a flat system where its lines are put.
use Rattle.std.specs.Prelude.{◌+◌, ◌*◌, ◌<◌, ◌≤◌, List, [], length, None}
use Rattle.std.specs.List.{AllByRecursion}
use Rattle.btor_tree.specs.declared.lines.Line.{Line}
use Rattle.btor_tree.specs.declared.lines.LineOp.TheVariants as line
use Rattle.btor_tree.specs.Fits.{greatest_id}
use Rattle.btor_tree.specs.Sharing.{pushed, with_sort}
use Rattle.moxi_terms.specs.Sorted.{AreSorts}
use Rattle.moxi_terms.specs.Tree.{sorts_of}
use Rattle.moxi_flat.specs.FlatSystem.{PlainFlatSystem}
use Rattle.moxi_layout.specs.Counts.{NamesOneFormula, flat_size}
use Rattle.moxi_lines.specs.Lines.{lines_of}
use Rattle.moxi_to_btor.specs.Putting.{IsPartOver}
use Rattle.moxi_to_btor.specs.Queries.{AreTruthsOver, IsQueryOf}

pub record IsKnown (f : PlainFlatSystem) : Type 0 where
  pub sorts : AreSorts f.scope.enumerations (sorts_of f.variables)
  pub parts : AllByRecursion (IsPartOver f.scope f.variables) f.parts
  pub assumptions : AreTruthsOver f f.assumptions
  pub currents : AreTruthsOver f f.currents
  pub reachables : AreTruthsOver f f.reachables
  pub queries : AllByRecursion (IsQueryOf f) f.queries
  pub room : length (lines_of f) < greatest_id

-- where each query names one reachable formula and nothing else, there are at most two lines for each unit of the system's size, six
-- for each variable and each query, and 150
abbrev pub AreFew : PlainFlatSystem → List Line → Type 0
AreFew f lines = AllByRecursion NamesOneFormula f.queries → length lines ≤ 2 * flat_size f + 6 * (length f.variables + length f.queries) + 150

-- the sort of truth values, and the constants one and zero
abbrev pub constant_lines : List Line
constant_lines =
    let s = with_sort [] 1 in
    (pushed (pushed s.0 line.One s.1 [] None).0 line.Zero s.1 [] None).0
