-- How many lines a flat system has.
use Rattle.std.proofs.Common.{◌≡◌, ◌+◌, ◌*◌, ◌≤◌, List, [], ◌∷◌, length, None, Some, refl, arith}
use Rattle.std.specs.Prelude.{codes, sum_by}
use Rattle.std.specs.List.{AllByRecursion}
use Rattle.btor_tree.specs.declared.lines.Line.{Line}
use Rattle.btor_tree.specs.declared.lines.LineOp.TheVariants as line
use Rattle.btor_tree.specs.Fits.{IsWellFormed, plain_arg}
use Rattle.btor_tree.specs.Sharing.{HasNoDuplicates, Push}
use Rattle.btor_tree.proofs.Alike.{built_distinct, none_alike}
use Rattle.moxi_flat.specs.Terms.{call_sizes}
use Rattle.moxi_flat.specs.FlatSizes.{part_size}
use Rattle.moxi_flat.specs.FlatSorts.{IsSortedFlat}
use Rattle.moxi_flat.specs.FlatSystem.{PlainFlatSystem}
use Rattle.moxi_flat.proofs.Sizes.{flat_systems_have_sizes_law}
use Rattle.moxi_lines.specs.Lines.{head_lines, lines_of, variable_lines, with_parts}
use Rattle.moxi_lines.proofs.Extending.{extends_none}
use Rattle.moxi_layout.specs.Counts.{FlatSizesAreScriptSizes, LinesAreCounted, LinesStayFew, NamesOneFormula, NoDuplicateLines, flat_query_size, flat_size}
use Rattle.moxi_layout.proofs.Growth.{Grows, counted_all, grows_more, grows_then, other_count, sort_count}
use Rattle.moxi_layout.proofs.TermCounts.{HasHead, head_stays}
use Rattle.moxi_layout.proofs.Systems.{parts_count, variables_count}
use Rattle.moxi_layout.proofs.QueryCounts.{queries_count, single_queries_count}
use Rattle.moxi_layout.proofs.Formed.{lines_numbered}
use Rattle.moxi_layout.proofs.SortLines.{formed_plain, sorts_few}

head_here : HasHead head_lines
head_here = extends_none head_lines

head_pushes : List Push
head_pushes =
    record { op = line.Sort 1; sort = 0; args = []; symbol = None }
    ∷ record { op = line.One; sort = 0; args = []; symbol = None }
    ∷ record { op = line.Zero; sort = 0; args = []; symbol = None }
    ∷ record { op = line.State; sort = 0; args = []; symbol = Some (codes "first") }
    ∷ record { op = line.Init; sort = 0; args = plain_arg 3 ∷ plain_arg 1 ∷ []; symbol = None }
    ∷ record { op = line.Next; sort = 0; args = plain_arg 3 ∷ plain_arg 2 ∷ []; symbol = None }
    ∷ []

head_alike : HasNoDuplicates head_lines
unfolding head_pushes
head_alike = built_distinct [] head_pushes none_alike

head_counts : (other_count head_lines ≡ 5) × (sort_count head_lines ≡ 1)
unfolding other_count sort_count
head_counts = (refl, refl)

module _ (f : PlainFlatSystem) (sorted : IsSortedFlat f) where
  abbrev lines_before : List Line
  lines_before = with_parts f.scope (variable_lines f).1 (variable_lines f).0 f.parts

  before_count : Grows (6 * length f.variables + 2 * sum_by (part_size (call_sizes f.scope)) f.parts) head_lines lines_before
  before_count =
      let v = variable_lines f in
      let g = variables_count f.scope.enumerations (head_lines, []) f.variables in
      grows_then (6 * length f.variables) (2 * sum_by (part_size (call_sizes f.scope)) f.parts) head_lines v.0 lines_before g
      (parts_count f sorted.scope.functions v.1 v.0 f.parts (head_stays (6 * length f.variables) head_lines v.0 g head_here) sorted.parts)

  system_counts : Grows (6 * flat_size f) head_lines (lines_of f)
  system_counts =
      let n = 6 * length f.variables + 2 * sum_by (part_size (call_sizes f.scope)) f.parts in
      let m = 6 * sum_by (flat_query_size (call_sizes f.scope) f) f.queries in
      let b = before_count in
      grows_more (n + m) (6 * flat_size f) head_lines (lines_of f) (omega arith)
      (grows_then n m head_lines lines_before (lines_of f) b (queries_count f sorted (variable_lines f).1 lines_before f.queries (head_stays n head_lines lines_before b head_here)))

  single_system_counts : AllByRecursion NamesOneFormula f.queries → Grows (2 * flat_size f + 4 * length f.variables) head_lines (lines_of f)
  single_system_counts names =
      let n = 6 * length f.variables + 2 * sum_by (part_size (call_sizes f.scope)) f.parts in
      let m = 2 * sum_by (flat_query_size (call_sizes f.scope) f) f.queries in
      let b = before_count in
      grows_more (n + m) (2 * flat_size f + 4 * length f.variables) head_lines (lines_of f) (omega arith)
      (grows_then n m head_lines lines_before (lines_of f) b (single_queries_count f sorted (variable_lines f).1 lines_before f.queries (head_stays n head_lines lines_before b head_here) names))

pub lines_stay_few_law : LinesStayFew
lines_stay_few_law f sorted =
    let g = system_counts f sorted in
    let o = g.others in
    let s = g.sorts in
    let h = head_counts in
    let c = counted_all (lines_of f) in
    omega (arith, o, s, c, h.0, h.1)

pub flat_sizes_are_script_sizes_law : FlatSizesAreScriptSizes
flat_sizes_are_script_sizes_law s w = (flat_systems_have_sizes_law s w).size

formed_counted : (f : PlainFlatSystem) → IsSortedFlat f → AllByRecursion NamesOneFormula f.queries → IsWellFormed (lines_of f)
    → length (lines_of f) ≤ 2 * flat_size f + 6 * (length f.variables + length f.queries) + 150
formed_counted f sorted names formed =
    let g = single_system_counts f sorted names in
    let o = g.others in
    let h = head_counts in
    let c = counted_all (lines_of f) in
    let s = sorts_few (lines_of f) (g.alike head_alike) (formed_plain (lines_of f) formed) in
    omega (arith, o, s, c, h.0)

pub no_duplicate_lines_law : NoDuplicateLines
no_duplicate_lines_law f sorted = (system_counts f sorted).alike head_alike

pub lines_are_counted_law : LinesAreCounted
lines_are_counted_law f have sorted names room = formed_counted f sorted names (lines_numbered f have sorted names room).fit
