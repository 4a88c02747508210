-- How many lines a flat system has, by its size (BTOR2, CAV 2018; the measure is this translator's own).
use Rattle.std.specs.Prelude.{◌≡◌, ℕ, ◌+◌, ◌*◌, ◌<◌, ◌≤◌, [], length, flat_map, sum_by}
use Rattle.std.specs.List.{AllByRecursion}
use Rattle.btor_tree.specs.Fits.{greatest_id}
use Rattle.btor_tree.specs.Sharing.{HasNoDuplicates}
use Rattle.moxi_scripts.specs.declared.script.Query.{Query}
use Rattle.moxi_scripts.specs.Script.{PlainScript}
use Rattle.moxi_scripts.specs.Valid.{IsValid}
use Rattle.moxi_flat.specs.Terms.{call_sizes}
use Rattle.moxi_flat.specs.Systems.{named_size, script_size, unnamed_size}
use Rattle.moxi_flat.specs.FlatSizes.{part_size}
use Rattle.moxi_flat.specs.FlatSorts.{IsSortedFlat}
use Rattle.moxi_flat.specs.FlatSystem.{PlainFlatSystem, flat_of}
use Rattle.moxi_lines.specs.TermLaws.{HaveCodes}
use Rattle.moxi_lines.specs.Lines.{lines_of}

-- a query counts once, with each formula that it names
abbrev pub flat_query_size : (ℕ → ℕ) → PlainFlatSystem → Query → ℕ
flat_query_size calls f q =
    1 + (named_size calls f.assumptions q.assumptions + (named_size calls f.currents q.currents + named_size calls f.reachables q.reachables))

-- the formulas that no query names
abbrev pub unnamed_formulas_size : (ℕ → ℕ) → PlainFlatSystem → ℕ
unnamed_formulas_size calls f =
    unnamed_size calls (flat_map (λ (q : Query). q.assumptions) f.queries) 0 f.assumptions
    + (unnamed_size calls (flat_map (λ (q : Query). q.currents) f.queries) 0 f.currents
    + unnamed_size calls (flat_map (λ (q : Query). q.reachables) f.queries) 0 f.reachables)

-- the variables, the parts, the queries, and the formulas that none of them names
abbrev pub flat_size : PlainFlatSystem → ℕ
flat_size f =
    let calls = call_sizes f.scope in
    length f.variables + (sum_by (part_size calls) f.parts + (sum_by (flat_query_size calls f) f.queries + unnamed_formulas_size calls f))

-- one reachable formula and nothing else
pub record NamesOneFormula (q : Query) : Type 0 where
  pub assumptions : q.assumptions ≡ []
  pub currents : q.currents ≡ []
  pub reachables : length q.reachables ≡ 1

-- ---- laws

abbrev pub FlatSizesAreScriptSizes : Type 0
FlatSizesAreScriptSizes = (s : PlainScript) → IsValid s → flat_size (flat_of s) ≡ script_size s

-- whatever the queries name
abbrev pub LinesStayFew : Type 0
LinesStayFew = (f : PlainFlatSystem) → IsSortedFlat f → length (lines_of f) ≤ 12 * flat_size f + 6

-- where no enumeration has too many constants for a word, and each line has an id
abbrev pub LinesAreCounted : Type 0
LinesAreCounted = (f : PlainFlatSystem) → HaveCodes f.scope.enumerations → IsSortedFlat f → AllByRecursion NamesOneFormula f.queries → length (lines_of f) < greatest_id
    → length (lines_of f) ≤ 2 * flat_size f + 6 * (length f.variables + length f.queries) + 150

-- no two lines that are shared say the same
abbrev pub NoDuplicateLines : Type 0
NoDuplicateLines = (f : PlainFlatSystem) → IsSortedFlat f → HasNoDuplicates (lines_of f)
