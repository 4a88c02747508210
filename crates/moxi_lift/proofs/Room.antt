-- A flat system of a script has fewer lines than there are ids, and they lay it out.
use Rattle.std.proofs.Common.{ℕ, ◌+◌, ◌*◌, ◌<◌, ◌≤◌, length, sym, subst, arith}
use Rattle.std.proofs.Math.Logic.{∥∥₁_map₂}
use Rattle.btor_tree.specs.Fits.{greatest_id}
use Rattle.moxi_flat.specs.declared.limits.TheConstants.{LARGEST}
use Rattle.moxi_flat.specs.FlatSorts.{IsSortedFlat}
use Rattle.moxi_flat.specs.FlatSystem.{PlainFlatSystem}
use Rattle.moxi_instantiate.specs.Instances.{IsInstance}
use Rattle.moxi_instantiate.proofs.Accepted.{is_small}
use Rattle.moxi_instantiate.proofs.Whole.{within_size}
use Rattle.moxi_lines.specs.TermLaws.{HaveCodes}
use Rattle.moxi_lines.specs.Lines.{lines_of}
use Rattle.moxi_layout.specs.Counts.{FlatSizesAreScriptSizes, LinesStayFew, flat_size}
use Rattle.moxi_layout.specs.LayoutLaws.{IsLaidOut}
use Rattle.moxi_layout.specs.LineLaws.{LinesAreWellFormed, LinesLayOut}

few : (lines size : ℕ) → lines ≤ 12 * size + 6 → size ≤ LARGEST → lines < greatest_id
few lines size many small = omega (arith, many, small)

has_room : (f : PlainFlatSystem) → FlatSizesAreScriptSizes → LinesStayFew → IsInstance f → IsSortedFlat f → length (lines_of f) < greatest_id
has_room f sizes counts i sorted =
    let small : flat_size f ≤ LARGEST = subst (λ (g : PlainFlatSystem). flat_size g ≤ LARGEST) i.flat (subst (λ (n : ℕ). n ≤ LARGEST) (sym (sizes i.script i.whole)) (within_size i.script (is_small i.script i.accepted))) in
    few (length (lines_of f)) (flat_size f) (counts f sorted) small

pub laid_out : (f : PlainFlatSystem) → FlatSizesAreScriptSizes → LinesStayFew → LinesAreWellFormed → LinesLayOut → HaveCodes f.scope.enumerations → ∥ IsInstance f ∥₁ → ∥ IsSortedFlat f ∥₁ → ∥ IsLaidOut f (lines_of f) ∥₁
laid_out f sizes counts formed lays codes instance sorted = ∥∥₁_map₂ instance sorted (λ i s.
    let room = has_room f sizes counts i s in
    record { sorted = s; codes = codes; well_formed = formed f codes s room; lays = lays f codes s room })
