use Rattle.std.proofs.Common.{suc, refl, sym, ap, ◌∙◌, subst}
use Rattle.word_core.specs.declared.word.TheConstants.{WIDEST}
use Rattle.btor_tree.specs.Fits.{IsWellFormed, sort_place}
use Rattle.btor_tree.specs.Held.{IsNumbered}
use Rattle.btor_tree.proofs.Grows.{empty_well_formed}
use Rattle.btor_tree.proofs.Sorts.{none_at}
use Rattle.btor_tree.proofs.numbered_lines.NumberedLines.new.Goals as goal

pub invariant_of-result : goal.invariant_of-result
invariant_of-result c =
    let none = c.new.ensures in (
      subst IsWellFormed (sym none) empty_well_formed,
      subst IsNumbered (sym none) refl,
      record { long = refl; places = λ w h. none_at WIDEST w ∙ ap (λ lines. sort_place lines (suc w)) (sym none) },
    )
