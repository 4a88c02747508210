use Rattle.std.proofs.Common.{refl, sym, subst}
use Rattle.btor_tree.specs.Fits.{IsWellFormed}
use Rattle.btor_tree.specs.Held.{IsNumbered}
use Rattle.btor_tree.specs.LineKeys.{HasPlaces}
use Rattle.btor_tree.specs.Sharing.{HasNoDuplicates}
use Rattle.btor_tree.proofs.Grows.{empty_well_formed}
use Rattle.btor_tree.proofs.Alike.{none_alike}
use Rattle.btor_tree.proofs.SortTable.{knows_none}
use Rattle.btor_tree.proofs.builder.Builder.new.Goals as goal

pub invariant_of-result : goal.invariant_of-result
invariant_of-result c =
    let none = c.new.ensures.items in (
      subst IsWellFormed (sym none) empty_well_formed,
      subst IsNumbered (sym none) refl,
      subst HasNoDuplicates (sym none) none_alike,
      subst (λ ls. HasPlaces ls c.no_places.result) (sym none) c.no_places.ensures,
      knows_none c.new.result.items,
    )
