use Rattle.std.proofs.Common.{◌≡◌, map, take}
use Rattle.moxi_terms.specs.declared.term.Term.{Term}
use Rattle.moxi_terms.specs.View.{plain}
use Rattle.moxi_flat.specs.Renumbering.{renumbered}
use Rattle.moxi_instantiate.specs.Copying.{number_in}
use Rattle.moxi_instantiate.proofs.copies.+copy.Given as goal

abbrev pub invariant-all_renumbered-loop-term : goal.invariant-all_renumbered-loop-term
invariant-all_renumbered-loop-term l = map plain l.copies.items ≡ map (λ (t : Term). renumbered (number_in l.places) (plain t)) (take l.term-index l.terms)
