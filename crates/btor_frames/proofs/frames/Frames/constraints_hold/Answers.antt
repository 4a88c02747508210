use Rattle.std.proofs.Common.{◌≡◌, ◌<◌, ℕ, List, length, sym, ap, ◌∙◌, subst, refl}
use Rattle.std.specs.List.{AllByRecursion}
use Rattle.std.specs.Prelude.{◌↔◌}
use Rattle.std.specs.Slice.Iter.{iter_rest}
use Rattle.btor_tree.specs.declared.args.Arg.{Arg}
use Rattle.btor_tree.specs.Fits.{is_constraint, operands}
use Rattle.btor_tree.specs.Frame.{operand, true_word}
use Rattle.btor_frames.proofs.Truths.{operands_inside, constraints_both, all_of_none}
use Rattle.btor_frames.proofs.frames.Frames.constraints_hold.Goals as goal

pub loop-constraint-init : goal.loop-constraint-init
loop-constraint-init c =
    let rest = iter_rest c.into_iter-constraint-iterator.result in
    let same : rest ≡ c.self.inside.tables.constraints = c.into_iter-constraint-iterator.ensures.into_iter_gives.0 ∙ c.constraints-constraint-items.ensures in
    let found : rest ≡ operands is_constraint c.args.nodes.now = same ∙ ap (λ h. h.found.constraints) c.self.view_is ∙ c.requires.fits.found.constraints in
    let long : length c.self.inside.row ≡ length c.args.nodes.now = ap (λ h. length h.row) c.self.view_is ∙ c.requires.fits.sized in
    record {
      inside = subst (λ (k : ℕ). AllByRecursion (λ (a : Arg). a.line < k) rest) (sym long)
          (subst (AllByRecursion (λ (a : Arg). a.line < length c.args.nodes.now)) (sym found) (operands_inside is_constraint c.args.nodes.now c.are_well_formed.ensures));
      left = subst (λ (xs : List Arg). AllByRecursion (λ a. operand c.self.inside.row a ≡ true_word) rest ↔ AllByRecursion (λ a. operand c.self.inside.row a ≡ true_word) xs) same (λ a. a, λ a. a);
    }

pub returns : goal.returns
returns c =
    let both = constraints_both c.args.nodes.now c.self.inside.tables.constraints c.self.inside.row c.args.self.now.row (ap (λ h. h.found.constraints) c.self.view_is ∙ c.requires.fits.found.constraints) (ap (λ h. h.row) c.self.view_is) in (
      λ t. both.0 (c.loop-constraint.invariant.left.0 (all_of_none _ _ c.in-None.ensures.steps.0)),
      λ t. refl,
    )
