use Rattle.std.proofs.Common.{List, map, sym, subst}
use Rattle.smv_operators.specs.declared.seen.Seen.{Seen}
use Rattle.smv_flat.specs.FlatView.{plain_flat}
use Rattle.smv_flat.specs.FlatFormulas.{form_plain}
use Rattle.smv_flat_evaluation.specs.RowValues.{row_values}
use Rattle.smv_flat_evaluation.specs.FlatSafety.{RowSafe}
use Rattle.smv_flat.specs.FlatParts.{parts_plain}
use Rattle.smv_rows.proofs.SafeInvariants.{invariant_safe}
use Rattle.smv_rows.proofs.truth.is_broken.Goals as goal

pub is_true-requires : goal.is_true-requires
is_true-requires c =
    let xs = c.args.row.now.values.items in
    subst (λ (ys : List Seen). RowSafe c.args.flat.now.symbols.now ys ys (plain_flat c.in-Some.e.now)) (sym c.as_slice-values.ensures.value)
    (invariant_safe (parts_plain c.args.flat.now) (row_values xs) (row_values xs) (map form_plain c.args.flat.now.formulas.now) c.args.j (plain_flat c.in-Some.e.now) c.requires (sym c.in-Some.ensures))
