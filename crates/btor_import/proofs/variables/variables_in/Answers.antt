use Rattle.std.proofs.Common.{◌≡◌, Some, refl, sym, ap, ◌∙◌}
use Rattle.std.specs.Prelude.{slice_get}
use Rattle.std.proofs.lemmas.Option.{slice_get_read}
use Rattle.btor_import.specs.Assembling.{group_kind, group_letter}
use Rattle.btor_import.proofs.Steps.{variables_on}
use Rattle.btor_import.proofs.variables.variables_in.Goals as goal

pub loop-line-preserved : goal.loop-line-preserved
loop-line-preserved c =
    let i = c.loop-line.line-index in
    let l = c.line-item.result in
    let here : slice_get c.as_slice-line-items.result.now i ≡ Some l = slice_get_read c.as_slice-line-items.result.now _ i l refl c.loop-line-test.true c.line-item.is in
    let at : slice_get c.args.nodes.now i ≡ Some l = ap (λ xs. slice_get xs i) (sym c.as_slice-line-items.ensures) ∙ here in
    variables_on c.args.nodes.now (group_letter c.args.group) (group_kind c.args.group) i l c.loop-line.all c.add_variable.new.all _ at c.in_ok-add_variable.ensures c.loop-line.invariant
