use Rattle.std.proofs.Common.{◌≡◌, Some, refl, sym, ap, ◌∙◌}
use Rattle.std.specs.Prelude.{slice_get}
use Rattle.std.proofs.lemmas.Option.{slice_get_read}
use Rattle.btor_frames.specs.Tables.{has_role}
use Rattle.btor_frames.proofs.Finding.{earlier_inside, values_step}
use Rattle.btor_frames.proofs.tables.values.Goals as goal

pub note_value-requires : goal.note_value-requires
note_value-requires c =
    let l = c.line-item.result in
    let i = c.loop-line.line-index in
    let at : slice_get c.args.nodes.now i ≡ Some l =
    ap (λ xs. slice_get xs i) (sym c.as_slice-line-items.ensures) ∙ slice_get_read c.as_slice-line-items.result.now _ i l refl c.loop-line-test.true c.line-item.is in
    earlier_inside c.args.nodes.now i l _ c.len.ensures.well_formed at c.loop-line.invariant.sized

pub loop-line-preserved : goal.loop-line-preserved
loop-line-preserved c =
    let l = c.line-item.result in
    let i = c.loop-line.line-index in
    let at : slice_get c.args.nodes.now i ≡ Some l =
    ap (λ xs. slice_get xs i) (sym c.as_slice-line-items.ensures) ∙ slice_get_read c.as_slice-line-items.result.now _ i l refl c.loop-line-test.true c.line-item.is in
    values_step (has_role c.args.role) c.args.nodes.now i l c.loop-line.values.items c.note_value.new.values.items c.len.ensures.well_formed at c.loop-line.invariant c.note_value.ensures
