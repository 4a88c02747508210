use Rattle.std.proofs.Common.{Some, None, sym, ap, ◌∙◌}
use Rattle.btor_tree.specs.Parts.{parts}
use Rattle.btor_tree.specs.Reading.{resolved, next_of}
use Rattle.btor_tree.specs.Resolving.{resolve}
use Rattle.btor_text.specs.Seen.{seen_shape}
use Rattle.btor_text.proofs.Laws.{answers_error, at_shape, at_none, found_fits, fails_so, some_parts}
use Rattle.btor_text.proofs.read.next_line.Goals as goal

pub returns-in_default-clause-next : goal.returns-in_default-clause-next
returns-in_default-clause-next c = at_none c.args.progress.now (parts c.args.line.now) c.in_default.ensures

pub returns-in_default-shape_of-clause-next : goal.returns-in_default-shape_of-clause-next
returns-in_default-shape_of-clause-next c =
    let ps = parts c.args.line.now in
    at_shape c.args.progress.now ps None (some_parts ps c.in-Some.field-0.0.now _ c.in-Some.ensures) (sym c.in_default-shape_of.ensures)

pub returns-clause-next : goal.returns-clause-next
returns-clause-next c =
    let ps = parts c.args.line.now in
    at_shape c.args.progress.now ps (Some (seen_shape c.in-Some-shape_of.shape)) (some_parts ps c.in-Some.field-0.0.now _ c.in-Some.ensures) (sym c.in-Some-shape_of.ensures) ∙ ap resolved c.in_ok-line.ensures

pub returns-clause-fits : goal.returns-clause-fits
returns-clause-fits c =
    found_fits c.args.progress.now (seen_shape c.in-Some-shape_of.shape) (parts c.args.line.now) c.in_ok-line.line (sym c.in-Some-shape_of.ensures) c.in_ok-line.ensures

pub returns-in_err-line-clause-next : goal.returns-in_err-line-clause-next
returns-in_err-line-clause-next c =
    let ps = parts c.args.line.now in
    let sh = seen_shape c.in-Some-shape_of.shape in
    answers_error _ c.in_err-line.field-0.0 (next_of c.args.progress.now ps) c.from_residual.ensures.1 (fails_so _ c.in_err-line.field-0.0 (resolve c.args.progress.now sh) c.in_err-line.ensures (at_shape c.args.progress.now ps (Some sh) (some_parts ps c.in-Some.field-0.0.now _ c.in-Some.ensures) (sym c.in-Some-shape_of.ensures)))
