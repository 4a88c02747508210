use Rattle.std.proofs.Common.{◌++◌, drop, length, sym, ap, ◌+◌, ◌∙◌, ◌≡◌, Some, refl}
use Rattle.std.specs.Prelude.{slice_get}
use Rattle.std.proofs.lemmas.Option.{slice_get_read}
use Rattle.btor_tree.specs.Fits.{is_bad}
use Rattle.btor_import.specs.Script.{lines_in, queries_from}
use Rattle.btor_import.proofs.Steps.{query_off, query_on}
use Rattle.btor_import.proofs.script.queries_of.Goals as goal
use Rattle.btor_import.proofs.script.queries_of.Goals.{then-is_bad+in_ok-query+in_ok-push, else-is_bad}
use Rattle.moxi_scripts.specs.Script.{query_of}

pub loop-line-preserved : goal.loop-line-preserved
loop-line-preserved c =
    let i = c.loop-line.line-index in
    let l = c.line-item.result in
    let here : slice_get c.as_slice-line-items.result.now i ≡ Some l = slice_get_read c.as_slice-line-items.result.now _ i l refl c.loop-line-test.true c.line-item.is in
    let at : slice_get c.args.nodes.now i ≡ Some l = ap (λ xs. slice_get xs i) (sym c.as_slice-line-items.ensures) ∙ here in
    elim c.if-is_bad.branch [
      | then-is_bad+in_ok-query+in_ok-push w ↦
          query_on c.args.nodes.now i l c.loop-line.all c.if-is_bad.all w.in_ok-query.query _ at (sym c.is_bad.ensures ∙ w.if-is_bad.true)
          (w.all-is ∙ w.in_ok-push.ensures.ok) (w.in_ok-query.ensures ∙ ap query_of w.len.ensures) c.loop-line.invariant
      | else-is_bad w ↦
          ap (λ ys. ys ++ queries_from (length ys) (lines_in is_bad (drop (i + 1) c.args.nodes.now))) w.all-is
          ∙ query_off c.args.nodes.now i l c.loop-line.all _ at (sym c.is_bad.ensures ∙ w.if-is_bad.false) c.loop-line.invariant
    ]
