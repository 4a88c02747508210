use Rattle.std.proofs.Common.{◌++◌, drop, length, map, sym, ap, ◌+◌, ◌∙◌, ◌≡◌, Some, refl}
use Rattle.std.specs.Prelude.{slice_get}
use Rattle.std.proofs.lemmas.Option.{slice_get_read}
use Rattle.btor_tree.specs.Fits.{is_bad}
use Rattle.moxi_scripts.specs.Script.{plain_formula}
use Rattle.btor_import.specs.Assembling.{number_at}
use Rattle.btor_import.specs.Script.{lines_in, reachable_of, reachables_from}
use Rattle.btor_import.proofs.Steps.{reachable_off, reachable_on}
use Rattle.btor_import.proofs.script.reachables_of.Goals as goal
use Rattle.btor_import.proofs.script.reachables_of.Goals.{then-is_bad+in_ok-formula+in_ok-push, else-is_bad}

pub loop-line-preserved : goal.loop-line-preserved
loop-line-preserved c =
    let i = c.loop-line.line-index in
    let l = c.line-item.result in
    let here : slice_get c.as_slice-line-items.result.now i ≡ Some l = slice_get_read c.as_slice-line-items.result.now _ i l refl c.loop-line-test.true c.line-item.is in
    let at : slice_get c.args.nodes.now i ≡ Some l = ap (λ xs. slice_get xs i) (sym c.as_slice-line-items.ensures) ∙ here in
    let number = number_at c.args.numbers.now in
    elim c.if-is_bad.branch [
      | then-is_bad+in_ok-formula+in_ok-push w ↦
          reachable_on number c.args.nodes.now i l c.loop-line.all c.if-is_bad.all w.in_ok-formula.formula _ at (sym c.is_bad.ensures ∙ w.if-is_bad.true)
          (w.all-is ∙ w.in_ok-push.ensures.ok) (w.in_ok-formula.ensures ∙ ap (λ j. reachable_of number j l) w.len.ensures) c.loop-line.invariant
      | else-is_bad w ↦
          ap (λ ys. map plain_formula ys ++ reachables_from number (length ys) (lines_in is_bad (drop (i + 1) c.args.nodes.now))) w.all-is
          ∙ reachable_off number c.args.nodes.now i l c.loop-line.all _ at (sym c.is_bad.ensures ∙ w.if-is_bad.false) c.loop-line.invariant
    ]
