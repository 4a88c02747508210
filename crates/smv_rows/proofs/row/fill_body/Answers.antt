use Rattle.std.proofs.Common.{List, ap, ◌∙◌, sym}
use Rattle.smv_operators.specs.declared.seen.Seen.{Seen}
use Rattle.smv_flat.specs.FlatTree.{flat_denote}
use Rattle.smv_flat.specs.FlatView.{plain_flat}
use Rattle.smv_flat.specs.FlatTruth.{symbol_value}
use Rattle.smv_flat_evaluation.specs.RowValues.{row_values}
use Rattle.smv_rows.specs.Filling.{body_plain, with_body}
use Rattle.smv_rows.proofs.VariableRows.{body_set}
use Rattle.smv_rows.proofs.row.fill_body.Goals as goal

pub returns-in-Some-clause-value : goal.returns-in-Some-clause-value
returns-in-Some-clause-value c =
    let symbols = symbol_value c.args.symbols.now in
    let xs = c.args.values.now.items in
    let e = plain_flat c.in-Some.e.now in
    body_set symbols xs c.args.k c.evaluate-value.result e c.requires.low
    (c.evaluate-value.ensures ∙ ap (λ (l : List Seen). (flat_denote symbols (row_values l) (row_values c.as_slice-in-Some.result.now) e).value) c.as_slice.ensures.value
    ∙ ap (λ (l : List Seen). (flat_denote symbols (row_values xs) (row_values l) e).value) c.as_slice-in-Some.ensures.value)
    ∙ ap (with_body symbols (row_values xs) c.args.k) (sym (ap body_plain c.in-Some.is))
