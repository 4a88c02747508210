use Rattle.std.proofs.Common.{◌∙◌, sym, subst}
use Rattle.smv_evaluation.specs.Rows.{FoundIsCached}
use Rattle.smv_evaluation.proofs.RowReads.{read_found, is_kept}
use Rattle.smv_evaluation.proofs.rows.value_of_path.Goals as goal

pub value_of_kind-requires : goal.value_of_kind-requires
value_of_kind-requires c = let h = is_kept c.args.table.now c.args.i c.args.row.now c.args.label.now c.args.path.now c.requires in record { state = h.0; label = h.1 }

pub returns-in-Variable : goal.returns-in-Variable
returns-in-Variable c = c.value_of_kind.ensures ∙ read_found c.args.table.now c.args.i c.args.row.now c.args.label.now c.args.path.now _ c.in-Variable.ensures.found

pub returns-in-Body : goal.returns-in-Body
returns-in-Body c =
    let h = is_kept c.args.table.now c.args.i c.args.row.now c.args.label.now c.args.path.now c.requires in
    c.value_of_body.ensures
    ∙ subst (FoundIsCached c.args.table.now c.args.row.now c.args.label.now) (sym c.in-Body.ensures.found) h.2
    ∙ read_found c.args.table.now c.args.i c.args.row.now c.args.label.now c.args.path.now _ c.in-Body.ensures.found

pub returns-in-Instance : goal.returns-in-Instance
returns-in-Instance c = c.no_seen.ensures ∙ read_found c.args.table.now c.args.i c.args.row.now c.args.label.now c.args.path.now _ c.in-Instance.ensures.found

pub returns-in-Symbol : goal.returns-in-Symbol
returns-in-Symbol c = read_found c.args.table.now c.args.i c.args.row.now c.args.label.now c.args.path.now _ c.in-Symbol.ensures.found

pub returns-in-Cyclic : goal.returns-in-Cyclic
returns-in-Cyclic c = c.no_seen-in-Cyclic.ensures ∙ read_found c.args.table.now c.args.i c.args.row.now c.args.label.now c.args.path.now _ c.in-Cyclic.ensures.found

pub returns-in-Missing : goal.returns-in-Missing
returns-in-Missing c = c.no_seen-in-Missing.ensures ∙ read_found c.args.table.now c.args.i c.args.row.now c.args.label.now c.args.path.now _ c.in-Missing.ensures.found
