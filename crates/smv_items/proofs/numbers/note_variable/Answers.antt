use Rattle.smv_meaning.specs.Meaning.{is_input}
use Rattle.smv_items.proofs.NumberLemmas.{number_kept_more, on_ok}
use Rattle.smv_items.proofs.numbers.note_variable.Goals as goal

pub returns-clause-kept : goal.returns-clause-kept
returns-clause-kept c = λ t e h.
    on_ok c.add_row_in.result
    (number_kept_more t c.args.paths.now c.note_path.new.paths c.args.variables.now c.add_row_in.new.map c.args.origin.now c.args.path.now (is_input c.args.kind) c.args.k c.in_ok-n.n c.number_as.result
    e c.in_ok-n.ensures.noted c.in_ok-n.ensures.number c.number_as.ensures h) c.add_row_in.ensures
