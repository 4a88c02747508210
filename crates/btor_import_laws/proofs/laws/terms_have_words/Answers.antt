use Rattle.std.proofs.Common.{take, sym, ap, ◌∙◌}
use Rattle.btor_tree.specs.Frame.{nothing, word_at}
use Rattle.btor_tree.proofs.Widths.{wide}
use Rattle.btor_tree.proofs.Words.{one_solution}
use Rattle.moxi_terms.specs.declared.data.Datum.TheVariants.{Bits}
use Rattle.btor_import_laws.proofs.Steps.{fits_at, line_value}
use Rattle.btor_import_laws.proofs.laws.terms_have_words.Goals as goal

pub returns : goal.returns
returns c = λ lines well row frame calls now later agree n l there local.
    line_value lines well row (wide lines row well frame.meets) calls now later agree n l.sort l.op l.args (word_at row n) (fits_at lines well n l there) local
    ∙ ap Bits (sym (one_solution (take n lines) row l.sort l.op l.args (word_at row n) nothing (frame.meets.by_line n l there)))
