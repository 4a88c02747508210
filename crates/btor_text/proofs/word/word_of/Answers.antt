use Rattle.std.proofs.Common.{eqb, sym, ap, ◌∙◌}
use Rattle.std.specs.List.{filter}
use Rattle.btor_text.specs.Seen.{look_up, rows}
use Rattle.btor_text.proofs.Words.{found_same_first}
use Rattle.btor_text.proofs.word.word_of.Goals as goal
use Rattle.text_core.specs.Bytes.{first_of}

pub returns : goal.returns
returns c = c.look_up.ensures ∙ ap (look_up c.args.text.now) (c.words_from.ensures ∙ ap (λ b. filter (λ w. eqb b (first_of w.0)) rows) c.first_of.ensures) ∙ sym (found_same_first c.args.text.now rows)
