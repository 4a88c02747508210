use Rattle.std.proofs.Common.{eqb, sym, ap, ◌∙◌}
use Rattle.std.specs.List.{filter}
use Rattle.smv_text.specs.Bytes.{look_up}
use Rattle.smv_text.specs.Keywords.{keywords}
use Rattle.smv_lex.proofs.Keywords.{found_same_first, none_found}
use Rattle.smv_lex.proofs.words.keyword_of.Goals as goal
use Rattle.text_core.specs.Bytes.{first_of}

pub returns-then-may_be_keyword : goal.returns-then-may_be_keyword
returns-then-may_be_keyword c = c.look_up.ensures ∙ ap (look_up c.args.word.now) (c.keywords_from.ensures ∙ ap (λ b. filter (λ w. eqb b (first_of w.0)) keywords) c.first_of.ensures) ∙ sym (found_same_first c.args.word.now keywords)

pub returns-else-may_be_keyword : goal.returns-else-may_be_keyword
returns-else-may_be_keyword c = none_found c.args.word.now (sym c.may_be_keyword.ensures ∙ c.if-may_be_keyword.false)
