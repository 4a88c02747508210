use Rattle.std.proofs.Common.{sym, ap, ◌∙◌}
use Rattle.smv_lex.specs.Reading.{last_of}
use Rattle.smv_lex.proofs.Keywords.{last_behind}
use Rattle.smv_lex.proofs.words.last_of.Goals as goal

pub returns-in-Some : goal.returns-in-Some
returns-in-Some c = sym (ap last_of c.in-Some.ensures.cases.0 ∙ last_behind c.in-Some.field-0-1.now c.in-Some.b.now)
