use Rattle.std.proofs.Common.{◌∙◌}
use Rattle.btor_tree.specs.Parts.{parts}
use Rattle.btor_text.specs.Seen.{seen_word}
use Rattle.btor_text.proofs.Words.{content_there}
use Rattle.btor_text.proofs.shape.content_of.Goals as goal

pub returns-in-Some : goal.returns-in-Some
returns-in-Some c = c.content_at.ensures ∙ content_there c.in_ok-text.text.now (parts c.in_ok-text.rest.now) (parts c.args.rest.now) (seen_word c.in-Some.word) c.in_ok-text.ensures c.in-Some.ensures
