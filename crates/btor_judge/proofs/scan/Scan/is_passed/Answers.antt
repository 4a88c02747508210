use Rattle.std.proofs.Common.{sym, ap, ◌∙◌}
use Rattle.btor_tree.specs.Parts.{parts}
use Rattle.btor_judge.specs.declared.scan.Scan.{Scan}
use Rattle.btor_judge.specs.Firsts.{is_comment}
use Rattle.btor_judge.proofs.ScanLaws.{no_parts, parts_passed}
use Rattle.btor_judge.proofs.scan.Scan.is_passed.Goals as goal

pub returns-then-self-eq0 : goal.returns-then-self-eq0
returns-then-self-eq0 c = λ bs e. no_parts (parts bs) (sym (ap (λ (s : Scan). s.count) e) ∙ c.if-self-eq0.true)

pub returns-else-self-eq0 : goal.returns-else-self-eq0
returns-else-self-eq0 c = λ bs e. c.is_comment.ensures ∙ ap (λ (s : Scan). is_comment s.first) e ∙ parts_passed (parts bs) (λ z. c.if-self-eq0.false (ap (λ (s : Scan). s.count) e ∙ z))
