use Rattle.std.proofs.Common.{sym, ap, ◌∙◌, inl, inr}
use Rattle.btor_tree.specs.Parts.{parts}
use Rattle.btor_judge.specs.declared.scan.Scan.{Scan}
use Rattle.btor_judge.specs.Firsts.{first_shape}
use Rattle.btor_judge.specs.Scanning.{part_at}
use Rattle.btor_judge.proofs.FirstLaws.{shape_is}
use Rattle.btor_judge.proofs.ScanLaws.{one_part, two_parts, other_parts}
use Rattle.btor_judge.proofs.scan.Scan.shape.Goals as goal

pub returns-then-self-eq1 : goal.returns-then-self-eq1
returns-then-self-eq1 c = λ bs e. c.shape.ensures ∙ ap (λ (s : Scan). first_shape s.first) e ∙ shape_is (part_at (parts bs) 0) ∙ one_part (parts bs) (sym (ap (λ (s : Scan). s.count) e) ∙ c.if-self-eq1.true)

pub returns-then-self-eq2 : goal.returns-then-self-eq2
returns-then-self-eq2 c = λ bs e. c.assignment.ensures (part_at (parts bs) 0) (part_at (parts bs) 1) (ap (λ (s : Scan). s.first) e) (ap (λ (s : Scan). s.digits) e) ∙ two_parts (parts bs) (inl (sym (ap (λ (s : Scan). s.count) e) ∙ c.if-self-eq2.true))

pub returns-then-self-eq3 : goal.returns-then-self-eq3
returns-then-self-eq3 c = λ bs e. c.assignment-then-self-eq3.ensures (part_at (parts bs) 0) (part_at (parts bs) 1) (ap (λ (s : Scan). s.first) e) (ap (λ (s : Scan). s.digits) e) ∙ two_parts (parts bs) (inr (sym (ap (λ (s : Scan). s.count) e) ∙ c.if-self-eq3.true))

pub returns-else-self-eq3 : goal.returns-else-self-eq3
returns-else-self-eq3 c = λ bs e.
    let count = ap (λ (s : Scan). s.count) e in
    other_parts (parts bs) (λ z. c.if-self-eq1.false (count ∙ z)) (λ z. c.if-self-eq2.false (count ∙ z)) (λ z. c.if-self-eq3.false (count ∙ z))
