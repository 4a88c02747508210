use Rattle.std.proofs.Common.{sym, ◌∙◌}
use Rattle.btor_witness.specs.Bytes.{line_parts}
use Rattle.btor_judge.proofs.Turns.{passed_over, shaped, shapeless}
use Rattle.btor_judge.proofs.reader.Reader.take_line.Goals as goal

pub returns-then-is_passed : goal.returns-then-is_passed
returns-then-is_passed c = λ r raw h e. passed_over c.args.nodes.now c.args.self.now r (line_parts raw) h.0 (sym (c.is_passed.ensures raw e) ∙ c.if-is_passed.true)

pub returns-in-Some : goal.returns-in-Some
returns-in-Some c = λ r raw h e.
    shaped c.args.nodes.now c.step.new.self r (line_parts raw) c.in-Some.shape c.step.result (sym (c.is_passed.ensures raw e) ∙ c.if-is_passed.false) (sym (c.in-Some.ensures raw e)) (c.step.ensures r h)

pub returns-in-None : goal.returns-in-None
returns-in-None c = λ r raw h e. shapeless c.args.nodes.now r (line_parts raw) (sym (c.is_passed.ensures raw e) ∙ c.if-is_passed.false) (sym (c.in-None.ensures raw e))
