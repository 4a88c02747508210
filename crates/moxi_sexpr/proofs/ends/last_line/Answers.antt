use Rattle.std.proofs.Common.{◌≡◌, ◌-◌, suc, length, drop, ap, sym, ◌∙◌, arith}
use Rattle.moxi_sexpr.specs.Reading.{last_line}
use Rattle.moxi_sexpr.proofs.Lines.{last_at}
use Rattle.moxi_sexpr.proofs.ends.last_line.Goals as goal
use Rattle.moxi_sexpr.proofs.ends.last_line.Goals.{then-loop-start-test+else-text-start-ne10, else-loop-start-test}

pub returns-clause-value : goal.returns-clause-value
returns-clause-value c =
    let text = c.args.text.now in
    let start = c.loop-start.start in
    let rest : last_line 0 (drop start text) ≡ length text - start = c.loop-start.invariant.one_line 0 ∙ (omega arith) in
    elim c.loop-start-test.branch [
      | then-loop-start-test+else-text-start-ne10 w ↦
          let before : suc (start - 1) ≡ start = omega (arith, w.loop-start-test.true) in
          sym (last_at text (start - 1) 0 (omega (arith, w.loop-start-test.true, c.loop-start.invariant.within)) w.if-text-start-ne10.false ∙ ap (λ j. last_line 0 (drop j text)) before ∙ rest)
      | else-loop-start-test w ↦
          let none : 0 ≡ start = omega (arith, w.loop-start-test.false) in
          sym (ap (λ j. last_line 0 (drop j text)) none ∙ rest)
    ]
