use Rattle.std.proofs.Common.{◌∙◌, arith}
use Rattle.smv_expressions.proofs.Keeping.{keeps_choice, read_height}
use Rattle.smv_expressions.proofs.kept.Cases.choice.Goals as goal

pub returns-clause-made : goal.returns-clause-made
returns-clause-made c bs t h is =
    let e = c.is_empty.ensures in
    let f = c.if-is_empty.false in
    c.keep.ensures ∙ keeps_choice c.args.place c.args.self.branches c.in_ok-last.last c.args.kept.now bs t c.higher-height.result (grind (arith, e, f)) c.in_ok-last.ensures.made is h.trees
    (omega (arith, c.higher-height.ensures, c.under.ensures, h.depth, h.highest, read_height c.args.kept.now t is))
