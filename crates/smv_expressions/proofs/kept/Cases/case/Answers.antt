use Rattle.std.proofs.Common.{◌∙◌, arith}
use Rattle.smv_expressions.proofs.Keeping.{keeps_cases}
use Rattle.smv_expressions.proofs.kept.Cases.case.Goals as goal

pub returns : goal.returns
returns c bs h = c.keep.ensures ∙ keeps_cases c.args.place c.args.self.branches bs c.higher-height.result h.trees (omega (arith, c.higher-height.ensures, h.depth, h.highest))
