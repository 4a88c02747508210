use Rattle.std.proofs.Common.{ap, ◌∙◌, sym, arith}
use Rattle.smv_grammar.specs.Kept.{cap}
use Rattle.smv_grammar.specs.Machine.{listed}
use Rattle.smv_expressions.proofs.Keeping.{keeps_call, keeps_set}
use Rattle.smv_expressions.proofs.kept.Members.put.Goals as goal

pub returns-in-Arguments : goal.returns-in-Arguments
returns-in-Arguments c ts h =
    let f = c.in-Arguments.function in
    c.keep.ensures ∙ keeps_call c.args.place f c.args.self.exprs ts c.under-height.result h.trees (omega (arith, c.under-height.ensures, h.highest))
    ∙ ap (λ w. cap (listed c.args.place w ts)) (sym c.in-Arguments.is)

pub returns-in-Elements : goal.returns-in-Elements
returns-in-Elements c ts h =
    c.keep-in-Elements.ensures ∙ keeps_set c.args.place c.args.self.exprs ts c.under-height.result h.trees (omega (arith, c.under-height.ensures, h.highest))
    ∙ ap (λ w. cap (listed c.args.place w ts)) (sym c.in-Elements.is)
