use Rattle.std.proofs.Common.{◌≡◌, ◌++◌, OnOk, decimal, ap, ◌∙◌, subst}
use Rattle.moxi_trace.specs.Texts.{statements_text}
use Rattle.moxi_trace.proofs.Fronts.{fronted, step_put}
use Rattle.moxi_trace.proofs.print.put_step.Goals as goal

pub returns : goal.returns
returns c =
    let es = c.declarations.inside.scope.now.enumerations in
    let d = c.args.declarations.now in
    let xs = c.args.step.now in
    let same : es ≡ d.enumerations = cc in
    let text = fronted es c.args.fronts.now d.variables xs c.requires ∙ ap (λ e. statements_text e d.variables xs) same in
    let all : c.put_statements.new.out ≡ c.put_unsigned.new.self ++ statements_text d.enumerations d.variables xs =
    c.in_ok-put_statements.ensures ∙ ap (λ t. c.put_unsigned.new.self ++ t) text in
    subst (λ t. OnOk c.put-2.result (c.put-2.new.self ≡ t))
    (step_put c.args.out.now c.put.new.self c.put_unsigned.new.self c.put_statements.new.out (decimal c.args.number) (statements_text d.enumerations d.variables xs) c.in_ok-put.ensures.ok c.in_ok-put_unsigned.ensures.ok all)
    c.put-2.ensures.ok
