use Rattle.std.proofs.Common.{IfOk, subst}
use Rattle.moxi_scripts.specs.ScriptView.{plain_script}
use Rattle.moxi_trace.specs.ReadBack.{ReadsBack}
use Rattle.moxi_trace.specs.Traces.{Declared}
use Rattle.moxi_responses.specs.Declaring.{declared_of}
use Rattle.moxi_responses.proofs.OwnNames.{asked, printed_again, stated}
use Rattle.moxi_responses.proofs.responses.print_response.Goals as goal

pub returns-clause-again : goal.returns-clause-again
returns-clause-again c =
    let a = c.args in
    let s = plain_script a.script.now in
    printed_again (declared_of s) a.q a.trace.now c.print_response.result c.names_are_own.ensures.again (asked s.check.queries a.q c.requires.query)
    (stated s a.system.now a.trace.now c.requires.system c.requires.trace)
    (subst (λ (d : Declared). IfOk c.print_response.result (ReadsBack d a.q a.trace.now)) c.declarations_of-declarations.ensures c.print_response.ensures.again)
