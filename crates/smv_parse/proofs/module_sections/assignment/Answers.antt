use Rattle.std.proofs.lemmas.Result.{err_from_is_err_and}
use Rattle.smv_grammar.specs.Readers.{fail, either}
use Rattle.smv_grammar.specs.Rules.{body, target_pick, assignment_pick}
use Rattle.smv_parse.proofs.Leads.{gives_exit}
use Rattle.smv_parse.proofs.Turns.{assignment_reads, assignment_dies, assignment_dies_later}
use Rattle.smv_parse.proofs.module_sections.assignment.Goals as goal

pub returns-in_err-when-clause-reads : goal.returns-in_err-when-clause-reads
returns-in_err-when-clause-reads c =
    gives_exit _ (either assignment_pick fail c.args.high c.args.tokens.now) (either target_pick fail c.args.high c.args.tokens.now) _ _ (err_from_is_err_and c.from_residual.result c.from_residual.ensures.1) (λ n e. assignment_dies c.args.high c.args.tokens.now n e) (c.in_err-when.ensures.reads c.args.high)

pub returns-in_err-body-clause-reads : goal.returns-in_err-body-clause-reads
returns-in_err-body-clause-reads c =
    gives_exit _ (either assignment_pick fail c.args.high c.args.tokens.now) (body c.args.high c.in_ok-when.rest.now) _ _ (err_from_is_err_and c.from_residual-in_err-body.result c.from_residual-in_err-body.ensures.1) (λ n e. assignment_dies_later c.args.high c.args.high c.args.tokens.now c.in_ok-when.rest.now _ n (c.in_ok-when.ensures.reads c.args.high) e) c.in_err-body.ensures.reads

pub returns-clause-reads : goal.returns-clause-reads
returns-clause-reads c =
    assignment_reads c.args.high c.args.high _ c.args.tokens.now c.in_ok-when.rest.now _ _ _ (c.in_ok-when.ensures.reads c.args.high) c.in_ok-body.ensures.reads
