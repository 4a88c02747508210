use Rattle.std.proofs.lemmas.Result.{err_from_is_err_and}
use Rattle.smv_grammar.specs.Rules.{interval}
use Rattle.smv_parse.proofs.Leads.{gives_exit}
use Rattle.smv_parse.proofs.module_types.bounds.Goals as goal

pub returns-in_err-domain-clause-reads : goal.returns-in_err-domain-clause-reads
returns-in_err-domain-clause-reads c =
    gives_exit _ (interval c.args.high c.args.tokens.now) (interval c.args.high c.args.tokens.now) _ _ (err_from_is_err_and c.from_residual.result c.from_residual.ensures.1) (λ n e. e) (c.in_err-domain.ensures.reads c.args.high)
