use Rattle.std.proofs.lemmas.Result.{err_from_is_err_and}
use Rattle.smv_grammar.specs.Rules.{name, parameter}
use Rattle.smv_grammar.proofs.Mapped.{mapped_reads, mapped_dies}
use Rattle.smv_parse.proofs.Leads.{gives_exit}
use Rattle.smv_parse.proofs.module_types.parameter.Goals as goal

pub returns-in_err-name-clause-reads : goal.returns-in_err-name-clause-reads
unfolding parameter
returns-in_err-name-clause-reads c h =
    gives_exit _ (parameter h c.args.tokens.now) (name h c.args.tokens.now) _ _ (err_from_is_err_and c.from_residual.result c.from_residual.ensures.1) (λ n e. mapped_dies _ _ e) (c.in_err-name.ensures.reads h)

pub returns-clause-reads : goal.returns-clause-reads
unfolding parameter
returns-clause-reads c h =
    mapped_reads _ _ (c.in_ok-name.ensures.reads h)
