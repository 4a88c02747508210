use Rattle.std.proofs.lemmas.Result.{err_from_is_err_and}
use Rattle.smv_text.specs.Tree.{spec}
use Rattle.smv_grammar.specs.Readers.{both, mapped}
use Rattle.smv_grammar.specs.Rules.{constraint, label}
use Rattle.smv_grammar.proofs.Lawful.{both_reads, both_dies, both_dies_first}
use Rattle.smv_grammar.proofs.Mapped.{mapped_reads, mapped_dies}
use Rattle.smv_parse.proofs.Leads.{gives_exit}
use Rattle.smv_parse.proofs.module_sections.specification.Goals as goal

pub returns-in_err-name-clause-reads : goal.returns-in_err-name-clause-reads
returns-in_err-name-clause-reads c =
    gives_exit _ (mapped (λ q. spec q.0 q.1) (both label constraint) c.args.high c.args.tokens.now) (label c.args.high c.args.tokens.now) _ _ (err_from_is_err_and c.from_residual.result c.from_residual.ensures.1) (λ n e. mapped_dies _ _ (both_dies_first _ _ e)) (c.in_err-name.ensures.reads c.args.high)

pub returns-in_err-value-clause-reads : goal.returns-in_err-value-clause-reads
returns-in_err-value-clause-reads c =
    gives_exit _ (mapped (λ q. spec q.0 q.1) (both label constraint) c.args.high c.args.tokens.now) (constraint c.args.high c.in_ok-name.rest.now) _ _ (err_from_is_err_and c.from_residual-in_err-value.result c.from_residual-in_err-value.ensures.1) (λ n e. mapped_dies _ _ (both_dies _ _ (c.in_ok-name.ensures.reads c.args.high) e)) c.in_err-value.ensures.reads

pub returns-clause-reads : goal.returns-clause-reads
returns-clause-reads c =
    mapped_reads _ _ (both_reads _ _ (c.in_ok-name.ensures.reads c.args.high) c.in_ok-value.ensures.reads)
