use Rattle.std.proofs.Common.{sym}
use Rattle.std.proofs.lemmas.Result.{err_from_is_err_and}
use Rattle.smv_grammar.specs.Readers.{expression}
use Rattle.smv_grammar.specs.Rules.{constraint}
use Rattle.smv_grammar.proofs.Lawful.{both_reads, both_dies_first}
use Rattle.smv_grammar.proofs.Mapped.{mapped_reads, mapped_dies}
use Rattle.smv_parse.proofs.Leads.{gives_exit}
use Rattle.smv_parse.proofs.Turns.{optional_taken, optional_passed}
use Rattle.smv_parse.proofs.module_sections.constraint.Goals as goal

pub returns-in_err-value-clause-reads : goal.returns-in_err-value-clause-reads
unfolding constraint
returns-in_err-value-clause-reads c =
    gives_exit _ (constraint c.args.high c.args.tokens.now) (expression c.args.high c.args.tokens.now) _ _ (err_from_is_err_and c.from_residual.result c.from_residual.ensures.1) (λ n e. mapped_dies _ _ (both_dies_first _ _ e)) c.in_err-value.ensures.reads

pub returns-in-Some-clause-reads : goal.returns-in-Some-clause-reads
unfolding constraint
returns-in-Some-clause-reads c =
    mapped_reads _ _ (both_reads _ _ c.in_ok-value.ensures.reads (optional_taken c.in_ok-value.high c.in_ok-value.rest.now c.in-Some.last.now (sym c.in-Some.ensures.found)))

pub returns-in-None-clause-reads : goal.returns-in-None-clause-reads
unfolding constraint
returns-in-None-clause-reads c =
    mapped_reads _ _ (both_reads _ _ c.in_ok-value.ensures.reads (optional_passed c.in_ok-value.high c.in_ok-value.rest.now (sym c.in-None.ensures.found)))
