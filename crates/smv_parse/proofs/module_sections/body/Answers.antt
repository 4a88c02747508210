use Rattle.std.proofs.lemmas.Result.{err_from_is_err_and}
use Rattle.smv_text.specs.declared.token.Sign.TheVariants as signs
use Rattle.smv_grammar.specs.Readers.{expression}
use Rattle.smv_grammar.specs.Rules.{sign, body}
use Rattle.smv_grammar.proofs.Lawful.{both_reads, both_dies, both_dies_first}
use Rattle.smv_grammar.proofs.Mapped.{mapped_reads, mapped_dies}
use Rattle.smv_parse.proofs.Leads.{gives_exit, sign_after, misses_loses}
use Rattle.smv_parse.proofs.module_sections.body.Goals as goal

pub returns-in_err-more-clause-reads : goal.returns-in_err-more-clause-reads
unfolding body
returns-in_err-more-clause-reads c =
    gives_exit _ (body c.args.high c.args.tokens.now) (sign signs.Assign c.args.high c.args.tokens.now) _ _ (err_from_is_err_and c.from_residual.result c.from_residual.ensures.1) (λ n e. mapped_dies _ _ (both_dies_first _ _ e)) (misses_loses signs.Assign c.args.high c.args.tokens.now _ c.in_err-more.ensures.passes)

pub returns-in_err-value-clause-reads : goal.returns-in_err-value-clause-reads
unfolding body
returns-in_err-value-clause-reads c =
    gives_exit _ (body c.args.high c.args.tokens.now) (expression c.args.high c.in_ok-more.more.now) _ _ (err_from_is_err_and c.from_residual-in_err-value.result c.from_residual-in_err-value.ensures.1) (λ n e. mapped_dies _ _ (both_dies _ _ ((sign_after signs.Assign c.args.high c.args.tokens.now c.in_ok-more.more.now c.in_ok-more.ensures.passes).1) (both_dies_first _ _ e))) c.in_err-value.ensures.reads

pub returns-in_err-last-clause-reads : goal.returns-in_err-last-clause-reads
unfolding body
returns-in_err-last-clause-reads c =
    gives_exit _ (body c.args.high c.args.tokens.now) (sign signs.Semicolon c.in_ok-value.high c.in_ok-value.rest.now) _ _ (err_from_is_err_and c.from_residual-in_err-last.result c.from_residual-in_err-last.ensures.1) (λ n e. mapped_dies _ _ (both_dies _ _ ((sign_after signs.Assign c.args.high c.args.tokens.now c.in_ok-more.more.now c.in_ok-more.ensures.passes).1) (both_dies _ _ c.in_ok-value.ensures.reads e))) (misses_loses signs.Semicolon c.in_ok-value.high c.in_ok-value.rest.now _ c.in_err-last.ensures.passes)

pub returns-clause-reads : goal.returns-clause-reads
unfolding body
returns-clause-reads c =
    mapped_reads _ _ (both_reads _ _ ((sign_after signs.Assign c.args.high c.args.tokens.now c.in_ok-more.more.now c.in_ok-more.ensures.passes).1) (both_reads _ _ c.in_ok-value.ensures.reads ((sign_after signs.Semicolon c.in_ok-value.high c.in_ok-value.rest.now c.in_ok-last.last.now c.in_ok-last.ensures.passes).1)))
