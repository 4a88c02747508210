use Rattle.std.proofs.lemmas.Result.{err_from_is_err_and}
use Rattle.smv_text.specs.declared.token.Sign.TheVariants as signs
use Rattle.smv_grammar.specs.Rules.{sign, number, width}
use Rattle.smv_grammar.proofs.Lawful.{both_reads, both_dies, both_dies_first}
use Rattle.smv_grammar.proofs.Mapped.{mapped_reads, mapped_dies}
use Rattle.smv_parse.proofs.Leads.{gives_exit, sign_after, misses_loses, number_found, number_loses}
use Rattle.smv_parse.proofs.module_types.width.Goals as goal

pub returns-in_err-more-clause-reads : goal.returns-in_err-more-clause-reads
unfolding width
returns-in_err-more-clause-reads c h =
    gives_exit _ (width h c.args.tokens.now) (sign signs.OpenBracket h c.args.tokens.now) _ _ (err_from_is_err_and c.from_residual.result c.from_residual.ensures.1) (λ n e. mapped_dies _ _ (both_dies_first _ _ e)) (misses_loses signs.OpenBracket h c.args.tokens.now _ c.in_err-more.ensures.passes)

pub returns-in_err-n-clause-reads : goal.returns-in_err-n-clause-reads
unfolding width
returns-in_err-n-clause-reads c h =
    gives_exit _ (width h c.args.tokens.now) (number h c.in_ok-more.more.now) _ _ (err_from_is_err_and c.from_residual-in_err-n.result c.from_residual-in_err-n.ensures.1) (λ n e. mapped_dies _ _ (both_dies _ _ ((sign_after signs.OpenBracket h c.args.tokens.now c.in_ok-more.more.now c.in_ok-more.ensures.passes).1) (both_dies_first _ _ e))) (number_loses h c.in_ok-more.more.now _ c.in_err-n.ensures.found)

pub returns-in_err-last-clause-reads : goal.returns-in_err-last-clause-reads
unfolding width
returns-in_err-last-clause-reads c h =
    gives_exit _ (width h c.args.tokens.now) (sign signs.CloseBracket h c.in_ok-n.rest.now) _ _ (err_from_is_err_and c.from_residual-in_err-last.result c.from_residual-in_err-last.ensures.1) (λ n e. mapped_dies _ _ (both_dies _ _ ((sign_after signs.OpenBracket h c.args.tokens.now c.in_ok-more.more.now c.in_ok-more.ensures.passes).1) (both_dies _ _ ((number_found h c.in_ok-more.more.now c.in_ok-n.n c.in_ok-n.rest.now c.in_ok-n.ensures.found).1) e))) (misses_loses signs.CloseBracket h c.in_ok-n.rest.now _ c.in_err-last.ensures.passes)

pub returns-clause-reads : goal.returns-clause-reads
unfolding width
returns-clause-reads c h =
    mapped_reads _ _ (both_reads _ _ ((sign_after signs.OpenBracket h c.args.tokens.now c.in_ok-more.more.now c.in_ok-more.ensures.passes).1) (both_reads _ _ ((number_found h c.in_ok-more.more.now c.in_ok-n.n c.in_ok-n.rest.now c.in_ok-n.ensures.found).1) ((sign_after signs.CloseBracket h c.in_ok-n.rest.now c.in_ok-last.last.now c.in_ok-last.ensures.passes).1)))
