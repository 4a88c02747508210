use Rattle.std.proofs.lemmas.Result.{err_from_is_err_and}
use Rattle.smv_text.specs.declared.token.Sign.TheVariants as signs
use Rattle.smv_grammar.specs.Rules.{sign, path, enclosed}
use Rattle.smv_grammar.proofs.Lawful.{both_reads, both_dies, both_dies_first}
use Rattle.smv_grammar.proofs.Mapped.{mapped_reads, mapped_dies}
use Rattle.smv_parse.proofs.Leads.{gives_exit, sign_after, misses_loses}
use Rattle.smv_parse.proofs.Numerals.{path_found, path_loses}
use Rattle.smv_parse.proofs.module_sections.enclosed.Goals as goal

pub returns-in_err-more-clause-reads : goal.returns-in_err-more-clause-reads
unfolding enclosed
returns-in_err-more-clause-reads c h w =
    gives_exit _ (enclosed w h c.args.tokens.now) (sign signs.Open h c.args.tokens.now) _ _ (err_from_is_err_and c.from_residual.result c.from_residual.ensures.1) (λ n e. mapped_dies _ _ (both_dies_first _ _ e)) (misses_loses signs.Open h c.args.tokens.now _ c.in_err-more.ensures.passes)

pub returns-in_err-path-clause-reads : goal.returns-in_err-path-clause-reads
unfolding enclosed
returns-in_err-path-clause-reads c h w =
    gives_exit _ (enclosed w h c.args.tokens.now) (path h c.in_ok-more.more.now) _ _ (err_from_is_err_and c.from_residual-in_err-path.result c.from_residual-in_err-path.ensures.1) (λ n e. mapped_dies _ _ (both_dies _ _ ((sign_after signs.Open h c.args.tokens.now c.in_ok-more.more.now c.in_ok-more.ensures.passes).1) (both_dies_first _ _ e))) (path_loses h c.in_ok-more.more.now _ c.in_err-path.ensures.found)

pub returns-in_err-last-clause-reads : goal.returns-in_err-last-clause-reads
unfolding enclosed
returns-in_err-last-clause-reads c h w =
    gives_exit _ (enclosed w h c.args.tokens.now) (sign signs.Close h c.in_ok-path.rest.now) _ _ (err_from_is_err_and c.from_residual-in_err-last.result c.from_residual-in_err-last.ensures.1) (λ n e. mapped_dies _ _ (both_dies _ _ ((sign_after signs.Open h c.args.tokens.now c.in_ok-more.more.now c.in_ok-more.ensures.passes).1) (both_dies _ _ (path_found h c.in_ok-more.more.now c.in_ok-path.path c.in_ok-path.rest.now c.in_ok-path.ensures.found) e))) (misses_loses signs.Close h c.in_ok-path.rest.now _ c.in_err-last.ensures.passes)

pub returns-clause-reads : goal.returns-clause-reads
unfolding enclosed
returns-clause-reads c h w =
    mapped_reads _ _ (both_reads _ _ ((sign_after signs.Open h c.args.tokens.now c.in_ok-more.more.now c.in_ok-more.ensures.passes).1) (both_reads _ _ (path_found h c.in_ok-more.more.now c.in_ok-path.path c.in_ok-path.rest.now c.in_ok-path.ensures.found) ((sign_after signs.Close h c.in_ok-path.rest.now c.in_ok-last.last.now c.in_ok-last.ensures.passes).1)))
