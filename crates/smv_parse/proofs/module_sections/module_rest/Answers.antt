use Rattle.std.proofs.Common.{length}
use Rattle.std.proofs.lemmas.Result.{err_from_is_err_and}
use Rattle.smv_grammar.specs.Readers.{many, counted}
use Rattle.smv_grammar.specs.Rules.{name, bracketed, parameter, element_pick, module_rest}
use Rattle.smv_grammar.proofs.Lawful.{both_reads, both_dies, both_dies_first}
use Rattle.smv_grammar.proofs.Mapped.{mapped_reads, mapped_dies, told_reads, told_dies}
use Rattle.smv_parse.proofs.Leads.{gives_exit}
use Rattle.std.proofs.Common.{◌-◌}
use Rattle.smv_parse.proofs.module_sections.module_rest.Goals as goal

pub returns-in_err-name-clause-reads : goal.returns-in_err-name-clause-reads
unfolding module_rest
returns-in_err-name-clause-reads c =
    gives_exit _ (module_rest c.args.high c.args.tokens.now) (name c.args.high c.args.tokens.now) _ _ (err_from_is_err_and c.from_residual.result c.from_residual.ensures.1) (λ n e. mapped_dies _ _ (both_dies_first _ _ e)) (c.in_err-name.ensures.reads c.args.high)

pub returns-in_err-parameters-clause-reads : goal.returns-in_err-parameters-clause-reads
unfolding module_rest
returns-in_err-parameters-clause-reads c =
    gives_exit _ (module_rest c.args.high c.args.tokens.now) (bracketed parameter c.args.high c.in_ok-name.rest.now) _ _ (err_from_is_err_and c.from_residual-in_err-parameters.result c.from_residual-in_err-parameters.ensures.1) (λ n e. mapped_dies _ _ (both_dies _ _ (c.in_ok-name.ensures.reads c.args.high) (both_dies_first _ _ e))) (c.in_err-parameters.ensures.reads c.args.high)

pub returns-in_err-elements-clause-reads : goal.returns-in_err-elements-clause-reads
unfolding module_rest counted
returns-in_err-elements-clause-reads c =
    gives_exit _ (module_rest c.args.high c.args.tokens.now) (many element_pick c.args.high c.in_ok-parameters.body.now) _ _ (err_from_is_err_and c.from_residual-in_err-elements.result c.from_residual-in_err-elements.ensures.1) (λ n e. mapped_dies _ _ (both_dies _ _ (c.in_ok-name.ensures.reads c.args.high) (both_dies _ _ (c.in_ok-parameters.ensures.reads c.args.high) (told_dies (λ xs ys. length xs - length ys) (many element_pick) e)))) c.in_err-elements.ensures.reads

pub returns-clause-reads : goal.returns-clause-reads
unfolding module_rest counted
returns-clause-reads c =
    mapped_reads _ _ (both_reads _ _ (c.in_ok-name.ensures.reads c.args.high) (both_reads _ _ (c.in_ok-parameters.ensures.reads c.args.high) (told_reads (λ xs ys. length xs - length ys) (many element_pick) c.in_ok-elements.ensures.reads)))
