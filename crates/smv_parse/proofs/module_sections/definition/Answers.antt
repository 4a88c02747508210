use Rattle.std.proofs.Common.{refl, ◌∙◌}
use Rattle.std.proofs.lemmas.Result.{err_from_is_err_and}
use Rattle.smv_grammar.specs.Readers.{fail, either}
use Rattle.smv_grammar.specs.Rules.{name, body, definition_pick}
use Rattle.smv_grammar.proofs.Mapped.{mapped_reads, mapped_dies}
use Rattle.smv_parse.proofs.Leads.{gives_exit}
use Rattle.smv_parse.proofs.Turns.{name_goes, name_fails, definition_nameless}
use Rattle.smv_parse.proofs.module_sections.definition.Goals as goal

pub returns-in_err-name-clause-reads : goal.returns-in_err-name-clause-reads
returns-in_err-name-clause-reads c =
    gives_exit _ (either definition_pick fail c.args.high c.args.tokens.now) (name c.args.high c.args.tokens.now) _ _ (err_from_is_err_and c.from_residual.result c.from_residual.ensures.1) (λ n e. name_fails definition_pick definition_nameless c.args.high c.args.tokens.now n e) (c.in_err-name.ensures.reads c.args.high)

pub returns-in_err-body-clause-reads : goal.returns-in_err-body-clause-reads
returns-in_err-body-clause-reads c =
    gives_exit _ (either definition_pick fail c.args.high c.args.tokens.now) (body c.args.high c.in_ok-name.rest.now) _ _ (err_from_is_err_and c.from_residual-in_err-body.result c.from_residual-in_err-body.ensures.1) (λ n e. name_goes definition_pick _ (λ n p. refl) c.args.high c.args.high c.args.tokens.now _ c.in_ok-name.rest.now (c.in_ok-name.ensures.reads c.args.high) ∙ mapped_dies _ _ e) c.in_err-body.ensures.reads

pub returns-clause-reads : goal.returns-clause-reads
returns-clause-reads c =
    name_goes definition_pick _ (λ n p. refl) c.args.high c.args.high c.args.tokens.now _ c.in_ok-name.rest.now (c.in_ok-name.ensures.reads c.args.high) ∙ mapped_reads _ _ c.in_ok-body.ensures.reads
