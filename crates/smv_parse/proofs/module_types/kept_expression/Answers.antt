use Rattle.std.proofs.Common.{sym, ap, ◌∙◌}
use Rattle.std.proofs.lemmas.Result.{err_from_is_err_and}
use Rattle.smv_text.specs.View.{plain}
use Rattle.smv_grammar.specs.Readers.{found, expression}
use Rattle.smv_parse.proofs.Leads.{gives_exit}
use Rattle.smv_grammar.specs.Readers.{high_or}
use Rattle.smv_expressions.specs.Gathered.{read_of}
use Rattle.smv_grammar.proofs.Asked.{expression_reads}
use Rattle.smv_parse.proofs.Ending.{expression_loses}
use Rattle.smv_parse.proofs.module_types.kept_expression.Goals as goal

pub returns-in_err-rest-clause-reads : goal.returns-in_err-rest-clause-reads
returns-in_err-rest-clause-reads c =
    gives_exit _ (expression c.args.high c.args.tokens.now) (expression c.args.high c.args.tokens.now) _ _ (err_from_is_err_and c.from_residual.result c.from_residual.ensures.1) (λ n e. e) (expression_loses c.args.high c.args.tokens.now _ c.in_err-rest.ensures.takes)

pub returns-clause-reads : goal.returns-clause-reads
returns-clause-reads c =
    expression_reads c.args.high c.args.tokens.now c.in_ok-rest.rest.now (read_of c.expression.new.kept) c.in_ok-rest.ensures.takes
    ∙ ap (λ z. found (plain c.expression.new.kept.expr) z c.in_ok-rest.rest.now) (ap (high_or c.args.high c.expression.new.kept.height) (sym c.place_of.ensures) ∙ sym c.high_after-high_now.ensures)
