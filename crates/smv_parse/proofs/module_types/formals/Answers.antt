use Rattle.std.proofs.Common.{sym, ap, ◌∙◌}
use Rattle.smv_text.specs.declared.token.Sign.TheVariants as signs
use Rattle.smv_grammar.specs.Readers.{found}
use Rattle.smv_grammar.specs.Rules.{listed, bracketed, parameter}
use Rattle.smv_parse.proofs.Leads.{gives_same}
use Rattle.smv_parse.proofs.Turns.{bracketed_none, bracketed_empty, bracketed_some}
use Rattle.smv_parse.proofs.module_types.formals.Goals as goal

pub returns-in-None-clause-reads : goal.returns-in-None-clause-reads
returns-in-None-clause-reads c h =
    bracketed_none parameter h c.args.tokens.now (sym c.in-None.ensures.found) ∙ ap (λ z. found z h c.args.tokens.now) (sym c.new.ensures)

pub returns-in-Some-tokens_after-clause-reads : goal.returns-in-Some-tokens_after-clause-reads
returns-in-Some-tokens_after-clause-reads c h =
    bracketed_empty parameter h c.args.tokens.now c.in-Some.rest.now c.in-Some-tokens_after.last.now (sym c.in-Some.ensures.found) (sym c.in-Some-tokens_after.ensures.found) ∙ ap (λ z. found z h c.in-Some-tokens_after.last.now) (sym c.new-in-Some-tokens_after.ensures)

pub returns-in-None-tokens_after-clause-reads : goal.returns-in-None-tokens_after-clause-reads
returns-in-None-tokens_after-clause-reads c h =
    gives_same _ (bracketed parameter h c.args.tokens.now) (listed parameter signs.Close h c.in-Some.rest.now) _ (bracketed_some parameter h c.args.tokens.now c.in-Some.rest.now (sym c.in-Some.ensures.found) (sym c.in-None-tokens_after.ensures.found)) (c.parameters.ensures.reads h)
