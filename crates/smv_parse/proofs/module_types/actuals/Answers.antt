use Rattle.std.proofs.Common.{map, sym, ap, ◌∙◌}
use Rattle.smv_text.specs.declared.token.Sign.TheVariants as signs
use Rattle.smv_text.specs.View.{plain}
use Rattle.smv_grammar.specs.Readers.{found, expression}
use Rattle.smv_grammar.specs.Rules.{listed, bracketed}
use Rattle.smv_parse.proofs.Leads.{gives_same}
use Rattle.smv_parse.proofs.Turns.{bracketed_none, bracketed_empty, bracketed_some}
use Rattle.smv_parse.proofs.module_types.actuals.Goals as goal

pub returns-in-None-clause-reads : goal.returns-in-None-clause-reads
returns-in-None-clause-reads c =
    bracketed_none expression c.args.high c.args.tokens.now (sym c.in-None.ensures.found) ∙ ap (λ z. found (map plain z) c.args.high c.args.tokens.now) (sym c.new.ensures.items)

pub returns-in-Some-tokens_after-clause-reads : goal.returns-in-Some-tokens_after-clause-reads
returns-in-Some-tokens_after-clause-reads c =
    bracketed_empty expression c.args.high c.args.tokens.now c.in-Some.rest.now c.in-Some-tokens_after.last.now (sym c.in-Some.ensures.found) (sym c.in-Some-tokens_after.ensures.found) ∙ ap (λ z. found (map plain z) c.args.high c.in-Some-tokens_after.last.now) (sym c.new-in-Some-tokens_after.ensures.items)

pub returns-in-None-tokens_after-clause-reads : goal.returns-in-None-tokens_after-clause-reads
returns-in-None-tokens_after-clause-reads c =
    gives_same _ (bracketed expression c.args.high c.args.tokens.now) (listed expression signs.Close c.args.high c.in-Some.rest.now) _ (bracketed_some expression c.args.high c.args.tokens.now c.in-Some.rest.now (sym c.in-Some.ensures.found) (sym c.in-None-tokens_after.ensures.found)) c.arguments.ensures.reads
