use Rattle.std.proofs.Common.{suc, [], ◌∷◌, length, sym, ap, ◌∙◌}
use Rattle.smv_text.specs.declared.token.TokenKind.TheVariants as kind
use Rattle.smv_grammar.specs.Readers.{died, fail, picked, either}
use Rattle.smv_grammar.specs.Rules.{element_pick}
use Rattle.smv_grammar.proofs.Choices.{either_passes}
use Rattle.smv_parse.proofs.Leads.{gives_same, none_left}
use Rattle.smv_parse.proofs.Turns.{no_word, element_at}
use Rattle.smv_parse.proofs.module_sections.element.Goals as goal

pub returns-in-None-clause-reads : goal.returns-in-None-clause-reads
returns-in-None-clause-reads c =
    let none = none_left c.args.tokens.now c.in-None.ensures.cases in ap (either element_pick fail c.args.high) none ∙ either_passes element_pick fail c.args.high [] tt

pub returns-in-Reserved-clause-reads : goal.returns-in-Reserved-clause-reads
returns-in-Reserved-clause-reads c =
    gives_same _ (either element_pick fail c.args.high c.args.tokens.now) (picked (element_pick (kind.Reserved c.in-Reserved.word) c.in-Some.token.now.place) c.args.high c.in-Some.rest.now (died (suc (length c.in-Some.rest.now)))) _ (ap (either element_pick fail c.args.high) c.in-Some.ensures.cases.0 ∙ element_at c.args.high c.in-Some.token.now c.in-Some.rest.now (kind.Reserved c.in-Reserved.word) c.in-Reserved.is) (c.section.ensures.reads c.in-Some.token.now.place)

pub returns-in_default : goal.returns-in_default
returns-in_default c = record {
  reads = ap (either element_pick fail c.args.high) c.in-Some.ensures.cases.0 ∙ either_passes element_pick fail c.args.high (c.in-Some.token.now ∷ c.in-Some.rest.now) (no_word c.in-Some.token.now.kind c.in-Some.token.now.place c.in_default.not-Reserved) ∙ ap (λ z. died (length z)) (sym c.in-Some.ensures.cases.0);
  shorter = tt;
}
