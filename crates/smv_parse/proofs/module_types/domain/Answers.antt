use Rattle.std.proofs.Common.{suc, ◌∷◌, length, refl, sym, ap, ◌∙◌, rules}
use Rattle.std.proofs.lemmas.Result.{err_from_is_err_and}
use Rattle.smv_text.specs.declared.token.Sign.TheVariants as signs
use Rattle.smv_text.specs.declared.token.TokenKind.TheVariants as kind
use Rattle.smv_grammar.specs.Readers.{died, picked}
use Rattle.smv_grammar.specs.Rules.{listed, member, interval, instance_pick, domain_pick, domain}
use Rattle.smv_grammar.proofs.Mapped.{mapped_reads, mapped_dies}
use Rattle.smv_parse.proofs.Leads.{gives_exit, gives_same, none_left}
use Rattle.smv_parse.proofs.Turns.{no_brace, no_domain, domain_ends, domain_passes, domain_at}
use Rattle.smv_parse.proofs.module_types.domain.Goals as goal

pub returns-in_err-domain-in-Reserved-clause-reads : goal.returns-in_err-domain-in-Reserved-clause-reads
returns-in_err-domain-in-Reserved-clause-reads c =
    gives_exit _ (domain c.args.kind c.args.high c.args.tokens.now) (picked (domain_pick c.args.kind (kind.Reserved c.in-Reserved.word) c.in-Some.token.now.place) c.args.high c.in-Some.rest.now (died (suc (length c.in-Some.rest.now)))) _ _ (err_from_is_err_and c.from_residual.result c.from_residual.ensures.1) (λ n e. ap (domain c.args.kind c.args.high) c.in-Some.ensures.cases.0 ∙ domain_at c.args.kind c.args.high c.in-Some.token.now c.in-Some.rest.now (kind.Reserved c.in-Reserved.word) (c.in-Reserved.is) refl ∙ e) (c.in_err-domain-in-Reserved.ensures.reads c.args.high c.args.kind c.in-Some.token.now.place)

pub returns-in_ok-domain-in-Reserved-clause-reads : goal.returns-in_ok-domain-in-Reserved-clause-reads
returns-in_ok-domain-in-Reserved-clause-reads c =
    ap (domain c.args.kind c.args.high) c.in-Some.ensures.cases.0 ∙ domain_at c.args.kind c.args.high c.in-Some.token.now c.in-Some.rest.now (kind.Reserved c.in-Reserved.word) (c.in-Reserved.is) refl ∙ c.in_ok-domain-in-Reserved.ensures.reads c.args.high c.args.kind c.in-Some.token.now.place

pub returns-in_err-all-in-OpenBrace-clause-reads : goal.returns-in_err-all-in-OpenBrace-clause-reads
returns-in_err-all-in-OpenBrace-clause-reads c =
    gives_exit _ (domain c.args.kind c.args.high c.args.tokens.now) (listed member signs.CloseBrace c.args.high c.in-Some.rest.now) _ _ (err_from_is_err_and c.from_residual-in_err-all-in-OpenBrace.result c.from_residual-in_err-all-in-OpenBrace.ensures.1) (λ n e. ap (domain c.args.kind c.args.high) c.in-Some.ensures.cases.0 ∙ domain_at c.args.kind c.args.high c.in-Some.token.now c.in-Some.rest.now (kind.Sign signs.OpenBrace) (c.in-Sign.is ∙ ap kind.Sign c.in-OpenBrace.is) refl ∙ mapped_dies _ _ e) (c.in_err-all-in-OpenBrace.ensures.reads c.args.high)

pub returns-in_ok-all-in-OpenBrace-clause-reads : goal.returns-in_ok-all-in-OpenBrace-clause-reads
returns-in_ok-all-in-OpenBrace-clause-reads c =
    ap (domain c.args.kind c.args.high) c.in-Some.ensures.cases.0 ∙ domain_at c.args.kind c.args.high c.in-Some.token.now c.in-Some.rest.now (kind.Sign signs.OpenBrace) (c.in-Sign.is ∙ ap kind.Sign c.in-OpenBrace.is) refl ∙ mapped_reads _ _ (c.in_ok-all-in-OpenBrace.ensures.reads c.args.high)

pub returns-in-None-clause-reads : goal.returns-in-None-clause-reads
returns-in-None-clause-reads c =
    let none = none_left c.args.tokens.now c.in-None.ensures.cases in ap (domain c.args.kind c.args.high) none ∙ domain_ends c.args.kind c.args.high

pub returns-in-Ident-clause-reads : goal.returns-in-Ident-clause-reads
returns-in-Ident-clause-reads c =
    gives_same _ (domain c.args.kind c.args.high c.args.tokens.now) (picked (instance_pick c.args.kind c.in-Ident.module) c.args.high c.in-Some.rest.now (died (suc (length c.in-Some.rest.now)))) _ (ap (domain c.args.kind c.args.high) c.in-Some.ensures.cases.0 ∙ domain_at c.args.kind c.args.high c.in-Some.token.now c.in-Some.rest.now (kind.Ident c.in-Ident.module) (c.in-Ident.is) refl) c.instance.ensures.reads

pub returns-in_default-sign : goal.returns-in_default-sign
returns-in_default-sign c = record {
  reads = gives_same _ (domain c.args.kind c.args.high c.args.tokens.now) (interval c.args.high c.args.tokens.now) _ (ap (domain c.args.kind c.args.high) c.in-Some.ensures.cases.0 ∙ domain_passes c.args.kind c.args.high (c.in-Some.token.now ∷ c.in-Some.rest.now) (ap (λ t. domain_pick c.args.kind t c.in-Some.token.now.place) c.in-Sign.is ∙ no_brace c.args.kind c.in-Sign.sign c.in-Some.token.now.place c.in_default-sign.not-OpenBrace) ∙ ap (interval c.args.high) (sym c.in-Some.ensures.cases.0)) c.bounds.ensures.reads;
  within = search rules;
}

pub returns-in_default-clause-reads : goal.returns-in_default-clause-reads
returns-in_default-clause-reads c =
    gives_same _ (domain c.args.kind c.args.high c.args.tokens.now) (interval c.args.high c.args.tokens.now) _ (ap (domain c.args.kind c.args.high) c.in-Some.ensures.cases.0 ∙ domain_passes c.args.kind c.args.high (c.in-Some.token.now ∷ c.in-Some.rest.now) (no_domain c.args.kind c.in-Some.token.now.kind c.in-Some.token.now.place c.in_default.not-Reserved c.in_default.not-Ident c.in_default.not-Sign) ∙ ap (interval c.args.high) (sym c.in-Some.ensures.cases.0)) c.bounds-in_default.ensures.reads
