use Rattle.std.proofs.Common.{refl, sym, ap, ◌∙◌, arith}
use Rattle.std.proofs.lemmas.Result.{err_from_is_err_and}
use Rattle.smv_text.specs.declared.token.Sign.TheVariants as signs
use Rattle.smv_text.specs.Grammar.{start}
use Rattle.smv_text.specs.View.{plain_domain}
use Rattle.smv_grammar.specs.Readers.{found, fail, either, placed}
use Rattle.smv_grammar.specs.Rules.{sign, name, domain, item, item_pick}
use Rattle.smv_grammar.proofs.Lawful.{both_reads, both_dies, both_dies_first}
use Rattle.smv_grammar.proofs.Mapped.{mapped_reads, mapped_dies, told_reads, told_dies}
use Rattle.smv_parse.proofs.Leads.{gives_exit, sign_after, misses_loses, after_shorter}
use Rattle.smv_parse.proofs.Turns.{name_goes, name_fails, item_nameless}
use Rattle.smv_parse.proofs.module_sections.item.Goals as goal

pub returns-in_err-name-clause-reads : goal.returns-in_err-name-clause-reads
returns-in_err-name-clause-reads c =
    gives_exit _ (either (item_pick c.args.kind) fail c.args.high c.args.tokens.now) (name c.args.high c.args.tokens.now) _ _ (err_from_is_err_and c.from_residual.result c.from_residual.ensures.1) (λ n e. name_fails (item_pick c.args.kind) (item_nameless c.args.kind) c.args.high c.args.tokens.now n e) (c.in_err-name.ensures.reads c.args.high)

pub returns-in_err-more-clause-reads : goal.returns-in_err-more-clause-reads
unfolding item
returns-in_err-more-clause-reads c =
    gives_exit _ (either (item_pick c.args.kind) fail c.args.high c.args.tokens.now) (sign signs.Colon c.args.high c.in_ok-name.rest.now) _ _ (err_from_is_err_and c.from_residual-in_err-more.result c.from_residual-in_err-more.ensures.1) (λ n e. name_goes (item_pick c.args.kind) _ (λ n p. refl) c.args.high c.args.high c.args.tokens.now _ c.in_ok-name.rest.now (c.in_ok-name.ensures.reads c.args.high) ∙ mapped_dies _ _ (both_dies_first _ _ e)) (misses_loses signs.Colon c.args.high c.in_ok-name.rest.now _ c.in_err-more.ensures.passes)

pub returns-in_err-domain-clause-reads : goal.returns-in_err-domain-clause-reads
unfolding item placed
returns-in_err-domain-clause-reads c =
    gives_exit _ (either (item_pick c.args.kind) fail c.args.high c.args.tokens.now) (domain c.args.kind c.args.high c.in_ok-more.more.now) _ _ (err_from_is_err_and c.from_residual-in_err-domain.result c.from_residual-in_err-domain.ensures.1) (λ n e. name_goes (item_pick c.args.kind) _ (λ n p. refl) c.args.high c.args.high c.args.tokens.now _ c.in_ok-name.rest.now (c.in_ok-name.ensures.reads c.args.high) ∙ mapped_dies _ _ (both_dies _ _ ((sign_after signs.Colon c.args.high c.in_ok-name.rest.now c.in_ok-more.more.now c.in_ok-more.ensures.passes).1) (both_dies_first _ _ (told_dies (λ xs ys. start xs) (domain c.args.kind) e)))) c.in_err-domain.ensures.reads

pub returns-in_err-last-clause-reads : goal.returns-in_err-last-clause-reads
unfolding item placed
returns-in_err-last-clause-reads c =
    gives_exit _ (either (item_pick c.args.kind) fail c.args.high c.args.tokens.now) (sign signs.Semicolon c.in_ok-domain.high c.in_ok-domain.rest.now) _ _ (err_from_is_err_and c.from_residual-in_err-last.result c.from_residual-in_err-last.ensures.1) (λ n e. name_goes (item_pick c.args.kind) _ (λ n p. refl) c.args.high c.args.high c.args.tokens.now _ c.in_ok-name.rest.now (c.in_ok-name.ensures.reads c.args.high) ∙ mapped_dies _ _ (both_dies _ _ ((sign_after signs.Colon c.args.high c.in_ok-name.rest.now c.in_ok-more.more.now c.in_ok-more.ensures.passes).1) (both_dies _ _ (told_reads (λ xs ys. start xs) (domain c.args.kind) c.in_ok-domain.ensures.reads) e))) (misses_loses signs.Semicolon c.in_ok-domain.high c.in_ok-domain.rest.now _ c.in_err-last.ensures.passes)

pub returns-clause-reads : goal.returns-clause-reads
unfolding item placed
returns-clause-reads c =
    name_goes (item_pick c.args.kind) _ (λ n p. refl) c.args.high c.args.high c.args.tokens.now _ c.in_ok-name.rest.now (c.in_ok-name.ensures.reads c.args.high) ∙ mapped_reads _ _ (both_reads _ _ ((sign_after signs.Colon c.args.high c.in_ok-name.rest.now c.in_ok-more.more.now c.in_ok-more.ensures.passes).1) (both_reads _ _ (told_reads (λ xs ys. start xs) (domain c.args.kind) c.in_ok-domain.ensures.reads) ((sign_after signs.Semicolon c.in_ok-domain.high c.in_ok-domain.rest.now c.in_ok-last.last.now c.in_ok-last.ensures.passes).1)))
    ∙ ap (λ z. found (record { name = c.in_ok-name.name; place = c.in_ok-name.place; domain = plain_domain c.in_ok-domain.domain; domain_place = z }) c.in_ok-domain.high c.in_ok-last.last.now) (sym c.start-domain_place.ensures)

pub returns-clause-shorter : goal.returns-clause-shorter
returns-clause-shorter c =
    let a = after_shorter signs.Colon c.in_ok-name.rest.now c.in_ok-more.more.now c.in_ok-more.ensures.passes in let b = after_shorter signs.Semicolon c.in_ok-domain.rest.now c.in_ok-last.last.now c.in_ok-last.ensures.passes in omega (arith, a, b, c.in_ok-domain.ensures.within, c.in_ok-name.ensures.shorter)
