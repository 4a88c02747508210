use Rattle.std.proofs.Common.{◌≡◌, [], ◌∷◌, ◌++◌, sym, ap, ◌∙◌, rules}
use Rattle.std.proofs.lemmas.Result.{err_from_is_err_and}
use Rattle.smv_text.specs.declared.token.Sign.TheVariants as signs
use Rattle.smv_grammar.specs.Readers.{many}
use Rattle.smv_grammar.specs.Rules.{sign, behind, listed, member}
use Rattle.smv_parse.proofs.Leads.{gives_exit, misses_loses, onto, closed_by, listed_goes, listed_dies, onto_first, comma_steps, comma_dies, comma_ends, list_closes, list_dies}
use Rattle.smv_parse.proofs.Shrinking.{member_shrinks}
use Rattle.smv_parse.proofs.module_types.members.Goals as goal

pub returns-in_err-first-clause-reads : goal.returns-in_err-first-clause-reads
returns-in_err-first-clause-reads c h =
    gives_exit _ (listed member signs.CloseBrace h c.args.tokens.now) (member h c.args.tokens.now) _ _ (err_from_is_err_and c.from_residual.result c.from_residual.ensures.1) (λ n e. listed_dies member signs.CloseBrace h c.args.tokens.now n e) (c.in_err-first.ensures.reads h)

pub loop-more-init : goal.loop-more-init
loop-more-init c =
    let pushed : c.push.new.self ≡ c.in_ok-first.first ∷ [] = search rules in
    record {
      reads = λ h. listed_goes member signs.CloseBrace h c.args.tokens.now c.in_ok-first.first h c.in_ok-first.rest.now (c.in_ok-first.ensures.reads h) ∙ ap (λ vs. closed_by signs.CloseBrace (onto vs (many (behind signs.Comma member) h c.in_ok-first.rest.now))) (sym pushed);
      within = search rules;
    }

pub returns-in_err-next-clause-reads : goal.returns-in_err-next-clause-reads
returns-in_err-next-clause-reads c h =
    gives_exit _ (listed member signs.CloseBrace h c.args.tokens.now) (member h c.in-Some.more.now) _ _ (err_from_is_err_and c.from_residual-in_err-next.result c.from_residual-in_err-next.ensures.1) (λ n e. c.loop-more.invariant.reads h ∙ ap (λ o. closed_by signs.CloseBrace (onto c.loop-more.all o)) (comma_dies member h c.loop-more.rest.now c.in-Some.more.now (sym c.in-Some.ensures.found) n e)) (c.in_err-next.ensures.reads h)

pub loop-more-preserved : goal.loop-more-preserved
loop-more-preserved c =
    let pushed : c.push-in-Some.new.self ≡ c.loop-more.all ++ c.in_ok-next.next ∷ [] = search rules in
    record {
      reads = λ h. c.loop-more.invariant.reads h ∙ ap (λ o. closed_by signs.CloseBrace (onto c.loop-more.all o)) (comma_steps member member_shrinks h c.loop-more.rest.now c.in-Some.more.now (sym c.in-Some.ensures.found) c.in_ok-next.next h c.in_ok-next.last.now (c.in_ok-next.ensures.reads h))
          ∙ ap (closed_by signs.CloseBrace) (onto_first c.loop-more.all c.in_ok-next.next (many (behind signs.Comma member) h c.in_ok-next.last.now) ∙ ap (λ vs. onto vs (many (behind signs.Comma member) h c.in_ok-next.last.now)) (sym pushed));
      within = search rules;
    }

pub returns-in_err-last-clause-reads : goal.returns-in_err-last-clause-reads
returns-in_err-last-clause-reads c h =
    gives_exit _ (listed member signs.CloseBrace h c.args.tokens.now) (sign signs.CloseBrace h c.loop-more.rest.now) _ _ (err_from_is_err_and c.from_residual-in_err-last.result c.from_residual-in_err-last.ensures.1) (λ n e. c.loop-more.invariant.reads h ∙ ap (λ o. closed_by signs.CloseBrace (onto c.loop-more.all o)) (comma_ends member h c.loop-more.rest.now (sym c.in_default.ensures.found)) ∙ list_dies signs.CloseBrace c.loop-more.all h c.loop-more.rest.now n e) (misses_loses signs.CloseBrace h c.loop-more.rest.now _ c.in_err-last.ensures.passes)

pub returns-clause-reads : goal.returns-clause-reads
returns-clause-reads c h =
    c.loop-more.invariant.reads h ∙ ap (λ o. closed_by signs.CloseBrace (onto c.loop-more.all o)) (comma_ends member h c.loop-more.rest.now (sym c.in_default.ensures.found)) ∙ list_closes signs.CloseBrace c.loop-more.all h c.loop-more.rest.now c.in_ok-last.last.now c.in_ok-last.ensures.passes
