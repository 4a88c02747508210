use Rattle.std.proofs.Common.{◌≡◌, [], ◌∷◌, ◌++◌, sym, ap, ◌∙◌, rules}
use Rattle.std.proofs.lemmas.Result.{err_from_is_err_and}
use Rattle.smv_text.specs.declared.token.Sign.TheVariants as signs
use Rattle.smv_grammar.specs.Readers.{many}
use Rattle.smv_grammar.specs.Rules.{sign, behind, listed, parameter}
use Rattle.smv_parse.proofs.Leads.{gives_exit, misses_loses, onto, closed_by, listed_goes, listed_dies, onto_first, comma_steps, comma_dies, comma_ends, list_closes, list_dies}
use Rattle.smv_parse.proofs.Shrinking.{parameter_shrinks}
use Rattle.smv_parse.proofs.module_types.parameters.Goals as goal

pub returns-in_err-first-clause-reads : goal.returns-in_err-first-clause-reads
returns-in_err-first-clause-reads c h =
    gives_exit _ (listed parameter signs.Close h c.args.tokens.now) (parameter h c.args.tokens.now) _ _ (err_from_is_err_and c.from_residual.result c.from_residual.ensures.1) (λ n e. listed_dies parameter signs.Close h c.args.tokens.now n e) (c.in_err-first.ensures.reads h)

pub loop-more-init : goal.loop-more-init
loop-more-init c =
    let pushed : c.push.new.self ≡ c.in_ok-first.first ∷ [] = search rules in
    record {
      reads = λ h. listed_goes parameter signs.Close h c.args.tokens.now c.in_ok-first.first h c.in_ok-first.rest.now (c.in_ok-first.ensures.reads h) ∙ ap (λ vs. closed_by signs.Close (onto vs (many (behind signs.Comma parameter) h c.in_ok-first.rest.now))) (sym pushed);
      within = search rules;
    }

pub returns-in_err-next-clause-reads : goal.returns-in_err-next-clause-reads
returns-in_err-next-clause-reads c h =
    gives_exit _ (listed parameter signs.Close h c.args.tokens.now) (parameter h c.in-Some.more.now) _ _ (err_from_is_err_and c.from_residual-in_err-next.result c.from_residual-in_err-next.ensures.1) (λ n e. c.loop-more.invariant.reads h ∙ ap (λ o. closed_by signs.Close (onto c.loop-more.all o)) (comma_dies parameter h c.loop-more.rest.now c.in-Some.more.now (sym c.in-Some.ensures.found) n e)) (c.in_err-next.ensures.reads h)

pub loop-more-preserved : goal.loop-more-preserved
loop-more-preserved c =
    let pushed : c.push-in-Some.new.self ≡ c.loop-more.all ++ c.in_ok-next.next ∷ [] = search rules in
    record {
      reads = λ h. c.loop-more.invariant.reads h ∙ ap (λ o. closed_by signs.Close (onto c.loop-more.all o)) (comma_steps parameter parameter_shrinks h c.loop-more.rest.now c.in-Some.more.now (sym c.in-Some.ensures.found) c.in_ok-next.next h c.in_ok-next.last.now (c.in_ok-next.ensures.reads h))
          ∙ ap (closed_by signs.Close) (onto_first c.loop-more.all c.in_ok-next.next (many (behind signs.Comma parameter) h c.in_ok-next.last.now) ∙ ap (λ vs. onto vs (many (behind signs.Comma parameter) h c.in_ok-next.last.now)) (sym pushed));
      within = search rules;
    }

pub returns-in_err-last-clause-reads : goal.returns-in_err-last-clause-reads
returns-in_err-last-clause-reads c h =
    gives_exit _ (listed parameter signs.Close h c.args.tokens.now) (sign signs.Close h c.loop-more.rest.now) _ _ (err_from_is_err_and c.from_residual-in_err-last.result c.from_residual-in_err-last.ensures.1) (λ n e. c.loop-more.invariant.reads h ∙ ap (λ o. closed_by signs.Close (onto c.loop-more.all o)) (comma_ends parameter h c.loop-more.rest.now (sym c.in_default.ensures.found)) ∙ list_dies signs.Close c.loop-more.all h c.loop-more.rest.now n e) (misses_loses signs.Close h c.loop-more.rest.now _ c.in_err-last.ensures.passes)

pub returns-clause-reads : goal.returns-clause-reads
returns-clause-reads c h =
    c.loop-more.invariant.reads h ∙ ap (λ o. closed_by signs.Close (onto c.loop-more.all o)) (comma_ends parameter h c.loop-more.rest.now (sym c.in_default.ensures.found)) ∙ list_closes signs.Close c.loop-more.all h c.loop-more.rest.now c.in_ok-last.last.now c.in_ok-last.ensures.passes
