use Rattle.std.proofs.Common.{◌≡◌, [], ◌∷◌, ◌++◌, map, sym, ap, ◌∙◌, rules}
use Rattle.std.proofs.lemmas.Result.{err_from_is_err_and}
use Rattle.smv_text.specs.declared.token.Sign.TheVariants as signs
use Rattle.smv_text.specs.View.{plain}
use Rattle.smv_grammar.specs.Readers.{many, expression}
use Rattle.smv_grammar.specs.Rules.{sign, behind, listed}
use Rattle.smv_parse.proofs.Leads.{gives_exit, misses_loses, onto, closed_by, listed_goes, listed_dies, onto_first, map_push, comma_steps, comma_dies, comma_ends, list_closes, list_dies}
use Rattle.smv_parse.proofs.Shrinking.{expression_shrinks}
use Rattle.smv_parse.proofs.module_types.arguments.Goals as goal

pub returns-in_err-first-clause-reads : goal.returns-in_err-first-clause-reads
returns-in_err-first-clause-reads c =
    gives_exit _ (listed expression signs.Close c.args.high c.args.tokens.now) (expression c.args.high c.args.tokens.now) _ _ (err_from_is_err_and c.from_residual.result c.from_residual.ensures.1) (λ n e. listed_dies expression signs.Close c.args.high c.args.tokens.now n e) (c.in_err-first.ensures.reads)

pub loop-more-init : goal.loop-more-init
loop-more-init c =
    let e = c.in_ok-first.first in let pushed : c.push.new.self.items ≡ e ∷ [] = search rules in
    record {
      reads = listed_goes expression signs.Close c.args.high c.args.tokens.now (plain c.in_ok-first.first) c.in_ok-first.high c.in_ok-first.rest.now (c.in_ok-first.ensures.reads) ∙ ap (λ vs. closed_by signs.Close (onto vs (many (behind signs.Comma expression) c.in_ok-first.high c.in_ok-first.rest.now))) (ap (map plain) (sym pushed));
      within = search rules;
    }

pub returns-in_err-next-clause-reads : goal.returns-in_err-next-clause-reads
returns-in_err-next-clause-reads c =
    gives_exit _ (listed expression signs.Close c.args.high c.args.tokens.now) (expression c.loop-more.high c.in-Some.more.now) _ _ (err_from_is_err_and c.from_residual-in_err-next.result c.from_residual-in_err-next.ensures.1) (λ n e. c.loop-more.invariant.reads ∙ ap (λ o. closed_by signs.Close (onto (map plain c.loop-more.all.items) o)) (comma_dies expression c.loop-more.high c.loop-more.rest.now c.in-Some.more.now (sym c.in-Some.ensures.found) n e)) (c.in_err-next.ensures.reads)

pub loop-more-preserved : goal.loop-more-preserved
loop-more-preserved c =
    let e = c.in_ok-next.next in let pushed : c.push-in-Some.new.self.items ≡ c.loop-more.all.items ++ e ∷ [] = search rules in
    record {
      reads = c.loop-more.invariant.reads ∙ ap (λ o. closed_by signs.Close (onto (map plain c.loop-more.all.items) o)) (comma_steps expression expression_shrinks c.loop-more.high c.loop-more.rest.now c.in-Some.more.now (sym c.in-Some.ensures.found) (plain c.in_ok-next.next) c.in_ok-next.so_far c.in_ok-next.last.now (c.in_ok-next.ensures.reads))
          ∙ ap (closed_by signs.Close) (onto_first (map plain c.loop-more.all.items) (plain c.in_ok-next.next) (many (behind signs.Comma expression) c.in_ok-next.so_far c.in_ok-next.last.now) ∙ ap (λ vs. onto vs (many (behind signs.Comma expression) c.in_ok-next.so_far c.in_ok-next.last.now)) (sym (ap (map plain) pushed ∙ map_push plain c.loop-more.all.items e)));
      within = search rules;
    }

pub returns-in_err-last-clause-reads : goal.returns-in_err-last-clause-reads
returns-in_err-last-clause-reads c =
    gives_exit _ (listed expression signs.Close c.args.high c.args.tokens.now) (sign signs.Close c.loop-more.high c.loop-more.rest.now) _ _ (err_from_is_err_and c.from_residual-in_err-last.result c.from_residual-in_err-last.ensures.1) (λ n e. c.loop-more.invariant.reads ∙ ap (λ o. closed_by signs.Close (onto (map plain c.loop-more.all.items) o)) (comma_ends expression c.loop-more.high c.loop-more.rest.now (sym c.in_default.ensures.found)) ∙ list_dies signs.Close (map plain c.loop-more.all.items) c.loop-more.high c.loop-more.rest.now n e) (misses_loses signs.Close c.loop-more.high c.loop-more.rest.now _ c.in_err-last.ensures.passes)

pub returns-clause-reads : goal.returns-clause-reads
returns-clause-reads c =
    c.loop-more.invariant.reads ∙ ap (λ o. closed_by signs.Close (onto (map plain c.loop-more.all.items) o)) (comma_ends expression c.loop-more.high c.loop-more.rest.now (sym c.in_default.ensures.found)) ∙ list_closes signs.Close (map plain c.loop-more.all.items) c.loop-more.high c.loop-more.rest.now c.in_ok-last.last.now c.in_ok-last.ensures.passes
