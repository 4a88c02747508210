use Rattle.std.proofs.Common.{◌≡◌, [], ◌∷◌, ◌++◌, map, sym, ap, ◌∙◌, rules}
use Rattle.std.proofs.lemmas.Result.{err_from_is_err_and}
use Rattle.smv_text.specs.declared.token.Reserved.TheVariants as words
use Rattle.smv_text.specs.View.{plain_module}
use Rattle.smv_grammar.specs.Readers.{found, many}
use Rattle.smv_grammar.specs.Rules.{module_rest, module_pick}
use Rattle.smv_parse.proofs.Leads.{gives_exit, word_found, onto, onto_first, map_push, many_steps, many_dies, many_ends}
use Rattle.std.proofs.lemmas.List.{append-nil}
use Rattle.smv_parse.proofs.Shrinking.{module_shrinks, no_module}
use Rattle.smv_parse.proofs.module_sections.modules.Goals as goal

pub returns-in_err-next-clause-reads : goal.returns-in_err-next-clause-reads
returns-in_err-next-clause-reads c =
    gives_exit _ (many module_pick c.args.high c.args.tokens.now) (module_rest c.loop-more.high c.in-Some.more.now) _ _ (err_from_is_err_and c.from_residual.result c.from_residual.ensures.1) (λ n e. let f = word_found words.Module c.loop-more.rest.now c.in-Some.more.now (sym c.in-Some.ensures.found) in c.loop-more.invariant.reads ∙ ap (onto (map plain_module c.loop-more.all)) (ap (many module_pick c.loop-more.high) f.1 ∙ many_dies module_pick c.loop-more.high f.0 c.in-Some.more.now module_rest (ap (λ k. module_pick k f.0.place) f.2) n e)) c.in_err-next.ensures.reads

pub loop-more-preserved : goal.loop-more-preserved
loop-more-preserved c =
    let pushed : c.push.new.self ≡ c.loop-more.all ++ c.in_ok-next.next ∷ [] = search rules in
    let f = word_found words.Module c.loop-more.rest.now c.in-Some.more.now (sym c.in-Some.ensures.found) in
    record {
      reads = c.loop-more.invariant.reads ∙ ap (onto (map plain_module c.loop-more.all)) (ap (many module_pick c.loop-more.high) f.1 ∙ many_steps module_pick module_shrinks c.loop-more.high f.0 c.in-Some.more.now module_rest (ap (λ k. module_pick k f.0.place) f.2) (plain_module c.in_ok-next.next) c.in_ok-next.so_far c.in_ok-next.last.now c.in_ok-next.ensures.reads)
          ∙ onto_first (map plain_module c.loop-more.all) (plain_module c.in_ok-next.next) (many module_pick c.in_ok-next.so_far c.in_ok-next.last.now) ∙ ap (λ vs. onto vs (many module_pick c.in_ok-next.so_far c.in_ok-next.last.now)) (sym (ap (map plain_module) pushed ∙ map_push plain_module c.loop-more.all c.in_ok-next.next));
      within = search rules;
    }

pub returns-clause-reads : goal.returns-clause-reads
returns-clause-reads c =
    c.loop-more.invariant.reads ∙ ap (onto (map plain_module c.loop-more.all)) (many_ends module_pick c.loop-more.high c.loop-more.rest.now (no_module c.loop-more.rest.now (sym c.in_default.ensures.found))) ∙ ap (λ z. found z c.loop-more.high c.loop-more.rest.now) (append-nil (map plain_module c.loop-more.all))
