use Rattle.std.proofs.Common.{◌≡◌, [], ◌∷◌, ◌++◌, map, sym, ap, ◌∙◌, rules}
use Rattle.std.proofs.lemmas.Result.{err_from_is_err_and}
use Rattle.smv_text.specs.View.{plain_definition}
use Rattle.smv_parse.specs.Answers.{is_name}
use Rattle.smv_grammar.specs.Readers.{found, fail, either, many}
use Rattle.smv_grammar.specs.Rules.{definition_pick}
use Rattle.smv_parse.proofs.Leads.{gives_exit, onto, onto_first, map_push, many_ends, part_steps, part_dies, test_fails}
use Rattle.smv_parse.proofs.Turns.{definition_agrees}
use Rattle.std.proofs.lemmas.List.{append-nil}
use Rattle.smv_parse.proofs.Shrinking.{definition_shrinks}
use Rattle.smv_parse.proofs.module_sections.definitions.Goals as goal

pub returns-in_err-next-clause-reads : goal.returns-in_err-next-clause-reads
returns-in_err-next-clause-reads c =
    gives_exit _ (many definition_pick c.args.high c.args.tokens.now) (either definition_pick fail c.loop-alloc.high c.loop-alloc.rest.now) _ _ (err_from_is_err_and c.from_residual.result c.from_residual.ensures.1) (λ n e. c.loop-alloc.invariant.reads ∙ ap (onto (map plain_definition c.loop-alloc.all)) (part_dies definition_pick is_name definition_agrees c.loop-alloc.high c.loop-alloc.rest.now (sym c.first_is_name.ensures ∙ c.loop-alloc-test.true) n e)) c.in_err-next.ensures.reads

pub loop-alloc-preserved : goal.loop-alloc-preserved
loop-alloc-preserved c =
    let pushed : c.push.new.self ≡ c.loop-alloc.all ++ c.in_ok-next.next ∷ [] = search rules in
    record {
      reads = c.loop-alloc.invariant.reads ∙ ap (onto (map plain_definition c.loop-alloc.all)) (part_steps definition_pick definition_shrinks is_name definition_agrees c.loop-alloc.high c.loop-alloc.rest.now (sym c.first_is_name.ensures ∙ c.loop-alloc-test.true) (plain_definition c.in_ok-next.next) c.in_ok-next.so_far c.in_ok-next.last.now c.in_ok-next.ensures.reads)
          ∙ onto_first (map plain_definition c.loop-alloc.all) (plain_definition c.in_ok-next.next) (many definition_pick c.in_ok-next.so_far c.in_ok-next.last.now) ∙ ap (λ vs. onto vs (many definition_pick c.in_ok-next.so_far c.in_ok-next.last.now)) (sym (ap (map plain_definition) pushed ∙ map_push plain_definition c.loop-alloc.all c.in_ok-next.next));
      within = search rules;
    }

pub returns-clause-reads : goal.returns-clause-reads
returns-clause-reads c =
    c.loop-alloc.invariant.reads ∙ ap (onto (map plain_definition c.loop-alloc.all)) (many_ends definition_pick c.loop-alloc.high c.loop-alloc.rest.now (test_fails definition_pick is_name definition_agrees c.loop-alloc.rest.now (sym c.first_is_name.ensures ∙ c.loop-alloc-test.false))) ∙ ap (λ z. found z c.loop-alloc.high c.loop-alloc.rest.now) (append-nil (map plain_definition c.loop-alloc.all))
