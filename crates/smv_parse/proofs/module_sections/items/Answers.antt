use Rattle.std.proofs.Common.{◌≡◌, [], ◌∷◌, ◌++◌, map, sym, ap, ◌∙◌, rules}
use Rattle.std.proofs.lemmas.Result.{err_from_is_err_and}
use Rattle.smv_text.specs.View.{plain_item}
use Rattle.smv_parse.specs.Answers.{is_name}
use Rattle.smv_grammar.specs.Readers.{found, fail, either, many}
use Rattle.smv_grammar.specs.Rules.{item_pick}
use Rattle.smv_parse.proofs.Leads.{gives_exit, onto, onto_first, map_push, many_ends, part_steps, part_dies, test_fails}
use Rattle.smv_parse.proofs.Turns.{item_agrees}
use Rattle.std.proofs.lemmas.List.{append-nil}
use Rattle.smv_parse.proofs.Shrinking.{item_shrinks}
use Rattle.smv_parse.proofs.module_sections.items.Goals as goal

pub returns-in_err-next-clause-reads : goal.returns-in_err-next-clause-reads
returns-in_err-next-clause-reads c =
    gives_exit _ (many (item_pick c.args.kind) c.args.high c.args.tokens.now) (either (item_pick c.args.kind) fail c.loop-alloc.high c.loop-alloc.rest.now) _ _ (err_from_is_err_and c.from_residual.result c.from_residual.ensures.1) (λ n e. c.loop-alloc.invariant.reads ∙ ap (onto (map plain_item c.loop-alloc.all)) (part_dies (item_pick c.args.kind) is_name (item_agrees c.args.kind) c.loop-alloc.high c.loop-alloc.rest.now (sym c.first_is_name.ensures ∙ c.loop-alloc-test.true) n e)) c.in_err-next.ensures.reads

pub loop-alloc-preserved : goal.loop-alloc-preserved
loop-alloc-preserved c =
    let pushed : c.push.new.self ≡ c.loop-alloc.all ++ c.in_ok-next.next ∷ [] = search rules in
    record {
      reads = c.loop-alloc.invariant.reads ∙ ap (onto (map plain_item c.loop-alloc.all)) (part_steps (item_pick c.args.kind) (item_shrinks c.args.kind) is_name (item_agrees c.args.kind) c.loop-alloc.high c.loop-alloc.rest.now (sym c.first_is_name.ensures ∙ c.loop-alloc-test.true) (plain_item c.in_ok-next.next) c.in_ok-next.so_far c.in_ok-next.last.now c.in_ok-next.ensures.reads)
          ∙ onto_first (map plain_item c.loop-alloc.all) (plain_item c.in_ok-next.next) (many (item_pick c.args.kind) c.in_ok-next.so_far c.in_ok-next.last.now) ∙ ap (λ vs. onto vs (many (item_pick c.args.kind) c.in_ok-next.so_far c.in_ok-next.last.now)) (sym (ap (map plain_item) pushed ∙ map_push plain_item c.loop-alloc.all c.in_ok-next.next));
      within = search rules;
    }

pub returns-clause-reads : goal.returns-clause-reads
returns-clause-reads c =
    c.loop-alloc.invariant.reads ∙ ap (onto (map plain_item c.loop-alloc.all)) (many_ends (item_pick c.args.kind) c.loop-alloc.high c.loop-alloc.rest.now (test_fails (item_pick c.args.kind) is_name (item_agrees c.args.kind) c.loop-alloc.rest.now (sym c.first_is_name.ensures ∙ c.loop-alloc-test.false))) ∙ ap (λ z. found z c.loop-alloc.high c.loop-alloc.rest.now) (append-nil (map plain_item c.loop-alloc.all))
