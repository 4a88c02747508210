use Rattle.std.proofs.Common.{◌≡◌, [], ◌∷◌, ◌++◌, map, sym, ap, ◌∙◌, rules}
use Rattle.std.proofs.lemmas.Result.{err_from_is_err_and}
use Rattle.smv_text.specs.View.{plain_assignment}
use Rattle.smv_parse.specs.Answers.{begins_target}
use Rattle.smv_grammar.specs.Readers.{found, fail, either, many}
use Rattle.smv_grammar.specs.Rules.{assignment_pick}
use Rattle.smv_parse.proofs.Leads.{gives_exit, onto, onto_first, map_push, many_ends, part_steps, part_dies, test_fails}
use Rattle.smv_parse.proofs.Turns.{assignment_agrees}
use Rattle.std.proofs.lemmas.List.{append-nil}
use Rattle.smv_parse.proofs.Shrinking.{assignment_shrinks}
use Rattle.smv_parse.proofs.module_sections.assignments.Goals as goal

pub returns-in_err-next-clause-reads : goal.returns-in_err-next-clause-reads
returns-in_err-next-clause-reads c =
    gives_exit _ (many assignment_pick c.args.high c.args.tokens.now) (either assignment_pick fail c.loop-alloc.high c.loop-alloc.rest.now) _ _ (err_from_is_err_and c.from_residual.result c.from_residual.ensures.1) (λ n e. c.loop-alloc.invariant.reads ∙ ap (onto (map plain_assignment c.loop-alloc.all)) (part_dies assignment_pick begins_target assignment_agrees c.loop-alloc.high c.loop-alloc.rest.now (sym c.first_is_target.ensures ∙ c.loop-alloc-test.true) n e)) c.in_err-next.ensures.reads

pub loop-alloc-preserved : goal.loop-alloc-preserved
loop-alloc-preserved c =
    let pushed : c.push.new.self ≡ c.loop-alloc.all ++ c.in_ok-next.next ∷ [] = search rules in
    record {
      reads = c.loop-alloc.invariant.reads ∙ ap (onto (map plain_assignment c.loop-alloc.all)) (part_steps assignment_pick assignment_shrinks begins_target assignment_agrees c.loop-alloc.high c.loop-alloc.rest.now (sym c.first_is_target.ensures ∙ c.loop-alloc-test.true) (plain_assignment c.in_ok-next.next) c.in_ok-next.so_far c.in_ok-next.last.now c.in_ok-next.ensures.reads)
          ∙ onto_first (map plain_assignment c.loop-alloc.all) (plain_assignment c.in_ok-next.next) (many assignment_pick c.in_ok-next.so_far c.in_ok-next.last.now) ∙ ap (λ vs. onto vs (many assignment_pick c.in_ok-next.so_far c.in_ok-next.last.now)) (sym (ap (map plain_assignment) pushed ∙ map_push plain_assignment c.loop-alloc.all c.in_ok-next.next));
      within = search rules;
    }

pub returns-clause-reads : goal.returns-clause-reads
returns-clause-reads c =
    c.loop-alloc.invariant.reads ∙ ap (onto (map plain_assignment c.loop-alloc.all)) (many_ends assignment_pick c.loop-alloc.high c.loop-alloc.rest.now (test_fails assignment_pick begins_target assignment_agrees c.loop-alloc.rest.now (sym c.first_is_target.ensures ∙ c.loop-alloc-test.false))) ∙ ap (λ z. found z c.loop-alloc.high c.loop-alloc.rest.now) (append-nil (map plain_assignment c.loop-alloc.all))
