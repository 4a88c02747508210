use Rattle.std.proofs.Common.{◌≡◌, ◌++◌, [], length, take, drop, sym, subst, ap, ◌∙◌}
use Rattle.std.proofs.lemmas.List.{nil_from_length, take-append-drop}
use Rattle.std.proofs.lemmas.Bool.{eqb-true}
use Rattle.std.proofs.lemmas.Result.{err_from_is_err_and}
use Rattle.text_core.specs.Places.{after}
use Rattle.smv_text.specs.Lexing.{LexesFrom, Lexes, Refuses, last, more, later, finished, go, opened}
use Rattle.smv_lex.specs.Reading.{behind}
use Rattle.smv_lex.proofs.Laws.{gap_end, after-append, next_from, refused_from, opened_more}
use Rattle.smv_lex.proofs.lexing.tokens_of.Goals as goal
use Rattle.text_core.proofs.PlaceLaws.{reaches_along}

pub returns-then-is_empty-clause-lexed : goal.returns-then-is_empty-clause-lexed
returns-then-is_empty-clause-lexed c =
    let rest = c.skip_gap.result.1.now in
    let items = c.tokens.tokens.items in
    let none : rest ≡ [] = nil_from_length rest (eqb-true (length rest) 0 (sym c.is_empty.ensures ∙ c.if-is_empty.true)) in
    let s = next_from c.tokens.opened (opened items) c.tokens.place c.tokens.rest.now c.skip_gap.result.0 rest finished c.tokens.invariant.counted c.skip_gap.ensures.place c.skip_gap.ensures.rest (ap (behind c.tokens.opened c.skip_gap.result.0) none) in
    subst (Lexes c.args.text.now) (sym c.of.ensures.items) (c.tokens.invariant.lexes items (last s))

pub returns-then-is_empty-clause-end : goal.returns-then-is_empty-clause-end
returns-then-is_empty-clause-end c =
    let rest = c.skip_gap.result.1.now in
    let none : rest ≡ [] = nil_from_length rest (eqb-true (length rest) 0 (sym c.is_empty.ensures ∙ c.if-is_empty.true)) in
    let at_end : after c.skip_gap.result.0 rest ≡ after c.tokens.place c.tokens.rest.now = gap_end c.tokens.place c.tokens.rest.now c.skip_gap.result.0 rest c.skip_gap.ensures.place c.skip_gap.ensures.rest in
    c.of.ensures.end ∙ sym (ap (after c.skip_gap.result.0) none) ∙ at_end ∙ c.tokens.invariant.end_is

pub returns-in_err-added-clause-refused : goal.returns-in_err-added-clause-refused
returns-in_err-added-clause-refused c =
    let p = err_from_is_err_and c.from_residual.result c.from_residual.ensures.1 in
    rw (p.1, p.2) (refused_from c.args.text.now c.tokens.tokens.items c.tokens.opened c.tokens.place c.tokens.rest.now c.skip_gap.result.0 c.skip_gap.result.1.now c.in_err-added.field-0.0 c.tokens.invariant.counted c.skip_gap.ensures.place c.skip_gap.ensures.rest c.in_err-added.ensures c.tokens.invariant.refuses)

pub tokens-preserved : goal.tokens-preserved
tokens-preserved c =
    let size = c.in_ok-added.added.size in
    let is = c.in_ok-added.ensures in
    let t = is.token in
    let at = c.skip_gap.result.0 in
    let text = c.skip_gap.result.1.now in
    let next = c.along-place.result in
    let rest = c.split_at.result.1.now in
    let items = c.tokens.tokens.items in
    let next_is : next ≡ after at (take size text) = c.along-place.ensures ∙ sym is.line in
    let s = next_from c.tokens.opened (opened items) c.tokens.place c.tokens.rest.now at text (go t next rest) c.tokens.invariant.counted c.skip_gap.ensures.place c.skip_gap.ensures.rest (is.next ∙ ap (λ x. go t x (drop size text)) (sym c.along-place.ensures) ∙ ap (go t next) (sym c.split_at.ensures.back)) in
    let splits : text ≡ take size text ++ rest = sym (take-append-drop size text) ∙ ap (λ x. take size text ++ x) (sym c.split_at.ensures.back) in
    record {
      lexes = λ all h. c.tokens.invariant.lexes all (more t next rest s (subst (λ ts. LexesFrom ts next rest all) is.items h));
      refuses = λ why h. c.tokens.invariant.refuses why (later t next rest s (subst (λ ts. Refuses ts next rest why) is.items h));
      end_is = ap (λ p. after p rest) next_is ∙ sym (after-append at (take size text) rest) ∙ sym (ap (after at) splits) ∙ gap_end c.tokens.place c.tokens.rest.now at text c.skip_gap.ensures.place c.skip_gap.ensures.rest ∙ c.tokens.invariant.end_is;
      reaches = reaches_along text (take size text) rest at next splits next_is c.skip_gap.ensures.reaches;
      counted = opened_more c.tokens.opened _ items _ t c.tokens.invariant.counted is.opened is.items;
      few = is.few;
    }
