use Rattle.std.proofs.Common.{◌≡◌, ◌<◌, ◌∷◌, ◌++◌, [], length, take, map, refl, sym, ap, ◌∙◌, subst, arith}
use Rattle.std.proofs.lemmas.Bool.Decides.{nat_tests}
use Rattle.std.proofs.lemmas.Bool.{ne_eqb}
use Rattle.std.proofs.lemmas.List.{nil_from_length, take-append-drop}
use Rattle.std.proofs.lemmas.Result.{err_from_is_err_and}
use Rattle.moxi_sexpr.specs.Tree.{plain}
use Rattle.moxi_sexpr.specs.Lexing.{Mark}
use Rattle.moxi_sexpr.specs.Bytes.{is_comment_byte}
use Rattle.moxi_sexpr.specs.Reading.{run_length, token_of}
use Rattle.moxi_sexpr.specs.Machine.{open_lists}
use Rattle.moxi_sexpr.proofs.Leading.{Leads, leads_new, lists_long, end_done, end_open, blank_leads, comment_leads, token_refused, token_leads, went, refused_err, token_splits, token_shorter}
use Rattle.moxi_sexpr.proofs.read.forms_of.Goals as goal
use Rattle.text_core.proofs.PlaceLaws.{reaches_along}

pub tokens-init : goal.tokens-init
tokens-init c = record {
  leads = leads_new c.args.text.now _ _ c.new-stack.ensures.items c.new-done.ensures.items;
  reaches = record { line = omega (arith, c.requires); column = omega (arith, c.requires); offset = omega (arith, c.requires) };
}

pub returns-then-is_empty-clause-spelled : goal.returns-then-is_empty-clause-spelled
returns-then-is_empty-clause-spelled c =
    let k = open_lists c.tokens.stack.items in
    let m : Mark = record { place = c.tokens.place; depth = length k } in
    let none : c.tokens.rest.now ≡ [] = nil_from_length c.tokens.rest.now c.in_default.ensures.cases in
    let empty : length c.tokens.stack.items ≡ 0 = grind (arith, nat_tests, c.is_empty.ensures, c.if-is_empty.true) in
    end_done c.args.text.now m c.tokens.rest.now k (map plain c.tokens.done.items) c.tokens.invariant.leads refl none (lists_long c.tokens.stack.items ∙ empty)

pub returns-in_default-clause-refused : goal.returns-in_default-clause-refused
returns-in_default-clause-refused c =
    let k = open_lists c.tokens.stack.items in
    let m : Mark = record { place = c.tokens.place; depth = length k } in
    let none : c.tokens.rest.now ≡ [] = nil_from_length c.tokens.rest.now c.in_default.ensures.cases in
    let some : 0 < length c.tokens.stack.items = grind (arith, nat_tests, c.is_empty.ensures, c.if-is_empty.false) in
    end_open c.args.text.now m c.tokens.rest.now k (map plain c.tokens.done.items) c.tokens.invariant.leads refl none (omega (arith, some, lists_long c.tokens.stack.items)) c.refusal.result c.refusal.ensures

pub tokens-preserved-then-is_blank : goal.tokens-preserved-then-is_blank
tokens-preserved-then-is_blank c =
    let k = open_lists c.tokens.stack.items in
    let m : Mark = record { place = c.tokens.place; depth = length k } in
    let is : c.tokens.rest.now ≡ c.in-Some.b.now ∷ c.in-Some.more.now = c.in-Some.ensures.cases.0 in
    record {
      leads = blank_leads c.args.text.now m c.tokens.rest.now k (map plain c.tokens.done.items) c.tokens.invariant.leads refl c.in-Some.b.now c.in-Some.more.now c.next-place.result is
          (sym c.is_blank.ensures ∙ c.if-is_blank.true) c.next-place.ensures;
      reaches = reaches_along c.tokens.rest.now (c.in-Some.b.now ∷ []) c.in-Some.more.now c.tokens.place c.next-place.result is c.next-place.ensures c.tokens.invariant.reaches;
    }

pub tokens-preserved-then-b-eq59 : goal.tokens-preserved-then-b-eq59
tokens-preserved-then-b-eq59 c =
    let k = open_lists c.tokens.stack.items in
    let m : Mark = record { place = c.tokens.place; depth = length k } in
    let ahead = c.in-Some.more.now in
    let n = run_length is_comment_byte ahead in
    let is : c.tokens.rest.now ≡ 59 ∷ ahead = c.in-Some.ensures.cases.0 ∙ ap (λ b. b ∷ ahead) c.if-b-eq59.true in
    let splits : c.tokens.rest.now ≡ (59 ∷ take n ahead) ++ c.skip_comment.result.1.now = is ∙ ap (λ t. 59 ∷ t) (sym (take-append-drop n ahead) ∙ ap (λ t. take n ahead ++ t) (sym c.skip_comment.ensures.rest)) in
    let leads = comment_leads c.args.text.now m c.tokens.rest.now k (map plain c.tokens.done.items) c.tokens.invariant.leads refl ahead c.skip_comment.result.0 is c.skip_comment.ensures.place in
    record {
      leads = subst (λ t. Leads c.args.text.now (record { place = c.skip_comment.result.0; depth = length k }) t k (map plain c.tokens.done.items)) (sym c.skip_comment.ensures.rest) leads;
      reaches = reaches_along c.tokens.rest.now (59 ∷ take n ahead) c.skip_comment.result.1.now c.tokens.place c.skip_comment.result.0 splits c.skip_comment.ensures.place c.tokens.invariant.reaches;
    }

pub returns-in_err-last-clause-refused : goal.returns-in_err-last-clause-refused
returns-in_err-last-clause-refused c =
    let p = err_from_is_err_and c.from_residual.result c.from_residual.ensures.1 in
    let k = open_lists c.tokens.stack.items in
    let m : Mark = record { place = c.tokens.place; depth = length k } in
    refused_err c.args.text.now c.from_residual.result p.0 c.in_err-last.field-0.0 p.1 p.2
    (token_refused c.args.text.now m c.tokens.rest.now k (map plain c.tokens.done.items) c.tokens.invariant.leads refl c.in-Some.b.now c.in-Some.more.now c.in-Some.ensures.cases.0
    (sym c.is_blank.ensures ∙ c.if-is_blank.false) (ne_eqb c.in-Some.b.now 59 c.if-b-eq59.false) c.in_err-last.field-0.0 (open_lists c.take_token.new.stack.items) (map plain c.take_token.new.done.items) c.in_err-last.ensures)

pub place_of_rest-place-requires-clause-within : goal.place_of_rest-place-requires-clause-within
place_of_rest-place-requires-clause-within c =
    let w = went (token_of c.tokens.rest.now) c.tokens.place (open_lists c.tokens.stack.items) (map plain c.tokens.done.items) c.in_ok-last.last.now (open_lists c.take_token.new.stack.items) (map plain c.take_token.new.done.items) c.in_ok-last.ensures in
    let shorter = token_shorter c.tokens.rest.now c.in_ok-last.last.now w.kind w.is in
    omega (arith, shorter)

pub place_of_rest-place-requires-clause-token : goal.place_of_rest-place-requires-clause-token
place_of_rest-place-requires-clause-token c =
    let w = went (token_of c.tokens.rest.now) c.tokens.place (open_lists c.tokens.stack.items) (map plain c.tokens.done.items) c.in_ok-last.last.now (open_lists c.take_token.new.stack.items) (map plain c.take_token.new.done.items) c.in_ok-last.ensures in (
      w.kind,
      w.is,
    )

pub tokens-smaller : goal.tokens-smaller
tokens-smaller c =
    let w = went (token_of c.tokens.rest.now) c.tokens.place (open_lists c.tokens.stack.items) (map plain c.tokens.done.items) c.in_ok-last.last.now (open_lists c.take_token.new.stack.items) (map plain c.take_token.new.done.items) c.in_ok-last.ensures in
    let shorter = token_shorter c.tokens.rest.now c.in_ok-last.last.now w.kind w.is in
    omega (arith, shorter)

pub tokens-preserved : goal.tokens-preserved
tokens-preserved c =
    let k = open_lists c.tokens.stack.items in
    let m : Mark = record { place = c.tokens.place; depth = length k } in
    let last = c.in_ok-last.last.now in
    let w = went (token_of c.tokens.rest.now) c.tokens.place k (map plain c.tokens.done.items) last (open_lists c.take_token.new.stack.items) (map plain c.take_token.new.done.items) c.in_ok-last.ensures in
    record {
      leads = token_leads c.args.text.now m c.tokens.rest.now k (map plain c.tokens.done.items) c.tokens.invariant.leads refl c.in-Some.b.now c.in-Some.more.now c.in-Some.ensures.cases.0
          (sym c.is_blank.ensures ∙ c.if-is_blank.false) (ne_eqb c.in-Some.b.now 59 c.if-b-eq59.false) last (open_lists c.take_token.new.stack.items) (map plain c.take_token.new.done.items) c.place_of_rest-place.result w
          c.place_of_rest-place.ensures;
      reaches = reaches_along c.tokens.rest.now _ last c.tokens.place c.place_of_rest-place.result (token_splits c.tokens.rest.now last w.kind w.is) c.place_of_rest-place.ensures c.tokens.invariant.reaches;
    }
