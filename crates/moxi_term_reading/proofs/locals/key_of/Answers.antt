use Rattle.std.proofs.Common.{◌≡◌, ◌++◌, ◌∷◌, [], true, None, Some, is_none, cond, length, take, sym, ap, ◌∙◌, subst}
use Rattle.name_maps.specs.Names.{place_of}
use Rattle.moxi_term_reading.specs.Finding.{IsStacked, locals_in}
use Rattle.moxi_term_reading.proofs.StackLaws.{stacked_new, same_locals, new_key}
use Rattle.moxi_term_reading.proofs.locals.key_of.Goals as goal

pub returns-in_ok-declare-in-None-clause-stacked : goal.returns-in_ok-declare-in-None-clause-stacked
returns-in_ok-declare-in-None-clause-stacked c bs i =
    let names = c.args.names.now in
    let name = c.args.name.now in
    let fresh = c.in_ok-declare-in-None.field-0 in
    let none : place_of names name ≡ None = sym c.place.ensures ∙ c.in-None.is in
    let is : fresh ≡ true = c.in_ok-declare-in-None.ensures.fresh ∙ ap is_none none in
    let more : c.declare.new.self ≡ names ++ name ∷ [] = c.in_ok-declare-in-None.ensures.names ∙ ap (λ b. cond b (names ++ name ∷ []) names) is in
    let lasts : c.push.new.self.items ≡ take (length names) c.args.lasts.now.items ++ None ∷ [] =
    c.in_ok-push-in-None.ensures.items ∙ ap (λ xs. xs ++ None ∷ []) (c.truncate.ensures.items ∙ ap (λ n. take n c.args.lasts.now.items) c.len-key.ensures) in
    subst (λ n. IsStacked n bs c.push.new.self.items) (sym more) (subst (IsStacked (names ++ name ∷ []) bs) (sym lasts) (stacked_new names bs c.args.lasts.now.items name i none))

pub returns-in_ok-declare-in-None-clause-same : goal.returns-in_ok-declare-in-None-clause-same
returns-in_ok-declare-in-None-clause-same c bs i =
    let names = c.args.names.now in
    let name = c.args.name.now in
    let fresh = c.in_ok-declare-in-None.field-0 in
    let none : place_of names name ≡ None = sym c.place.ensures ∙ c.in-None.is in
    let is : fresh ≡ true = c.in_ok-declare-in-None.ensures.fresh ∙ ap is_none none in
    let more : c.declare.new.self ≡ names ++ name ∷ [] = c.in_ok-declare-in-None.ensures.names ∙ ap (λ b. cond b (names ++ name ∷ []) names) is in
    ap (λ n. locals_in n bs) more ∙ same_locals names name bs i.placed

pub returns-in_ok-declare-in-None-clause-key : goal.returns-in_ok-declare-in-None-clause-key
returns-in_ok-declare-in-None-clause-key c =
    let names = c.args.names.now in
    let name = c.args.name.now in
    let fresh = c.in_ok-declare-in-None.field-0 in
    let none : place_of names name ≡ None = sym c.place.ensures ∙ c.in-None.is in
    let is : fresh ≡ true = c.in_ok-declare-in-None.ensures.fresh ∙ ap is_none none in
    let more : c.declare.new.self ≡ names ++ name ∷ [] = c.in_ok-declare-in-None.ensures.names ∙ ap (λ b. cond b (names ++ name ∷ []) names) is in
    ap (λ n. place_of n name) more ∙ new_key names name none ∙ ap Some (sym c.len-key.ensures)
