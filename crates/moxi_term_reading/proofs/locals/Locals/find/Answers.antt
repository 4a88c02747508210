use Rattle.std.proofs.Common.{◌≡◌, ◌<◌, length, slice_index_or, Some, sym, ap, ◌∙◌, subst}
use Rattle.moxi_term_reading.specs.Finding.{first_of}
use Rattle.moxi_term_reading.proofs.FindingLaws.{first_index, found_at}
use Rattle.moxi_term_reading.proofs.locals.Locals.find.Goals as goal

pub at-requires : goal.at-requires
at-requires c =
    let s = c.self.inside in
    let r = first_index s.locals s.names s.firsts.items c.args.name.now c.in-Some.p c.self.invariant (sym c.place.ensures ∙ c.in-Some.is) in
    subst (λ n. n < length s.locals) (sym (c.index-number.ensures ∙ r.2 c.index-number.result.now)) r.3

pub returns-in-Some : goal.returns-in-Some
returns-in-Some c =
    let s = c.self.inside in
    let r = first_index s.locals s.names s.firsts.items c.args.name.now c.in-Some.p c.self.invariant (sym c.place.ensures ∙ c.in-Some.is) in
    let number : c.index-number.result.now ≡ r.0.number = c.index-number.ensures ∙ r.2 c.index-number.result.now in
    let sort : c.at.result.now.sort ≡ r.0.sort = r.4 c.at.result.now (subst (λ n. c.at.result.now ≡ slice_index_or s.locals n c.at.result.now) number c.at.ensures) in
    ap (λ n. Some (found_at n c.at.result.now.sort)) number ∙ ap (λ o. Some (found_at r.0.number o)) sort ∙ sym r.1 ∙ ap (λ l. first_of 0 l c.args.name.now) c.self.view_is
