use Rattle.std.proofs.Common.{◌≡◌, ◌<◌, length, rules, Some, sym, ap, ◌∙◌}
use Rattle.moxi_term_reading.specs.Finding.{last_of}
use Rattle.moxi_term_reading.proofs.FindingLaws.{found_at}
use Rattle.moxi_term_reading.proofs.StackLaws.{unbound, number_is, not_bound, is_bound}
use Rattle.moxi_term_reading.proofs.locals.Bounds.find.Goals as goal

pub index-binding-requires : goal.index-binding-requires
index-binding-requires c =
    let s = c.self.inside in
    let q = c.args.name.now in
    let o = c.index.result.now in
    let g = number_is s.names s.bindings.items s.lasts.items q c.in-Some.key o c.self.invariant (sym c.place.ensures ∙ c.in-Some.is) c.index.ensures in
    let h : c.in-Some-index.number < length s.bindings.items = (is_bound s.names s.bindings.items q c.in-Some-index.number o c.in-Some-index.is g).3 in
    search (rules, h)

pub returns-in-None : goal.returns-in-None
returns-in-None c =
    let s = c.self.inside in
    sym (unbound 0 s.names s.bindings.items c.args.name.now c.self.invariant.placed (sym c.place.ensures ∙ c.in-None.is)) ∙ ap (λ l. last_of 0 l c.args.name.now) c.self.view_is

pub returns-in-None-index : goal.returns-in-None-index
returns-in-None-index c =
    let s = c.self.inside in
    let q = c.args.name.now in
    let o = c.index.result.now in
    let g = number_is s.names s.bindings.items s.lasts.items q c.in-Some.key o c.self.invariant (sym c.place.ensures ∙ c.in-Some.is) c.index.ensures in
    sym (not_bound s.names s.bindings.items q o c.in-None-index.is g) ∙ ap (λ l. last_of 0 l q) c.self.view_is

pub returns-in-Some-index : goal.returns-in-Some-index
returns-in-Some-index c =
    let s = c.self.inside in
    let q = c.args.name.now in
    let o = c.index.result.now in
    let g = number_is s.names s.bindings.items s.lasts.items q c.in-Some.key o c.self.invariant (sym c.place.ensures ∙ c.in-Some.is) c.index.ensures in
    let r = is_bound s.names s.bindings.items q c.in-Some-index.number o c.in-Some-index.is g in
    let sort : c.index-binding.result.now.sort ≡ r.0.sort = r.4 c.index-binding.result.now c.index-binding.ensures in
    ap (λ n. Some (found_at n c.index-binding.result.now.sort)) (sym r.2) ∙ ap (λ o. Some (found_at r.0.number o)) sort ∙ sym r.1 ∙ ap (λ l. last_of 0 l q) c.self.view_is
