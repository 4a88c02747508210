use Rattle.std.proofs.Common.{◌≡◌, ◌++◌, ◌∷◌, [], Some, length, sym, ap, ◌∙◌, subst}
use Rattle.std.specs.Prelude.{slice_set}
use Rattle.name_maps.specs.Names.{place_of}
use Rattle.moxi_term_reading.specs.Finding.{IsStacked, locals_in}
use Rattle.moxi_term_reading.specs.declared.locals.Binding.{Binding}
use Rattle.moxi_term_reading.proofs.StackLaws.{stacked_bind, bound_locals, before_read, locals_long}
use Rattle.moxi_term_reading.proofs.locals.Bounds.bind.Goals as goal

pub invariant_of-self-2 : goal.invariant_of-self-2
invariant_of-self-2 c =
    let s = c.self.inside in
    let names = c.key_of.new.names in
    let lasts = c.key_of.new.lasts.items in
    let bs = s.bindings.items in
    let i : IsStacked names bs lasts = c.in_ok-key.ensures.stacked bs c.self.invariant in
    let b : Binding = record { key = c.in_ok-key.key; before = c.index-before.result.now; sort = c.args.local.now.sort } in
    let place : place_of names c.bytes.result.now ≡ Some c.in_ok-key.key = c.in_ok-key.ensures.key in
    let number : c.len-number.result ≡ length bs = c.len-number.ensures ∙ ap length (sym c.self.view_is) ∙ locals_long s.names bs in
    let pushed : c.push.new.self.items ≡ bs ++ b ∷ [] = c.in_ok-push.ensures.items in
    subst (λ xs. IsStacked names xs (slice_set lasts c.in_ok-key.key (Some c.len-number.result))) (sym pushed)
    (stacked_bind names bs lasts i c.bytes.result.now b c.len-number.result place (before_read names bs lasts c.bytes.result.now c.in_ok-key.key c.index-before.result.now i place c.index-before.ensures) number)

pub returns : goal.returns
returns c =
    let s = c.self.inside in
    let names = c.key_of.new.names in
    let bs = s.bindings.items in
    let b : Binding = record { key = c.in_ok-key.key; before = c.index-before.result.now; sort = c.args.local.now.sort } in
    let pushed : c.push.new.self.items ≡ bs ++ b ∷ [] = c.in_ok-push.ensures.items in
    ap (locals_in names) pushed ∙ bound_locals names bs b c.bytes.result.now c.in_ok-key.ensures.key
    ∙ ap (λ ls. ls ++ record { name = c.bytes.result.now; sort = b.sort } ∷ []) (c.in_ok-key.ensures.same bs c.self.invariant ∙ c.self.view_is)
    ∙ ap (λ n. c.args.self.now ++ record { name = n; sort = b.sort } ∷ []) c.bytes.ensures
