use Rattle.std.proofs.Common.{◌≡◌, ◌++◌, ◌∷◌, ◌<◌, ◌-◌, ◌^◌, [], cond, length, take, is_none, sym, ap, ◌∙◌, subst}
use Rattle.name_maps.specs.Names.{place_of}
use Rattle.moxi_term_reading.specs.Finding.{IsIndexed, first_of}
use Rattle.moxi_term_reading.specs.declared.locals.Local.{Local}
use Rattle.moxi_term_reading.proofs.FindingLaws.{indexed_front, indexed_more, indexed_none, kept_names}
use Rattle.moxi_term_reading.proofs.locals.Locals.add.Goals as goal

pub invariant_of-self-in-Ok : goal.invariant_of-self-in-Ok
invariant_of-self-in-Ok c =
    let s = c.self.inside in
    let x : Local = record { name = c.args.name; sort = c.args.sort } in
    let fresh = c.in_ok-fresh.fresh in
    let name : c.bytes.result.now ≡ c.args.name = c.bytes.ensures in
    let firsts : c.push.new.self.items ≡ take (length s.names) s.firsts.items ++ length s.locals ∷ [] =
    c.in_ok-push.ensures.items ∙ ap (λ xs. xs ++ c.len-number.result ∷ []) (c.truncate.ensures.items ∙ ap (λ n. take n s.firsts.items) c.len-before.ensures)
    ∙ ap (λ n. take (length s.names) s.firsts.items ++ n ∷ []) c.len-number.ensures in
    let is : fresh ≡ is_none (place_of s.names c.args.name) = c.in_ok-fresh.ensures.fresh ∙ ap (λ n. is_none (place_of s.names n)) name in
    let names : c.declare.new.self ≡ cond fresh (s.names ++ c.args.name ∷ []) s.names = c.in_ok-fresh.ensures.names ∙ ap (λ n. cond fresh (s.names ++ n ∷ []) s.names) name in
    let few : length s.locals < 2 ^ 32 - 1 = subst (λ l. length l < 2 ^ 32 - 1) (sym c.self.view_is) c.requires.room in
    let locals : c.push-2.new.self ≡ s.locals ++ x ∷ [] = c.in-Ok.ensures.ok in
    subst (λ l. IsIndexed l c.declare.new.self c.push.new.self.items) (sym locals)
    (subst (λ n. IsIndexed (s.locals ++ x ∷ []) n c.push.new.self.items) (sym names)
    (subst (IsIndexed (s.locals ++ x ∷ []) (cond fresh (s.names ++ c.args.name ∷ []) s.names)) (sym firsts) (indexed_more s.locals s.names s.firsts.items x fresh c.self.invariant few is)))

pub invariant_of-self-in-Err : goal.invariant_of-self-in-Err
invariant_of-self-in-Err c =
    let s = c.self.inside in
    let fresh = c.in_ok-fresh.fresh in
    let firsts : c.push.new.self.items ≡ take (length s.names) s.firsts.items ++ c.len-number.result ∷ [] =
    c.in_ok-push.ensures.items ∙ ap (λ xs. xs ++ c.len-number.result ∷ []) (c.truncate.ensures.items ∙ ap (λ n. take n s.firsts.items) c.len-before.ensures) in
    let names : c.keep.new.self ≡ s.names = c.keep.ensures ∙ kept_names s.names c.declare.new.self c.bytes.result.now fresh c.len-before.result c.in_ok-fresh.ensures.names c.len-before.ensures in
    let locals : c.push-2.new.self ≡ s.locals = c.in-Err.ensures.err in
    subst (λ l. IsIndexed l c.keep.new.self c.push.new.self.items) (sym locals)
    (subst (λ n. IsIndexed s.locals n c.push.new.self.items) (sym names)
    (subst (IsIndexed s.locals s.names) (sym firsts) (indexed_front s.locals s.names s.firsts.items (c.len-number.result ∷ []) c.self.invariant)))

pub returns-in-Ok-clause-fresh : goal.returns-in-Ok-clause-fresh
returns-in-Ok-clause-fresh c =
    let s = c.self.inside in
    let name : c.bytes.result.now ≡ c.args.name = c.bytes.ensures in
    c.in_ok-fresh.ensures.fresh ∙ ap (λ n. is_none (place_of s.names n)) name ∙ indexed_none s.locals s.names s.firsts.items c.args.name c.self.invariant
    ∙ ap (λ l. is_none (first_of 0 l c.args.name)) c.self.view_is
