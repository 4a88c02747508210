use Rattle.std.proofs.Common.{◌≡◌, ◌+◌, ◌++◌, ◌∷◌, [], true, drop, length, is_none, refl, sym, ap, ◌∙◌, subst, arith, append-nil}
use Rattle.std.proofs.lemmas.List.{length_push}
use Rattle.moxi_term_reading.specs.declared.locals.Local.{Local}
use Rattle.moxi_term_reading.specs.Finding.{first_of}
use Rattle.moxi_scripts.specs.Entries.{locals_among}
use Rattle.moxi_scripts.proofs.Forms.{items_end, items_step}
use Rattle.moxi_attributes.specs.laws.Collecting.{list_step}
use Rattle.moxi_declarations.proofs.OnceLaws.{AreOnce, once_all, once_more}
use Rattle.moxi_declarations.proofs.once.locals_once.Goals as goal

pub loop-entry-preserved : goal.loop-entry-preserved
loop-entry-preserved c =
    let l = c.loop-entry in
    let ds = c.args.entries.now in
    let d = c.entry-item.result in
    let x : Local = record { name = d.name; sort = d.sort } in
    let rest = drop (l.entry-index + 1) ds in
    let name : c.in_ok-of.field-0 ≡ d.name = c.in_ok-of.ensures ∙ c.bytes.ensures in
    let fresh : is_none (first_of 0 l.locals d.name) ≡ true = ap (λ n. is_none (first_of 0 l.locals n)) (sym name) ∙ sym c.in_ok-add.ensures.fresh ∙ c.if-not-branch.false in
    let now : c.add.new.self ≡ l.locals ++ x ∷ [] = c.in_ok-add.ensures.ok ∙ ap (λ n. l.locals ++ record { name = n; sort = d.sort } ∷ []) name in
    let e = items_step ds l.entry-index (length ds) d refl c.loop-entry-test.true c.entry-item.is in
    record {
      adds = list_step _ c.add.new.self (x ∷ []) (locals_among rest) _ _ now (ap locals_among e) l.invariant.adds;
      long = omega (arith, ap length now, length_push l.locals x, l.invariant.long);
      once = subst AreOnce (sym now) (once_more l.locals x fresh l.invariant.once);
    }

pub returns-clause-once : goal.returns-clause-once
returns-clause-once c =
    let l = c.loop-entry in
    let ds = c.args.entries.now in
    let all : l.locals ≡ locals_among ds =
    sym (append-nil l.locals) ∙ ap (λ xs. l.locals ++ locals_among xs) (sym (items_end ds l.entry-index (length ds) refl c.loop-entry-test.false)) ∙ l.invariant.adds in
    once_all ds l.locals all l.invariant.once
