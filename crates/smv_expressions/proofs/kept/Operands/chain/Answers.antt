use Rattle.std.proofs.Common.{◌≡◌, [], length, ap, ◌∙◌, sym, arith}
use Rattle.std.proofs.lemmas.List.{length-map}
use Rattle.smv_text.specs.Heights.{height, link_heights}
use Rattle.smv_text.specs.Tree.{links_of}
use Rattle.smv_text.specs.View.{plain_link}
use Rattle.smv_grammar.specs.Kept.{cap}
use Rattle.smv_grammar.specs.Machine.{whole}
use Rattle.smv_expressions.specs.Gathered.{low_link}
use Rattle.smv_expressions.proofs.Capping.{none_so_far}
use Rattle.smv_expressions.proofs.Keeping.{keeps_chain}
use Rattle.smv_expressions.proofs.kept.Operands.chain.Goals as goal

pub returns-then-is_empty-clause-made : goal.returns-then-is_empty-clause-made
returns-then-is_empty-clause-made c t ls h is =
    let e = c.is_empty.ensures in
    let f = c.if-is_empty.true in
    let same = ap length h.trees in
    let none : ls ≡ [] = none_so_far ls (grind (arith, e, f, same, length-map c.args.self.links.items plain_link, length-map ls low_link)) in
    is ∙ ap (λ ms. cap (whole c.args.place (record { first = t; links = ms }))) (sym none)

pub returns-clause-made : goal.returns-clause-made
returns-clause-made c t ls h is =
    let e = c.is_empty.ensures in
    let f = c.if-is_empty.false in
    c.keep.ensures ∙ keeps_chain c.args.place c.in_ok-first.first c.args.self.links c.args.kept.now t ls c.height-height.result (grind (arith, e, f)) c.in_ok-first.ensures.made is h.trees
    (c.height-height.ensures (height t) (link_heights (links_of ls)) h.heights)
