use Rattle.std.proofs.Common.{◌-◌, map, sym, ap, subst, arith}
use Rattle.std.specs.Prelude.{flat_map}
use Rattle.smv_text.specs.Tree.{links_of}
use Rattle.smv_text.specs.View.{plain, plain_link, plain_element}
use Rattle.smv_meaning.specs.Parts.{InOne, expressions_in}
use Rattle.smv_types.specs.laws.Shapes.{plain_chain}
use Rattle.library_cases.proofs.Last.{operand_stands}
use Rattle.library_cases.proofs.values.asked_of.Goals as goal

pub returns-in-Chain : goal.returns-in-Chain
returns-in-Chain c =
    let es = c.args.declared.now.elements in
    let e = c.in-Trans.e in
    let shape = plain_chain e c.in-Chain.first c.in-Chain.field-1 c.in-Chain.is in
    subst (λ (x : _). InOne (plain x) (flat_map expressions_in (map plain_element es))) (sym c.deref.ensures)
    (operand_stands (plain e) (plain c.in-Chain.first.value) e.place (links_of (map plain_link c.in-Chain.field-1.items)) es (c.len-count.result - 1) c.at.result.now (omega arith) c.at.ensures (ap plain_element c.in-Trans.is) shape)
