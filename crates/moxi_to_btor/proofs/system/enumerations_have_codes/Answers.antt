use Rattle.std.proofs.Common.{subst, sym}
use Rattle.std.proofs.lemmas.List.{drop_all}
use Rattle.moxi_lines.specs.TermLaws.{HaveCodes}
use Rattle.moxi_to_btor.proofs.SystemSteps.{codes_more}
use Rattle.moxi_to_btor.proofs.VariableSteps.{next_item}
use Rattle.moxi_to_btor.proofs.system.enumerations_have_codes.Goals as goal

pub loop-enumeration-preserved : goal.loop-enumeration-preserved
loop-enumeration-preserved c =
    let l = c.loop-enumeration in
    let es = c.as_slice-enumeration-items.result.now in
    let x = c.enumeration-item.result in
    λ rest. l.invariant (subst HaveCodes (sym (next_item es l.enumeration-index x c.loop-enumeration-test.true c.enumeration-item.is)) (codes_more x c.len.result _ c.len.ensures c.len.type_inv rest))

pub returns : goal.returns
returns c =
    let l = c.loop-enumeration in
    let es = c.as_slice-enumeration-items.result.now in
    subst HaveCodes c.as_slice-enumeration-items.ensures (l.invariant (subst HaveCodes (sym (drop_all l.enumeration-index es c.loop-enumeration-test.false)) tt))
