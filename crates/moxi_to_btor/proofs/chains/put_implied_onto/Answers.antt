use Rattle.std.proofs.Common.{sym, ◌∙◌, ap, subst}
use Rattle.moxi_lines.specs.TermLines.{Built}
use Rattle.moxi_to_btor.specs.TermPutting.{CanImply, implied_onto}
use Rattle.moxi_to_btor.proofs.Folding.{imply_now, onto_last}
use Rattle.moxi_to_btor.proofs.chains.put_implied_onto.Goals as goal

pub put_binary-requires : goal.put_binary-requires
put_binary-requires c =
    let l = c.loop-p in
    let m : Built = (l.builder, l.chain) in
    (imply_now c.in-Some.more.now c.in-Some.p.now m (subst (λ ps. CanImply ps m) c.in-Some.ensures.cases.0 l.invariant.can)).0

pub loop-p-preserved : goal.loop-p-preserved
loop-p-preserved c =
    let l = c.loop-p in
    let m : Built = (l.builder, l.chain) in
    let more = c.in-Some.more.now in
    let e = c.in_ok-chain.ensures in
    record {
      told = ap (implied_onto more) e ∙ sym (onto_last more c.in-Some.p.now m) ∙ sym (ap (λ ps. implied_onto ps m) c.in-Some.ensures.cases.0) ∙ l.invariant.told;
      can = subst (CanImply more) (sym e) (imply_now more c.in-Some.p.now m (subst (λ ps. CanImply ps m) c.in-Some.ensures.cases.0 l.invariant.can)).1;
    }
