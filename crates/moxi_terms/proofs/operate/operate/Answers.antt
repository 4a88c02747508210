use Rattle.moxi_terms.proofs.OperatorLaws.{can_words}
use Rattle.moxi_terms.proofs.operate.operate.Goals as goal

pub on_data-requires : goal.on_data-requires
on_data-requires c =
    let x = c.in-Some-split_first-2 in
    can_words c.args.op c.in-BvBinary.b c.args.args.now x.first.now x.rest.now c.requires c.in-BvBinary.is x.ensures.cases.0
