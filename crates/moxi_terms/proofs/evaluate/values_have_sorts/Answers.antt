use Rattle.std.proofs.Common.{length, []}
use Rattle.moxi_terms.specs.Value.{at, calls_upto}
use Rattle.moxi_terms.proofs.ValueLaws.{all_suit, suits, value_sorted}
use Rattle.moxi_terms.proofs.evaluate.values_have_sorts.Goals as goal

pub returns : goal.returns
returns c s vars now later t sort scope of_now of_later h =
    let fs = s.functions in
    let es = s.enumerations in
    value_sorted es fs (calls_upto fs (length fs)) (all_suit es fs scope.functions) vars (at now) (at later) (suits es vars now of_now) (suits es vars later of_later) [] [] t sort tt h
