use Rattle.std.specs.Slice.Iter.{iter_rest}
use Rattle.std.specs.Iterator.Adapters.{zip_first, zip_second}
use Rattle.moxi_trace.proofs.Fronts.{fronts_end}
use Rattle.moxi_trace.proofs.print.put_statements.Goals as goal

pub returns : goal.returns
returns c =
    let it = c.loop-front.front-iterator in
    fronts_end c.args.scope.now.enumerations (iter_rest (zip_first it)) (iter_rest (zip_second it)) _ _ c.in-None.ensures.steps c.loop-front.invariant
