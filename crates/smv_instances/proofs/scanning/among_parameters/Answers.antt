use Rattle.std.proofs.Common.{◌∙◌}
use Rattle.std.specs.Slice.Iter.{iter_rest}
use Rattle.std.specs.Iterator.Adapters.{zip_first, zip_second}
use Rattle.std.proofs.lemmas.Slice.Zip.{either_empty_from_Zip}
use Rattle.smv_instances.proofs.ScanLemmas.{none_among}
use Rattle.smv_instances.proofs.scanning.among_parameters.Goals as goal

pub returns : goal.returns
returns c = λ other.
    let left = c.loop-parameter.parameter-iterator in
    none_among c.args.parent (iter_rest (zip_first left)) (iter_rest (zip_second left)) c.args.x.now other (either_empty_from_Zip left c.next.new.self _ c.in-None.is c.next.ensures.steps) ∙ c.loop-parameter.invariant other
