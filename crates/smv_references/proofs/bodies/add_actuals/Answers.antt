use Rattle.std.proofs.Common.{map, sym, ◌∙◌}
use Rattle.std.specs.Slice.Iter.{iter_rest}
use Rattle.std.specs.Iterator.Adapters.{zip_first, zip_second}
use Rattle.std.proofs.lemmas.Slice.Zip.{either_empty_from_Zip}
use Rattle.smv_references.specs.View.{body_plain}
use Rattle.smv_references.proofs.BodyLemmas.{no_actuals}
use Rattle.smv_references.proofs.bodies.add_actuals.Goals as goal

pub returns : goal.returns
returns c =
    let left = c.loop-parameter.parameter-iterator in
    sym (no_actuals c.args.i (iter_rest (zip_first left)) (iter_rest (zip_second left)) (map body_plain c.loop-parameter.bodies.items) (either_empty_from_Zip left c.next.new.self _ c.in-None.is c.next.ensures.steps)) ∙ c.loop-parameter.invariant
