use Rattle.std.proofs.Common.{◌<◌, length, sym, ◌∙◌, arith}
use Rattle.moxi_terms.proofs.PlaceLaws.{place_within}
use Rattle.moxi_reading.proofs.read.number_of.Goals as goal

pub overflow_cast-result : goal.overflow_cast-result
overflow_cast-result c =
    let within : c.in-Some.i < length c.args.names.now = place_within c.args.names.now c.args.name.now c.in-Some.i (sym c.place.ensures ∙ c.in-Some.is) in
    omega (arith, within, c.requires)
