use Rattle.std.proofs.Common.{◌≡◌, ◌-◌, ◌<◌, length, sym, arith}
use Rattle.btor_text.proofs.Search.{found_here}
use Rattle.btor_text.proofs.place.place_of.Goals as goal

pub returns-then-at-id : goal.returns-then-at-id
returns-then-at-id c =
    let inside : c.args.id - 1 < length c.args.nodes.now = grind arith in
    let same : c.at.result.now.id ≡ c.args.id = grind arith in
    sym (found_here c.args.nodes.now (c.args.id - 1) c.args.id c.at.result.now c.len-count.ensures.well_formed c.at.ensures inside same)
