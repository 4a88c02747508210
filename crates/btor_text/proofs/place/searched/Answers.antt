use Rattle.std.proofs.Common.{◌≡◌, ◌+◌, ◌-◌, ◌/◌, ◌<◌, ◌≤◌, length, sym, arith}
use Rattle.btor_tree.specs.Fits.{greatest_id}
use Rattle.btor_tree.proofs.Grows.{lines_short}
use Rattle.btor_text.proofs.Search.{found_here, go_up, go_down, nowhere}
use Rattle.btor_text.proofs.place.searched.Goals as goal

pub overflow_cast-result : goal.overflow_cast-result
overflow_cast-result c =
    let short : length c.args.nodes.now ≤ greatest_id = lines_short c.args.nodes.now c.len-high.ensures.well_formed in
    let lt : c.search.low < c.search.high = grind arith in
    grind (arith, short, lt, c.search.invariant.within)

pub returns-then-there-id : goal.returns-then-there-id
returns-then-there-id c =
    let middle = c.search.low + (c.search.high - c.search.low) / 2 in
    let lt : c.search.low < c.search.high = grind arith in
    let inside : middle < length c.args.nodes.now = omega (arith, lt, c.search.invariant.within) in
    let same : c.at.result.now.id ≡ c.args.id = grind arith in
    sym (found_here c.args.nodes.now middle c.args.id c.at.result.now c.len-high.ensures.well_formed c.at.ensures inside same)

pub search-preserved-then-there-id-2 : goal.search-preserved-then-there-id-2
search-preserved-then-there-id-2 c =
    let middle = c.search.low + (c.search.high - c.search.low) / 2 in
    let lt : c.search.low < c.search.high = grind arith in
    let inside : middle < length c.args.nodes.now = omega (arith, lt, c.search.invariant.within) in
    let less : c.at.result.now.id < c.args.id = grind arith in
    record {
      between = go_up c.args.nodes.now c.args.id c.search.low c.search.high middle c.at.result.now c.len-high.ensures.well_formed c.search.invariant.between c.at.ensures inside less;
      order = omega (arith, lt);
      within = c.search.invariant.within;
    }

pub search-preserved : goal.search-preserved
search-preserved c =
    let middle = c.search.low + (c.search.high - c.search.low) / 2 in
    let lt : c.search.low < c.search.high = grind arith in
    let inside : middle < length c.args.nodes.now = omega (arith, lt, c.search.invariant.within) in
    let more : c.args.id < c.at.result.now.id = grind arith in
    record {
      between = go_down c.args.nodes.now c.args.id c.search.low c.search.high middle c.at.result.now c.len-high.ensures.well_formed c.search.invariant.between c.at.ensures inside more;
      order = omega (arith, lt);
      within = omega (arith, inside);
    }

pub returns : goal.returns
returns c =
    let past : c.search.high ≤ c.search.low = grind arith in
    sym (nowhere c.args.nodes.now c.args.id c.search.low c.search.high c.search.invariant.between past)
