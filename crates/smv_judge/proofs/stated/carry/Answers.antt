use Rattle.std.proofs.Common.{◌≤◌, length, sym, ap, ◌∙◌, arith}
use Rattle.smv_numbered.specs.Runs.{stated_at}
use Rattle.smv_rows.specs.Numbered.{values_or_none}
use Rattle.smv_judge.proofs.StatedRuns.{carried_on, end_next, ends_rise}
use Rattle.smv_judge.proofs.stated.carry.Goals as goal

pub changes_between-requires-clause-rising : goal.changes_between-requires-clause-rising
changes_between-requires-clause-rising c =
    let ns = c.args.run.now.ends in
    let rise = ends_rise ns (length c.args.run.now.changes) c.args.k c.requires.numbered c.requires.within in
    omega (arith, c.end_before-low.ensures, end_next ns c.args.k c.at-high.result.now c.requires.within c.at-high.ensures, rise.0)

pub changes_between-requires-clause-within : goal.changes_between-requires-clause-within
changes_between-requires-clause-within c =
    let ns = c.args.run.now.ends in
    let rise = ends_rise ns (length c.args.run.now.changes) c.args.k c.requires.numbered c.requires.within in
    omega (arith, end_next ns c.args.k c.at-high.result.now c.requires.within c.at-high.ensures, rise.1, ap length c.as_slice.ensures)

pub returns : goal.returns
returns c = λ items h.
    let ns = c.args.run.now.ends in
    let cs = c.args.run.now.changes in
    let rise = ends_rise ns (length cs) c.args.k c.requires.numbered c.requires.within in
    let below = c.end_before-low.ensures in
    let above = end_next ns c.args.k c.at-high.result.now c.requires.within c.at-high.ensures in
    let order : c.end_before-low.result ≤ c.at-high.result.now = omega (arith, below, above, rise.0) in
    carried_on items c.as_slice.result.now cs c.changes_between.result.now c.end_before-low.result c.at-high.result.now c.args.carried.now c.apply.new.self order c.as_slice.ensures c.changes_between.ensures c.apply.ensures
    (h ∙ ap (λ n. values_or_none (stated_at items cs n)) (sym below))
    ∙ ap (λ n. values_or_none (stated_at items cs n)) above
