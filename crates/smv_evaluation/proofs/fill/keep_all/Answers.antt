use Rattle.std.proofs.Common.{◌≡◌, ◌<◌, ◌≤◌, map, length, refl, sym, ap, ◌∙◌, subst}
use Rattle.std.specs.Prelude.{slice_index_or}
use Rattle.std.proofs.lemmas.List.{get_or_default}
use Rattle.smv_evaluation.specs.declared.rows.Values.{Values}
use Rattle.smv_evaluation.specs.Rows.{AreGiven, MarkedSafe}
use Rattle.smv_meaning.specs.Bodies.{placed_bodies}
use Rattle.smv_instances.specs.View.{instance_plain}
use Rattle.smv_references.specs.View.{body_plain}
use Rattle.smv_evaluation.specs.View.{stated}
use Rattle.smv_laws.proofs.Ranked.{key}
use Rattle.smv_references.specs.laws.NumberLemmas.{read}
use Rattle.smv_laws.proofs.Positions.{at_place}
use Rattle.smv_evaluation.proofs.Positions.{kept_low, kept_at}
use Rattle.smv_evaluation.proofs.Filling.{ready, kept_on, kept_end, kept_none}
use Rattle.smv_evaluation.proofs.fill.keep_all.Goals as goal

pub loop-number-init : goal.loop-number-init
loop-number-init c = record { state = refl; kept = kept_none c.args.table.now c.args.reach.now.order c.args.reach.now.marks c.args.row.now c.args.label.now }

pub keep_marked-requires : goal.keep_marked-requires
keep_marked-requires c =
    let ts = c.args.table.now in
    let t = map instance_plain ts in
    let order = c.args.reach.now.order in
    let fs = c.as_slice-bodies.result.now in
    let many : map body_plain fs ≡ placed_bodies t = ap (map body_plain) c.as_slice-bodies.ensures.value ∙ c.requires.ordered.bodies in
    let n = c.loop-number.number-index in
    let xs = c.as_slice-number-items.result.now in
    let k = slice_index_or xs n 0 in
    let less = subst (λ ys. n < length ys) c.as_slice-number-items.ensures c.loop-number-test.true in
    let is = subst (λ ys. k ≡ slice_index_or ys n k) c.as_slice-number-items.ensures (get_or_default xs n 0 k c.loop-number-test.true) in
    let f = read fs k in
    let low = kept_low fs t order many c.requires.ordered.order c.loop-number.number-index k less is in
    let at : at_place t order n ≡ key f.instance f.name.now =
    kept_at fs t order many c.requires.ordered.order c.loop-number.number-index k f less is (get_or_default fs k _ _ low) in
    let right : AreGiven c.loop-number.row.state = subst (λ (v : Values). AreGiven v) (sym c.loop-number.invariant.state) c.requires.state in
    let safe : MarkedSafe t c.args.reach.now.marks (stated c.loop-number.row.state.given) (stated c.args.label.now.given) =
    subst (λ (v : Values). MarkedSafe t c.args.reach.now.marks (stated v.given) (stated c.args.label.now.given)) (sym c.loop-number.invariant.state) c.requires.safe in
    λ m. ready ts order c.requires.ordered.order c.args.reach.now.marks c.requires.closed c.loop-number.row c.args.label.now right c.requires.label safe c.loop-number.number-index less c.loop-number.invariant.kept f.instance f.name.now at m

pub loop-number-preserved : goal.loop-number-preserved
loop-number-preserved c =
    let ts = c.args.table.now in
    let t = map instance_plain ts in
    let order = c.args.reach.now.order in
    let fs = c.as_slice-bodies.result.now in
    let many : map body_plain fs ≡ placed_bodies t = ap (map body_plain) c.as_slice-bodies.ensures.value ∙ c.requires.ordered.bodies in
    let n = c.loop-number.number-index in
    let xs = c.as_slice-number-items.result.now in
    let k = slice_index_or xs n 0 in
    let less = subst (λ ys. n < length ys) c.as_slice-number-items.ensures c.loop-number-test.true in
    let is = subst (λ ys. k ≡ slice_index_or ys n k) c.as_slice-number-items.ensures (get_or_default xs n 0 k c.loop-number-test.true) in
    let f = read fs k in
    let low = kept_low fs t order many c.requires.ordered.order c.loop-number.number-index k less is in
    let at : at_place t order n ≡ key f.instance f.name.now =
    kept_at fs t order many c.requires.ordered.order c.loop-number.number-index k f less is (get_or_default fs k _ _ low) in
    record {
      state = c.in_ok-keep_marked.ensures.state ∙ c.loop-number.invariant.state;
      kept = kept_on ts order c.requires.ordered.order c.args.reach.now.marks c.loop-number.row c.keep_marked.new.row c.args.label.now c.loop-number.number-index less f.instance f.name.now at
          c.in_ok-keep_marked.ensures.state c.in_ok-keep_marked.ensures.kept c.loop-number.invariant.kept;
    }

pub returns-clause-kept : goal.returns-clause-kept
returns-clause-kept c =
    kept_end c.args.table.now c.args.reach.now.order c.requires.ordered.order c.args.reach.now.marks c.loop-number.row c.args.label.now c.loop-number.number-index (subst (λ ys. length ys ≤ c.loop-number.number-index) c.as_slice-number-items.ensures c.loop-number-test.false) c.loop-number.invariant.kept
