use Rattle.std.proofs.Common.{rules, ◌≡◌, List, [], map, flat_map, subst}
use Rattle.std.specs.Slice.Iter.{iter_rest}
use Rattle.smv_text.specs.declared.tree.VarKind.TheVariants as OfVarKind
use Rattle.smv_text.specs.View.{plain_item}
use Rattle.smv_items.specs.FlatItems.{variable_item}
use Rattle.smv_meaning.specs.Checks.{Check}
use Rattle.smv_model_types.specs.Building.{Piece, Adds, Finds}
use Rattle.smv_model_types.specs.Outcome.{item_typing}
use Rattle.smv_model_types.proofs.Walks.{Walks, walks_over, adds_none, none_all, walks_start, walks_here, walks_step, walks_stop, walks_checks, walks_end, walks_finds}
use Rattle.smv_model_types.proofs.building.add_items.Goals as goal

pub loop-item-init : goal.loop-item-init
loop-item-init c = λ t i kind.
    let m = variable_item i kind in
    let all = map plain_item c.args.items.now in
    let e : c.args.items.now ≡ iter_rest c.into_iter-item-iterator.result = search (rules, c.into_iter-item-iterator.ensures) in
    subst (λ xs. Walks t item_typing m adds_none adds_none all c.args.built.now (map plain_item xs) c.args.built.now) e (walks_start t item_typing m adds_none adds_none all c.args.built.now)

pub loop-item-preserved : goal.loop-item-preserved
loop-item-preserved c = λ t i kind.
    let m = variable_item i kind in
    let all = map plain_item c.args.items.now in
    let rest = iter_rest c.next.new.self in
    walks_step t item_typing m adds_none adds_none all c.args.built.now (plain_item c.in-Some.item.now) (map plain_item rest) c.loop-item.built c.add_item.new.built
    (walks_here t item_typing m adds_none adds_none all c.args.built.now plain_item (iter_rest c.loop-item.item-iterator) c.in-Some.item.now rest c.loop-item.built c.in-Some.ensures.steps (c.loop-item.invariant t i kind))
    c.in_ok-add_item.ensures.checks (c.in_ok-add_item.ensures.adds t i kind) c.in_ok-add_item.ensures.found

pub returns-in_err-add_item-clause-checks : goal.returns-in_err-add_item-clause-checks
returns-in_err-add_item-clause-checks c =
    let m = variable_item 0 OfVarKind.State in
    let all = map plain_item c.args.items.now in
    let rest = iter_rest c.next.new.self in
    let stop = walks_stop [] item_typing m adds_none adds_none all c.args.built.now (plain_item c.in-Some.item.now) (map plain_item rest) c.loop-item.built c.in_err-add_item.field-0.0
    (walks_here [] item_typing m adds_none adds_none all c.args.built.now plain_item (iter_rest c.loop-item.item-iterator) c.in-Some.item.now rest c.loop-item.built c.in-Some.ensures.steps (c.loop-item.invariant [] 0 OfVarKind.State))
    c.in_err-add_item.ensures.checks in
    search (rules, c.from_residual.ensures, stop)

pub returns-clause-checks : goal.returns-clause-checks
returns-clause-checks c =
    let m = variable_item 0 OfVarKind.State in
    let all = map plain_item c.args.items.now in
    walks_checks [] item_typing m adds_none adds_none all c.args.built.now c.loop-item.built
    (walks_over [] item_typing m adds_none adds_none all c.args.built.now plain_item (iter_rest c.loop-item.item-iterator) c.loop-item.built c.in-None.ensures.steps.0 (c.loop-item.invariant [] 0 OfVarKind.State))

pub returns-clause-adds : goal.returns-clause-adds
returns-clause-adds c = λ t i kind.
    let m = variable_item i kind in
    let all = map plain_item c.args.items.now in
    let old = c.args.built.now in
    let now = c.loop-item.built in
    subst (λ (ps : List Piece). Adds t (flat_map m all) ps old now) (none_all all)
    (walks_end t item_typing m adds_none adds_none all old now
    (walks_over t item_typing m adds_none adds_none all old plain_item (iter_rest c.loop-item.item-iterator) now c.in-None.ensures.steps.0 (c.loop-item.invariant t i kind)))

pub returns-clause-found : goal.returns-clause-found
returns-clause-found c =
    let m = variable_item 0 OfVarKind.State in
    let all = map plain_item c.args.items.now in
    let old = c.args.built.now in
    let now = c.loop-item.built in
    subst (λ (cs : List Check). Finds cs old now) (none_all all)
    (walks_finds [] item_typing m adds_none adds_none all old now
    (walks_over [] item_typing m adds_none adds_none all old plain_item (iter_rest c.loop-item.item-iterator) now c.in-None.ensures.steps.0 (c.loop-item.invariant [] 0 OfVarKind.State)))
