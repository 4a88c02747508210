use Rattle.std.proofs.Common.{rules, ◌≡◌, true, map, subst}
use Rattle.std.specs.Slice.Iter.{iter_rest}
use Rattle.smv_meaning.specs.Settled.{types_in}
use Rattle.smv_instances.specs.View.{instance_plain}
use Rattle.smv_model_types.specs.Building.{element_pieces, paths_here}
use Rattle.smv_model_types.proofs.Walks.{Walks, walks_over, walks_start, walks_here, walks_step, walks_stop, walks_checks, walks_end, walks_finds, walks_ready}
use Rattle.smv_text.specs.View.{plain_element}
use Rattle.smv_meaning.specs.Phases.{element_typing}
use Rattle.smv_items.specs.FlatItems.{element_items}
use Rattle.smv_model_types.proofs.building.add_elements.Goals as goal

pub loop-element-init : goal.loop-element-init
loop-element-init c =
    let t = map instance_plain c.args.context.now.model.now.table.now in
    let f = element_typing (types_in true t c.args.i) in
    let m = element_items c.args.i in
    let g = element_pieces t c.args.i in
    let k = paths_here t c.args.i in
    let all = map plain_element c.args.elements.now in
    let e : c.args.elements.now ≡ iter_rest c.into_iter-element-iterator.result = search (rules, c.into_iter-element-iterator.ensures) in
    subst (λ xs. Walks t f m g k all c.args.built.now (map plain_element xs) c.args.built.now) e (walks_start t f m g k all c.args.built.now)

pub add_element-requires : goal.add_element-requires
add_element-requires c =
    let t = map instance_plain c.args.context.now.model.now.table.now in
    let f = element_typing (types_in true t c.args.i) in
    let m = element_items c.args.i in
    let g = element_pieces t c.args.i in
    let k = paths_here t c.args.i in
    let all = map plain_element c.args.elements.now in
    let rest = iter_rest c.next.new.self in
    record { ready = walks_ready t f m g k all c.args.built.now (plain_element c.in-Some.element.now) (map plain_element rest) c.loop-element.built (walks_here t f m g k all c.args.built.now plain_element (iter_rest c.loop-element.element-iterator) c.in-Some.element.now rest c.loop-element.built c.in-Some.ensures.steps c.loop-element.invariant) c.requires.ready }

pub loop-element-preserved : goal.loop-element-preserved
loop-element-preserved c =
    let t = map instance_plain c.args.context.now.model.now.table.now in
    let f = element_typing (types_in true t c.args.i) in
    let m = element_items c.args.i in
    let g = element_pieces t c.args.i in
    let k = paths_here t c.args.i in
    let all = map plain_element c.args.elements.now in
    let rest = iter_rest c.next.new.self in
    walks_step t f m g k all c.args.built.now (plain_element c.in-Some.element.now) (map plain_element rest) c.loop-element.built c.add_element.new.built (walks_here t f m g k all c.args.built.now plain_element (iter_rest c.loop-element.element-iterator) c.in-Some.element.now rest c.loop-element.built c.in-Some.ensures.steps c.loop-element.invariant)
    c.in_ok-add_element.ensures.checks c.in_ok-add_element.ensures.adds c.in_ok-add_element.ensures.found

pub returns-in_err-add_element-clause-checks : goal.returns-in_err-add_element-clause-checks
returns-in_err-add_element-clause-checks c =
    let t = map instance_plain c.args.context.now.model.now.table.now in
    let f = element_typing (types_in true t c.args.i) in
    let m = element_items c.args.i in
    let g = element_pieces t c.args.i in
    let k = paths_here t c.args.i in
    let all = map plain_element c.args.elements.now in
    let rest = iter_rest c.next.new.self in
    let stop = walks_stop t f m g k all c.args.built.now (plain_element c.in-Some.element.now) (map plain_element rest) c.loop-element.built c.in_err-add_element.field-0.0 (walks_here t f m g k all c.args.built.now plain_element (iter_rest c.loop-element.element-iterator) c.in-Some.element.now rest c.loop-element.built c.in-Some.ensures.steps c.loop-element.invariant)
    c.in_err-add_element.ensures.checks in
    search (rules, c.from_residual.ensures, stop)

pub returns-clause-checks : goal.returns-clause-checks
returns-clause-checks c =
    let t = map instance_plain c.args.context.now.model.now.table.now in
    let f = element_typing (types_in true t c.args.i) in
    let m = element_items c.args.i in
    let g = element_pieces t c.args.i in
    let k = paths_here t c.args.i in
    let all = map plain_element c.args.elements.now in
    walks_checks t f m g k all c.args.built.now c.loop-element.built
    (walks_over t f m g k all c.args.built.now plain_element (iter_rest c.loop-element.element-iterator) c.loop-element.built c.in-None.ensures.steps.0 c.loop-element.invariant)

pub returns-clause-adds : goal.returns-clause-adds
returns-clause-adds c =
    let t = map instance_plain c.args.context.now.model.now.table.now in
    let f = element_typing (types_in true t c.args.i) in
    let m = element_items c.args.i in
    let g = element_pieces t c.args.i in
    let k = paths_here t c.args.i in
    let all = map plain_element c.args.elements.now in
    let old = c.args.built.now in
    let now = c.loop-element.built in
    let end = walks_end t f m g k all old now (walks_over t f m g k all old plain_element (iter_rest c.loop-element.element-iterator) now c.in-None.ensures.steps.0 c.loop-element.invariant) in
    end

pub returns-clause-found : goal.returns-clause-found
returns-clause-found c =
    let t = map instance_plain c.args.context.now.model.now.table.now in
    let f = element_typing (types_in true t c.args.i) in
    let m = element_items c.args.i in
    let g = element_pieces t c.args.i in
    let k = paths_here t c.args.i in
    let all = map plain_element c.args.elements.now in
    let old = c.args.built.now in
    let now = c.loop-element.built in
    walks_finds t f m g k all old now (walks_over t f m g k all old plain_element (iter_rest c.loop-element.element-iterator) now c.in-None.ensures.steps.0 c.loop-element.invariant)
