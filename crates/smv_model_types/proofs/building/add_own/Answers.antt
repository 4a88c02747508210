use Rattle.std.proofs.Common.{rules, drop, ◌+◌, true, List, length, map, flat_map, subst, refl}
use Rattle.smv_text.specs.declared.tree.Expr.{Expr}
use Rattle.smv_meaning.specs.laws.Lists.{front_is, end_is}
use Rattle.smv_meaning.specs.Settled.{types_in}
use Rattle.smv_instances.specs.View.{instance_plain}
use Rattle.smv_model_types.specs.Building.{Piece, Adds}
use Rattle.smv_model_types.proofs.Walks.{Walks, adds_none, none_all, walks_here, walks_step, walks_stop, walks_checks, walks_end, walks_finds, walks_ready}
use Rattle.smv_text.specs.Tree.{Tree}
use Rattle.smv_text.specs.View.{plain}
use Rattle.smv_meaning.specs.Phases.{actual_typing}
use Rattle.smv_model_types.specs.Building.{own_items, expression_paths}
use Rattle.smv_model_types.proofs.building.add_own.Goals as goal

pub add_actual-requires : goal.add_actual-requires
add_actual-requires c =
    let t = map instance_plain c.args.context.now.model.now.table.now in
    let f = actual_typing (types_in true t c.args.parent) in
    let m = own_items c.args.i c.args.parent in
    let g = λ (e : Tree). adds_none {Y = Piece} e in
    let k = expression_paths t c.args.parent in
    let all = map plain c.args.actuals.now in
    let xs = c.args.actuals.now in
    let rest = drop (c.loop-actual.actual-index + 1) xs in
    let front = front_is xs c.loop-actual.actual-index (length xs) c.actual-item.result refl c.loop-actual-test.true c.actual-item.is in
    record { ready = walks_ready t f m g k all c.args.built.now (plain c.actual-item.result) (map plain rest) c.loop-actual.built (walks_here t f m g k all c.args.built.now plain (drop c.loop-actual.actual-index xs) c.actual-item.result rest c.loop-actual.built front c.loop-actual.invariant) c.requires.ready }

pub loop-actual-preserved : goal.loop-actual-preserved
loop-actual-preserved c =
    let t = map instance_plain c.args.context.now.model.now.table.now in
    let f = actual_typing (types_in true t c.args.parent) in
    let m = own_items c.args.i c.args.parent in
    let g = λ (e : Tree). adds_none {Y = Piece} e in
    let k = expression_paths t c.args.parent in
    let all = map plain c.args.actuals.now in
    let xs = c.args.actuals.now in
    let rest = drop (c.loop-actual.actual-index + 1) xs in
    let front = front_is xs c.loop-actual.actual-index (length xs) c.actual-item.result refl c.loop-actual-test.true c.actual-item.is in
    walks_step t f m g k all c.args.built.now (plain c.actual-item.result) (map plain rest) c.loop-actual.built c.add_actual.new.built (walks_here t f m g k all c.args.built.now plain (drop c.loop-actual.actual-index xs) c.actual-item.result rest c.loop-actual.built front c.loop-actual.invariant)
    c.in_ok-add_actual.ensures.checks c.in_ok-add_actual.ensures.adds c.in_ok-add_actual.ensures.found

pub returns-in_err-add_actual-clause-checks : goal.returns-in_err-add_actual-clause-checks
returns-in_err-add_actual-clause-checks c =
    let t = map instance_plain c.args.context.now.model.now.table.now in
    let f = actual_typing (types_in true t c.args.parent) in
    let m = own_items c.args.i c.args.parent in
    let g = λ (e : Tree). adds_none {Y = Piece} e in
    let k = expression_paths t c.args.parent in
    let all = map plain c.args.actuals.now in
    let xs = c.args.actuals.now in
    let rest = drop (c.loop-actual.actual-index + 1) xs in
    let front = front_is xs c.loop-actual.actual-index (length xs) c.actual-item.result refl c.loop-actual-test.true c.actual-item.is in
    let stop = walks_stop t f m g k all c.args.built.now (plain c.actual-item.result) (map plain rest) c.loop-actual.built c.in_err-add_actual.field-0.0 (walks_here t f m g k all c.args.built.now plain (drop c.loop-actual.actual-index xs) c.actual-item.result rest c.loop-actual.built front c.loop-actual.invariant)
    c.in_err-add_actual.ensures.checks in
    search (rules, c.from_residual.ensures, stop)

pub returns-clause-checks : goal.returns-clause-checks
returns-clause-checks c =
    let t = map instance_plain c.args.context.now.model.now.table.now in
    let f = actual_typing (types_in true t c.args.parent) in
    let m = own_items c.args.i c.args.parent in
    let g = λ (e : Tree). adds_none {Y = Piece} e in
    let k = expression_paths t c.args.parent in
    let all = map plain c.args.actuals.now in
    walks_checks t f m g k all c.args.built.now c.loop-actual.built
    (subst (λ (xs : List Expr). Walks t f m g k all c.args.built.now (map plain xs) c.loop-actual.built) (end_is c.args.actuals.now c.loop-actual.actual-index (length c.args.actuals.now) refl c.loop-actual-test.false) c.loop-actual.invariant)

pub returns-clause-adds : goal.returns-clause-adds
returns-clause-adds c =
    let t = map instance_plain c.args.context.now.model.now.table.now in
    let f = actual_typing (types_in true t c.args.parent) in
    let m = own_items c.args.i c.args.parent in
    let g = λ (e : Tree). adds_none {Y = Piece} e in
    let k = expression_paths t c.args.parent in
    let all = map plain c.args.actuals.now in
    let old = c.args.built.now in
    let now = c.loop-actual.built in
    let end = walks_end t f m g k all old now (subst (λ (xs : List Expr). Walks t f m g k all old (map plain xs) now) (end_is c.args.actuals.now c.loop-actual.actual-index (length c.args.actuals.now) refl c.loop-actual-test.false) c.loop-actual.invariant) in
    subst (λ (ps : List Piece). Adds t (flat_map m all) ps old now) (none_all all) end

pub returns-clause-found : goal.returns-clause-found
returns-clause-found c =
    let t = map instance_plain c.args.context.now.model.now.table.now in
    let f = actual_typing (types_in true t c.args.parent) in
    let m = own_items c.args.i c.args.parent in
    let g = λ (e : Tree). adds_none {Y = Piece} e in
    let k = expression_paths t c.args.parent in
    let all = map plain c.args.actuals.now in
    let old = c.args.built.now in
    let now = c.loop-actual.built in
    walks_finds t f m g k all old now (subst (λ (xs : List Expr). Walks t f m g k all old (map plain xs) now) (end_is c.args.actuals.now c.loop-actual.actual-index (length c.args.actuals.now) refl c.loop-actual-test.false) c.loop-actual.invariant)
