use Rattle.std.proofs.Common.{rules, ◌≡◌, true, List, [], ◌∷◌, map, flat_map, subst, refl, sym}
use Rattle.std.specs.Slice.Iter.{iter_rest}
use Rattle.smv_text.specs.Tree.{PlainDefinition}
use Rattle.smv_text.specs.View.{plain_definition}
use Rattle.smv_meaning.specs.Settled.{types_in}
use Rattle.smv_instances.specs.View.{instance_plain}
use Rattle.smv_items.specs.FlatItems.{Origin, definition_item}
use Rattle.smv_model_types.specs.Building.{Piece, Adds, IsReady, expression_paths}
use Rattle.smv_model_types.specs.Outcome.{definition_typing}
use Rattle.smv_model_types.proofs.BuildingLaws.{definition_adds}
use Rattle.smv_model_types.proofs.Ready.{definition_next}
use Rattle.smv_model_types.proofs.Walks.{Walks, walks_over, adds_none, none_all, singles, walks_start, walks_here, walks_step, walks_stop, walks_checks, walks_end, walks_finds, walks_ready}
use Rattle.smv_model_types.proofs.building.add_definitions.Goals as goal

pub loop-definition-init : goal.loop-definition-init
loop-definition-init c =
    let t = map instance_plain c.args.context.now.model.now.table.now in
    let f = definition_typing (types_in true t c.args.i) in
    let m = λ (d : PlainDefinition). definition_item c.args.i d ∷ [] in
    let k = λ (d : PlainDefinition). expression_paths t c.args.i d.body in
    let all = map plain_definition c.args.definitions.now in
    let e : c.args.definitions.now ≡ iter_rest c.into_iter-definition-iterator.result = search (rules, c.into_iter-definition-iterator.ensures) in
    subst (λ xs. Walks t f m adds_none k all c.args.built.now (map plain_definition xs) c.args.built.now) e (walks_start t f m adds_none k all c.args.built.now)

pub add_body-requires : goal.add_body-requires
add_body-requires c =
    let t = map instance_plain c.args.context.now.model.now.table.now in
    let f = definition_typing (types_in true t c.args.i) in
    let m = λ (d : PlainDefinition). definition_item c.args.i d ∷ [] in
    let k = λ (d : PlainDefinition). expression_paths t c.args.i d.body in
    let all = map plain_definition c.args.definitions.now in
    let rest = iter_rest c.next.new.self in
    let ready = subst (λ (ms : List Origin). IsReady t ms c.args.built.now) (sym (singles (definition_item c.args.i) all)) c.requires.ready in
    let d = plain_definition c.in-Some.definition.now in
    let next = walks_ready t f m adds_none k all c.args.built.now d (map plain_definition rest) c.loop-definition.built
    (walks_here t f m adds_none k all c.args.built.now plain_definition (iter_rest c.loop-definition.definition-iterator) c.in-Some.definition.now rest c.loop-definition.built c.in-Some.ensures.steps c.loop-definition.invariant) ready in
    record { kept = next.kept; body = definition_next t (definition_item c.args.i d) c.args.i d.body c.loop-definition.built refl next }

pub loop-definition-preserved : goal.loop-definition-preserved
loop-definition-preserved c =
    let t = map instance_plain c.args.context.now.model.now.table.now in
    let f = definition_typing (types_in true t c.args.i) in
    let m = λ (d : PlainDefinition). definition_item c.args.i d ∷ [] in
    let k = λ (d : PlainDefinition). expression_paths t c.args.i d.body in
    let all = map plain_definition c.args.definitions.now in
    let rest = iter_rest c.next.new.self in
    let d = plain_definition c.in-Some.definition.now in
    walks_step t f m adds_none k all c.args.built.now d (map plain_definition rest) c.loop-definition.built c.add_body.new.built
    (walks_here t f m adds_none k all c.args.built.now plain_definition (iter_rest c.loop-definition.definition-iterator) c.in-Some.definition.now rest c.loop-definition.built c.in-Some.ensures.steps c.loop-definition.invariant)
    c.in_ok-add_body.ensures.checks (definition_adds t c.args.i c.args.i d.name d.body c.loop-definition.built c.add_body.new.built c.in_ok-add_body.ensures.adds) c.in_ok-add_body.ensures.found

pub returns-in_err-add_body-clause-checks : goal.returns-in_err-add_body-clause-checks
returns-in_err-add_body-clause-checks c =
    let t = map instance_plain c.args.context.now.model.now.table.now in
    let f = definition_typing (types_in true t c.args.i) in
    let m = λ (d : PlainDefinition). definition_item c.args.i d ∷ [] in
    let k = λ (d : PlainDefinition). expression_paths t c.args.i d.body in
    let all = map plain_definition c.args.definitions.now in
    let rest = iter_rest c.next.new.self in
    let stop = walks_stop t f m adds_none k all c.args.built.now (plain_definition c.in-Some.definition.now) (map plain_definition rest) c.loop-definition.built c.in_err-add_body.field-0.0
    (walks_here t f m adds_none k all c.args.built.now plain_definition (iter_rest c.loop-definition.definition-iterator) c.in-Some.definition.now rest c.loop-definition.built c.in-Some.ensures.steps c.loop-definition.invariant)
    c.in_err-add_body.ensures.checks in
    search (rules, c.from_residual.ensures, stop)

pub returns-clause-checks : goal.returns-clause-checks
returns-clause-checks c =
    let t = map instance_plain c.args.context.now.model.now.table.now in
    let f = definition_typing (types_in true t c.args.i) in
    let m = λ (d : PlainDefinition). definition_item c.args.i d ∷ [] in
    let k = λ (d : PlainDefinition). expression_paths t c.args.i d.body in
    let all = map plain_definition c.args.definitions.now in
    walks_checks t f m adds_none k all c.args.built.now c.loop-definition.built
    (walks_over t f m adds_none k all c.args.built.now plain_definition (iter_rest c.loop-definition.definition-iterator) c.loop-definition.built c.in-None.ensures.steps.0 c.loop-definition.invariant)

pub returns-clause-adds : goal.returns-clause-adds
returns-clause-adds c =
    let t = map instance_plain c.args.context.now.model.now.table.now in
    let f = definition_typing (types_in true t c.args.i) in
    let m = λ (d : PlainDefinition). definition_item c.args.i d ∷ [] in
    let k = λ (d : PlainDefinition). expression_paths t c.args.i d.body in
    let all = map plain_definition c.args.definitions.now in
    let old = c.args.built.now in
    let now = c.loop-definition.built in
    subst (λ ms. Adds t ms [] old now) (singles (definition_item c.args.i) all)
    (subst (λ (ps : List Piece). Adds t (flat_map m all) ps old now) (none_all all)
    (walks_end t f m adds_none k all old now
    (walks_over t f m adds_none k all old plain_definition (iter_rest c.loop-definition.definition-iterator) now c.in-None.ensures.steps.0 c.loop-definition.invariant)))

pub returns-clause-found : goal.returns-clause-found
returns-clause-found c =
    let t = map instance_plain c.args.context.now.model.now.table.now in
    let f = definition_typing (types_in true t c.args.i) in
    let m = λ (d : PlainDefinition). definition_item c.args.i d ∷ [] in
    let k = λ (d : PlainDefinition). expression_paths t c.args.i d.body in
    let all = map plain_definition c.args.definitions.now in
    let old = c.args.built.now in
    let now = c.loop-definition.built in
    walks_finds t f m adds_none k all old now
    (walks_over t f m adds_none k all old plain_definition (iter_rest c.loop-definition.definition-iterator) now c.in-None.ensures.steps.0 c.loop-definition.invariant)
