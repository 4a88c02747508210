use Rattle.std.proofs.Common.{◌≡◌, true, ◌+◌, ◌++◌, List, length, map, drop, refl, sym, ◌∙◌, subst}
use Rattle.text_core.proofs.ListLaws.{append_none}
use Rattle.smv_meaning.specs.Checks.{first_failing}
use Rattle.smv_meaning.specs.Names.{found_in}
use Rattle.smv_meaning.specs.Phases.{over_instances, path_checks}
use Rattle.smv_meaning.specs.laws.Lists.{front_is, end_is}
use Rattle.smv_instances.specs.View.{instance_plain}
use Rattle.smv_instances.specs.declared.instances.Instance.{Instance}
use Rattle.smv_model_types.specs.declared.built.Building.{Building}
use Rattle.smv_model_types.specs.Building.{assigned_here}
use Rattle.smv_model_types.proofs.Instances.{Passes, passes_start, passes_ready, passes_step}
use Rattle.smv_model_types.proofs.Numbered.{numbered_same}
use Rattle.smv_model_types.proofs.types.types_checked.Goals as goal

pub loop-i-init : goal.loop-i-init
loop-i-init c =
    let t = map instance_plain c.args.table.now in
    let built : Building = record { forms = c.in_ok-forms.forms; rest = c.new.result; assigned = c.new-2.result; types = c.in_ok-types.types; kept = c.in_ok-typed.typed.kept; all_found = true } in
    subst (λ (parts : List Instance). Passes t 0 (map instance_plain parts) built) (sym c.list-part-items.ensures)
    (passes_start t built c.in_ok-types.ensures.items c.in_ok-forms.ensures.items c.new.ensures.items c.new-2.ensures.items c.in_ok-typed.ensures.kept)

pub add_instance-requires-clause-ready : goal.add_instance-requires-clause-ready
add_instance-requires-clause-ready c =
    let t = map instance_plain c.args.table.now in
    let parts = c.list-part-items.result.now in
    let front = front_is parts c.loop-i.i (length parts) c.part-item.result refl c.loop-i-test.true c.part-item.is in
    passes_ready t c.loop-i.i (instance_plain c.part-item.result) (map instance_plain (drop (c.loop-i.i + 1) parts)) c.loop-i.built
    (subst (λ (xs : List Instance). Passes t c.loop-i.i (map instance_plain xs) c.loop-i.built) front c.loop-i.invariant)

pub loop-i-preserved : goal.loop-i-preserved
loop-i-preserved c =
    let t = map instance_plain c.args.table.now in
    let parts = c.list-part-items.result.now in
    let front = front_is parts c.loop-i.i (length parts) c.part-item.result refl c.loop-i-test.true c.part-item.is in
    passes_step t c.loop-i.i (instance_plain c.part-item.result) (map instance_plain (drop (c.loop-i.i + 1) parts)) c.loop-i.built c.add_instance.new.built
    (subst (λ (xs : List Instance). Passes t c.loop-i.i (map instance_plain xs) c.loop-i.built) front c.loop-i.invariant) c.in_ok-add_instance.ensures.checks c.in_ok-add_instance.ensures.adds c.in_ok-add_instance.ensures.found

pub returns-clause-assigned : goal.returns-clause-assigned
returns-clause-assigned c =
    let t = map instance_plain c.args.table.now in
    let parts = c.list-part-items.result.now in
    let list = c.loop-i.built.assigned.items in
    let none = end_is parts c.loop-i.i (length parts) refl c.loop-i-test.false in
    let all = subst (λ (xs : List Instance). list ++ over_instances (assigned_here t) c.loop-i.i (map instance_plain xs) ≡ over_instances (assigned_here t) 0 t) none c.loop-i.invariant.assigned in
    numbered_same t list (sym (append_none list) ∙ all)

pub returns-clause-found : goal.returns-clause-found
returns-clause-found c = λ e.
    let t = map instance_plain c.args.table.now in
    let parts = c.list-part-items.result.now in
    let none = end_is parts c.loop-i.i (length parts) refl c.loop-i-test.false in
    subst (λ (xs : List Instance). first_failing (over_instances (path_checks (found_in t)) 0 t) ≡ first_failing (over_instances (path_checks (found_in t)) c.loop-i.i (map instance_plain xs))) none (c.loop-i.invariant.found e)
