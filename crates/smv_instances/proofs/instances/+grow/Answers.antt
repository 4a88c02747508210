use Rattle.std.proofs.Common.{◌≡◌, ◌-◌, map, length, Some, rules, sym, ap, ◌∙◌}
use Rattle.std.specs.Prelude.{slice_get}
use Rattle.smv_text.specs.View.{plain_module, plain_item}
use Rattle.smv_meaning.specs.Instances.{child_of, with_child, grow, grow_items}
use Rattle.smv_meaning.specs.Names.{path_in}
use Rattle.smv_instances.specs.View.{instance_plain, instance_or_none}
use Rattle.smv_instances.proofs.Grow.{grow_begins, begins_within, path_read, kept_within, items_within}
use Rattle.smv_instances.proofs.instances.+grow.Goals as goal

pub extend-loop-element-init : goal.extend-loop-element-init
extend-loop-element-init t c =
    let l : c.len-i.result ≡ length c.args.table.now.items = search rules in
    record { grown = search (rules, grow_begins); own = begins_within c.args.table.now.items c.push.new.self.items c.args.new c.len-i.result l c.in_ok-push.ensures.items }

pub extend-loop-element-preserved-in-Continue-branch-2 : goal.extend-loop-element-preserved-in-Continue-branch-2
extend-loop-element-preserved-in-Continue-branch-2 t c =
    let ms = map plain_module c.args.modules.now in
    let was = map instance_plain c.loop-element.table.items in
    let items = map plain_item c.in-Vars.items in
    let same : map instance_plain c.extend_items.new.table.items ≡ grow_items (grow (c.args.deep - 1) ms) ms c.len-i.result c.args.new.path items was =
    c.in_ok-extend_items-in-Vars.ensures ∙ ap (λ q. grow_items (grow (c.args.deep - 1) ms) ms c.len-i.result q items was) c.loop-element.invariant.own.1 in
    record {
      grown = search (rules, same);
      own = items_within ms (c.args.deep - 1) c.len-i.result c.args.new.path items c.loop-element.table.items c.extend_items.new.table.items c.len-i.result c.args.new.path same c.loop-element.invariant.own;
    }

pub extend_items-loop-item-preserved : goal.extend_items-loop-item-preserved
extend_items-loop-item-preserved t c =
    let ms = map plain_module c.args.modules.now in
    let was = map instance_plain c.loop-item.table.items in
    let item = plain_item c.in-Some.item.now in
    let path = path_in (slice_get (map instance_plain c.args.table.now.items) c.args.i) in
    let made : Some (instance_plain c.in-Some-2.below) ≡ child_of ms c.args.i path item =
    ap instance_or_none (sym c.in-Some-2.is) ∙ c.in_ok-child.ensures ∙ ap (λ q. child_of ms c.args.i q item) (c.bytes.ensures ∙ path_read c.loop-item.table.items c.args.i c.index.result.now path c.loop-item.invariant.own c.index.ensures) in
    let same : map instance_plain c.extend.new.table.items ≡ with_child (grow c.args.deep ms) (child_of ms c.args.i path item) was =
    c.in_ok-extend-in-Some-2.ensures ∙ ap (λ o. with_child (grow c.args.deep ms) o was) made in
    record {
      grown = search (rules, same);
      own = kept_within ms c.args.deep (instance_plain c.in-Some-2.below) c.loop-item.table.items c.extend.new.table.items c.args.i path c.in_ok-extend-in-Some-2.ensures c.loop-item.invariant.own;
    }
