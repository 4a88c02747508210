use Rattle.std.proofs.Common.{◌≡◌, ◌+◌, ◌-◌, ◌*◌, map}
use Rattle.std.specs.Prelude.{slice_get}
use Rattle.std.specs.Slice.Iter.{iter_rest}
use Rattle.smv_text.specs.View.{plain_module, plain_element, plain_item}
use Rattle.smv_meaning.specs.Instances.{grow, grow_elements, grow_items}
use Rattle.smv_meaning.specs.Names.{path_in}
use Rattle.smv_instances.specs.View.{instance_plain}
use Rattle.smv_instances.proofs.Grow.{HasPath}
use Rattle.smv_instances.proofs.instances.+grow.Given as goal

abbrev pub decreases-extend : goal.decreases-extend
decreases-extend l = 2 * l.deep

abbrev pub decreases-extend_items : goal.decreases-extend_items
decreases-extend_items l = 2 * l.deep + 1

abbrev pub invariant-extend-loop-element : goal.invariant-extend-loop-element
invariant-extend-loop-element l = record {
  grown :
      grow_elements (grow (l.deep - 1) (map plain_module l.modules)) (map plain_module l.modules) l.i l.fn.new.path (map plain_element (iter_rest l.element-iterator)) (map instance_plain l.table.items)
      ≡ grow l.deep (map plain_module l.modules) (instance_plain l.fn.new) (map instance_plain l.fn.table.items);
  own : HasPath (map instance_plain l.table.items) l.i l.fn.new.path;
}

abbrev pub invariant-extend_items-loop-item : goal.invariant-extend_items-loop-item
invariant-extend_items-loop-item l = record {
  grown :
      grow_items (grow l.deep (map plain_module l.modules)) (map plain_module l.modules) l.i (path_in (slice_get (map instance_plain l.fn.table.items) l.i)) (map plain_item (iter_rest l.item-iterator)) (map instance_plain l.table.items)
      ≡ grow_items (grow l.deep (map plain_module l.modules)) (map plain_module l.modules) l.i (path_in (slice_get (map instance_plain l.fn.table.items) l.i)) (map plain_item l.items) (map instance_plain l.fn.table.items);
  own : HasPath (map instance_plain l.table.items) l.i (path_in (slice_get (map instance_plain l.fn.table.items) l.i));
}
