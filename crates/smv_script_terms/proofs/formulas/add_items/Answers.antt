use Rattle.std.proofs.Common.{map}
use Rattle.moxi_terms.specs.View.{plain}
use Rattle.smv_items.specs.FlatItemView.{item_plain}
use Rattle.smv_script.specs.Script.{item_parts}
use Rattle.smv_flat.specs.FlatParts.{parts_plain}
use Rattle.smv_script_terms.specs.FlatChains.{instance_count}
use Rattle.smv_script_terms.specs.Parts.{item_number, item_owned}
use Rattle.smv_script_terms.specs.Questions.{codes_of}
use Rattle.smv_script_terms.proofs.Walked.{walk_starts}
use Rattle.smv_script_terms.proofs.Formed.{item_numbers, items_end, items_go_on}
use Rattle.smv_script_terms.proofs.formulas.add_items.Goals as goal

pub items-init : goal.items-init
items-init c =
    let part = item_parts (parts_plain c.args.flat.now.parts) (codes_of c.args.coding.now) c.args.when in
    let items = c.args.flat.now.parts.items.now in
    let s = c.args.chains.now.items in
    walk_starts (item_owned part 0 (map item_plain items)) (map item_number items) s.firsts.items s.nexts.items (instance_count c.args.flat.now.parts) c.args.i c.first-k.result (map plain c.args.all.now.items)
    (item_numbers part 0 items) c.requires.chains.items c.requires.number c.first-k.ensures

pub items-preserved : goal.items-preserved
items-preserved c =
    let part = item_parts (parts_plain c.args.flat.now.parts) (codes_of c.args.coding.now) c.args.when in
    let s = c.args.chains.now.items in
    items_go_on part c.args.flat.now.parts.items.now s.firsts.items s.nexts.items (instance_count c.args.flat.now.parts) c.args.i c.items.k c.next-k.result c.index-flat-k.result (map plain c.items.all.items) (map plain c.add_item.new.all.items) _
    c.requires.chains.items c.requires.number c.items-test.true c.index-flat-k.is c.in_ok-add_item.ensures c.next-k.ensures c.items.invariant

pub returns : goal.returns
returns c =
    items_end c.args.i c.items.k (parts_plain c.args.flat.now.parts) (codes_of c.args.coding.now) c.args.when c.args.flat.now.parts.items.now (map plain c.items.all.items) (map plain c.args.all.now.items) c.items-test.false c.items.invariant
